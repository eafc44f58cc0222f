-- The longest piece at a place is the only one, and what it holds is one thing.
use Rattle.std.proofs.Common.{◌≡◌, ℕ, pos, ◌^◌, List, [], ◌∷◌, ◌++◌, Bool, Some, None, length, take, sym, ap, ◌∙◌, arith}
use Rattle.std.proofs.Math.Seq.{take-append_seam}
use Rattle.std.proofs.lemmas.Int.{ints}
use Rattle.std.proofs.lemmas.List.{append_cancel_left}
use Rattle.std.specs.List.{slice_get}
use Rattle.qs_lexer.specs.declared.shape.Shape.{Shape}
use Rattle.qs_lexer.specs.declared.shape.Shape.TheVariants.{Gap, OpenComment, OpenText, Word, Physical, Whole, Decimal, Time, Text, Sign}
use Rattle.qs_lexer.specs.declared.state.State.TheVariants.{Start}
use Rattle.qs_lexer.specs.declared.token.TokenKind.{TokenKind}
use Rattle.qs_lexer.specs.declared.token.TokenKind.TheVariants as kind
use Rattle.qs_lexer.specs.Forms.{Form}
use Rattle.qs_lexer.specs.Cut.{IsLongest}
use Rattle.qs_lexer.specs.steps.Scan.{run, shape_before}
use Rattle.qs_values.proofs.FracOnce.{frac_once}
use Rattle.qs_lexer.specs.Values.{KindIs, scaled}
use Rattle.qs_lexer.proofs.Complete.{complete}

-- two fronts of one text of the same length are one
same_front : (text t a u b : List ℕ) → text ≡ t ++ a → text ≡ u ++ b → length t ≡ length u → t ≡ u
same_front text t a u b first second same =
    sym (take-append_seam t a) ∙ ap (take (length t)) (sym first ∙ second) ∙ ap (λ n. take n (u ++ b)) same ∙ take-append_seam u b

pub longest_once : {first : Bool} {text : List ℕ} {f g : Shape} {t a u b : List ℕ} → IsLongest first text f t a → IsLongest first text g u b → (f ≡ g) × (t ≡ u) × (a ≡ b)
longest_once {first} {text} {f} {g} {t} {a} {u} {b} one other =
    let same : length t ≡ length u = omega (arith, other.longest f t a one.whole one.form, one.longest g u b other.whole other.form) in
    let piece = same_front text t a u b one.whole other.whole same in
    let after = append_cancel_left t a b (sym one.whole ∙ other.whole ∙ ap (λ p. p ++ b) (sym piece)) in
    let ends = complete first t a f one.form in
    let ends_so = complete first u b g other.form in
    let shape : Some f ≡ Some g = sym ends ∙ ap (λ p. shape_before (run (Start first) p) (slice_get a 0)) piece ∙ ap (λ (r : List ℕ). shape_before (run (Start first) u) (slice_get r 0)) after ∙ ends_so in
    (cc, piece, after)

no_piece : (first : Bool) (f : Shape) (t a : List ℕ) → [] ≡ t ++ a → Form first f t a → ⊥
no_piece first f [] a whole form = let none : None ≡ Some f = complete first [] a f form in absurd (cc)
no_piece first f (c ∷ cs) a whole form = absurd (cc)

-- no piece is empty
pub some_piece : {first : Bool} {f : Shape} {t a : List ℕ} → IsLongest first [] f t a → ⊥
some_piece {first} {f} {t} {a} longest = no_piece first f t a longest.whole longest.form

pub kind_once : (form : Shape) (t : List ℕ) (k l : TokenKind) → KindIs form t k → KindIs form t l → k ≡ l
kind_once Gap t k l is so = absurd is
kind_once OpenComment t k l is so = absurd is
kind_once OpenText t k l is so = absurd is
kind_once Word t k l is so = is ∙ sym so
kind_once Physical t k l is so = is.1 ∙ sym so.1
kind_once Whole t k l is so = is.1 ∙ sym so.1
kind_once Decimal t k l is so = is.2 ∙ ap kind.Decimal (frac_once (pos (scaled t)) (pos (10 ^ 17)) is.0 so.0 (λ e. omega (arith, ints, e)) is.1 so.1) ∙ sym so.2
kind_once (Time unit) t k l is so = is.2 ∙ ap (λ f. kind.Time f unit) (frac_once (pos (scaled t)) (pos (10 ^ 17)) is.0 so.0 (λ e. omega (arith, ints, e)) is.1 so.1) ∙ sym so.2
kind_once Text t k l is so = is ∙ sym so
kind_once Sign t k l is so = is ∙ sym so
