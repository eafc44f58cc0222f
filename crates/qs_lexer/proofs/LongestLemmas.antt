-- The longest piece that the reader by states finds is the longest that begins there.
use Rattle.std.proofs.Common.{◌≡◌, ◌⊎◌, inl, inr, ℕ, ◌≤◌, ◌<◌, List, [], ◌∷◌, ◌++◌, Bool, Option, Some, None, length, sym, refl, ap, ◌∙◌, arith, length-append}
use Rattle.std.specs.List.{slice_get}
use Rattle.qs_lexer.specs.declared.shape.Shape.{Shape}
use Rattle.qs_lexer.specs.declared.state.State.{State}
use Rattle.qs_lexer.specs.declared.state.State.TheVariants.{Start}
use Rattle.qs_lexer.specs.Forms.{Form}
use Rattle.qs_lexer.specs.steps.Scan.{Found, found_at, later, longest_from, run, shape_before, step}
use Rattle.qs_lexer.specs.Cut.{BeginsNothing, IsLongest}
use Rattle.qs_lexer.proofs.Sound.{sound}
use Rattle.qs_lexer.proofs.Complete.{complete}

later_is : (f g : Option Found) (x : Found) → later f g ≡ Some x → (f ≡ Some x) ⊎ (g ≡ Some x)
later_is None g x is = inr is
later_is (Some f) g x is = inl is

found_at_is : (shape : Option Shape) (behind : List ℕ) (x : Found) → found_at shape behind ≡ Some x → (shape ≡ Some x.0) × (behind ≡ x.1)
found_at_is None behind x is = absurd (cc)
found_at_is (Some shape) behind x is = (cc, cc)

-- some characters of a text, from a state on, and where they end
abbrev EndsIn : State → List ℕ → Shape → List ℕ → Type 0
EndsIn state t shape after = (c : ℕ) × (front : List ℕ) × (t ≡ c ∷ front ++ after) × (shape_before (run state (c ∷ front)) (slice_get after 0) ≡ Some shape)

-- what is found ends there
found_ends : (state : State) (t : List ℕ) (x : Found) → longest_from state t ≡ Some x → EndsIn state t x.0 x.1
found_ends state [] x is = absurd (cc)
found_ends state (c ∷ cs) x is =
    elim (later_is (longest_from (step state c) cs) _ x is) as (λ _. EndsIn state (c ∷ cs) x.0 x.1) [
      | inl more ↦ let later_on = found_ends (step state c) cs x more in
          (c, later_on.0 ∷ later_on.1, ap (λ (t : List ℕ). c ∷ t) later_on.2, later_on.3)
      | inr here ↦ let at_once = found_at_is _ cs x here in
          (c, [], ap (λ (t : List ℕ). c ∷ t) at_once.1, ap (λ (t : List ℕ). shape_before (step state c) (slice_get t 0)) (sym at_once.1) ∙ at_once.0)
    ]

pub found_or_none : (f : Option Found) → (f ≡ None) ⊎ ((x : Found) × (f ≡ Some x))
found_or_none None = inl refl
found_or_none (Some x) = inr (x, refl)

-- what ends anywhere is found, or something longer is
ends_found : (state : State) (c : ℕ) (front rest : List ℕ) (shape : Shape) → shape_before (run state (c ∷ front)) (slice_get rest 0) ≡ Some shape → (x : Found) × (longest_from state (c ∷ front ++ rest) ≡ Some x) × (length x.1 ≤ length rest)
ends_found state c [] rest shape ends =
    elim (found_or_none (longest_from (step state c) rest)) [
      | inl none ↦ ((shape, rest), rw (none, ends) refl, omega arith)
      | inr more ↦ let e = found_ends (step state c) rest more.0 more.1 in
          (more.0, rw more.1 refl, omega (arith, ap length e.2, length-append e.1 more.0.1))
    ]
ends_found state c (d ∷ ds) rest shape ends =
    let more = ends_found (step state c) d ds rest shape ends in
    (more.0, ap (λ (f : Option Found). later f (found_at (shape_before (step state c) (slice_get (d ∷ ds ++ rest) 0)) (d ∷ ds ++ rest))) more.1, more.2)

-- each form that begins here is found, or something longer is
form_found : (first : Bool) (text : List ℕ) (shape : Shape) (t rest : List ℕ) → text ≡ t ++ rest → Form first shape t rest → (x : Found) × (longest_from (Start first) text ≡ Some x) × (length x.1 ≤ length rest)
form_found first text shape [] rest whole form =
    let none : None ≡ Some shape = complete first [] rest shape form in absurd (cc)
form_found first text shape (c ∷ cs) rest whole form =
    let found = ends_found (Start first) c cs rest shape (complete first (c ∷ cs) rest shape form) in
    (found.0, ap (longest_from (Start first)) whole ∙ found.1, found.2)

-- a piece that isn't empty, the longest that begins here
abbrev pub IsPiece : Bool → List ℕ → Shape → List ℕ → Type 0
IsPiece first text shape after = (piece : List ℕ) × IsLongest first text shape piece after × (0 < length piece)

pub longest_is : (first : Bool) (text : List ℕ) (shape : Shape) (after : List ℕ) → longest_from (Start first) text ≡ Some (shape, after) → IsPiece first text shape after
longest_is first text shape after found =
    let ends = found_ends (Start first) text (shape, after) found in
    let piece : List ℕ = ends.0 ∷ ends.1 in (
      piece,
      record {
        whole = ends.2;
        form = sound first piece after shape ends.3;
        longest = λ other t rest whole form.
            let longer = form_found first text other t rest whole form in
            let same : longer.0.1 ≡ after = cc (sym longer.1 ∙ found) in
            omega (arith, longer.2, ap length same, ap length (sym ends.2 ∙ whole), length-append ends.1 after, length-append t rest);
      },
      omega arith,
    )

pub none_begins : (first : Bool) (text : List ℕ) → longest_from (Start first) text ≡ None → BeginsNothing first text
none_begins first text none shape t rest whole form =
    let found = form_found first text shape t rest whole form in
    let not : None ≡ Some found.0 = sym none ∙ found.1 in
    absurd (cc)
