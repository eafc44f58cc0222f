-- A piece of a text, cut off by the length of what stands behind it.
use Rattle.std.proofs.Common.{◌≡◌, ℕ, ◌-◌, ◌<◌, List, ◌++◌, Bool, Some, length, take, sym, ap, ◌∙◌, subst, arith, length-append}
use Rattle.std.proofs.Math.Seq.{take-append_seam}
use Rattle.std.proofs.lemmas.List.{append_cancel_right}
use Rattle.std.specs.Str.{IsCharBoundary, chars}
use Rattle.std.proofs.lemmas.Str.{IsCharBoundary-at_seam, chars-append}
use Rattle.qs_lexer.specs.declared.shape.Shape.{Shape}
use Rattle.qs_lexer.specs.declared.state.State.TheVariants.{Start}
use Rattle.qs_lexer.specs.Cut.{IsLongest}
use Rattle.qs_lexer.specs.steps.Scan.{Begins, IsBehind, longest_from}
use Rattle.qs_lexer.proofs.LongestLemmas.{longest_is}

pub front_length : (text front after : List ℕ) → text ≡ front ++ after → length text - length after ≡ length front
front_length text front after whole = omega (arith, ap length whole, length-append front after)

pub cut_requires : (text after : List ℕ) → IsBehind text after → IsCharBoundary text (length text - length after)
cut_requires text after behind =
    rw (front_length text behind.0 after behind.3) (IsCharBoundary-at_seam text behind.0 after behind.3 behind.2)

pub begins_front : (first : Bool) (text after : List ℕ) (shape : Shape) (behind : IsBehind text after) → longest_from (Start first) (chars text) ≡ Some (shape, chars after) → Begins first text shape behind.0 after
begins_front first text after shape behind found =
    let piece = longest_is first (chars text) shape (chars after) found in
    let same : piece.0 ≡ chars behind.0 = append_cancel_right piece.0 (chars behind.0) (chars after) (sym piece.1.whole ∙ ap chars behind.3 ∙ chars-append behind.0 after behind.1) in
    record {
      whole = behind.3;
      piece_utf8 = behind.1;
      after_utf8 = behind.2;
      longest = subst (λ p. IsLongest first (chars text) shape p (chars after)) same piece.1;
      some = subst (λ (p : List ℕ). 0 < length p) same piece.2;
    }

-- what is found, cut off
pub piece_begins : (first : Bool) (text piece after : List ℕ) (shape : Shape) → IsBehind text after → longest_from (Start first) (chars text) ≡ Some (shape, chars after) → piece ≡ take (length text - length after) text → Begins first text shape piece after
piece_begins first text piece after shape behind found cut =
    let same : piece ≡ behind.0 = cut ∙ ap (λ n. take n text) (front_length text behind.0 after behind.3) ∙ ap (take (length behind.0)) behind.3 ∙ take-append_seam behind.0 after in
    subst (λ p. Begins first text shape p after) (sym same) (begins_front first text after shape behind found)
