-- A piece of ASCII alone, cut off by its length.
use Rattle.std.proofs.Common.{◌≡◌, ℕ, ◌+◌, ◌-◌, ◌<◌, List, Bool, length, take, drop, sym, ap, ◌∙◌, subst, arith, length-append}
use Rattle.std.proofs.Math.Seq.{take-append_seam, drop-append_seam}
use Rattle.std.specs.List.{slice_index}
use Rattle.std.specs.Str.{IsCharBoundary, IsUtf8}
use Rattle.std.proofs.lemmas.Str.{IsCharBoundary-after_ascii, IsUtf8-drop, IsUtf8-from_ascii}
use Rattle.std.proofs.Math.ListN.{get_or-append}
use Rattle.qs_lexer.specs.declared.shape.Shape.{Shape}
use Rattle.qs_lexer.specs.steps.Runs.{IsAsciiPiece, IsInLine}
use Rattle.qs_lexer.specs.steps.Scan.{Begins, IsBehind}
use Rattle.qs_lexer.proofs.PieceLemmas.{begins_front}

module _ (first : Bool) (text : List ℕ) (shape : Shape) (size : ℕ) (in_line : Bool) (utf8 : IsUtf8 text) (is : IsAsciiPiece first text shape size in_line) where
  last_is_ascii : slice_index text (size - 1) < 128
  last_is_ascii =
      let inside : size - 1 < length is.piece = omega (arith, is.some, is.count) in
      let same = ap (λ (t : List ℕ). slice_index t (size - 1)) is.whole ∙ get_or-append is.piece is.after 0 (size - 1) inside in
      subst (λ b. b < 128) (sym same) (is.ascii (size - 1))

  pub ascii_boundary : IsCharBoundary text size
  ascii_boundary =
      let i = size - 1 in
      subst (IsCharBoundary text) (let e : i + 1 ≡ size = omega (arith, is.some) in e) (IsCharBoundary-after_ascii text i utf8 (omega (arith, is.some, is.count, ap length is.whole, length-append is.piece is.after)) last_is_ascii)

  after_is : drop size text ≡ is.after
  after_is = ap (λ n. drop n text) (sym is.count) ∙ ap (drop (length is.piece)) is.whole ∙ drop-append_seam is.piece is.after

  behind : IsBehind text is.after
  behind = (is.piece, IsUtf8-from_ascii is.piece is.ascii, subst IsUtf8 after_is (IsUtf8-drop text size utf8 ascii_boundary), is.whole)

  front_is : (front : List ℕ) → front ≡ take size text → front ≡ is.piece
  front_is front cut = cut ∙ ap (λ n. take n text) (sym is.count) ∙ ap (take (length is.piece)) is.whole ∙ take-append_seam is.piece is.after

  pub ascii_begins : (front back : List ℕ) → front ≡ take size text → back ≡ drop size text → Begins first text shape front back
  unfolding behind
  ascii_begins front back cut rest =
      let begins = begins_front first text is.after shape behind is.found in
      subst (Begins first text shape front) (sym (rest ∙ after_is)) (subst (λ p. Begins first text shape p is.after) (sym (front_is front cut)) begins)

  pub ascii_in_line : (front : List ℕ) → front ≡ take size text → IsInLine in_line front
  ascii_in_line front cut = subst (IsInLine in_line) (sym (front_is front cut)) (λ e. (is.ascii, is.line e))
