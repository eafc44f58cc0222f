-- The reader tells each form of a text.
use Rattle.std.proofs.Common.{◌≡◌, ◌⊎◌, inl, inr, ℕ, List, [], ◌∷◌, ◌++◌, Bool, true, false, ◌&&◌, nat_eq, codes, slice_get, Option, Some, IsTrue, refl, ap, sym, subst₂, true≢false}
use Rattle.std.specs.Char.{is_ascii_digit}
use Rattle.std.specs.List.{list_all}
use Rattle.std.proofs.lemmas.Bool.{and_parts, cases_Bool, eqb-true}
use Rattle.qs_values.specs.Names.{begins_word, continues_word}
use Rattle.qs_lexer.specs.declared.shape.Shape.{Shape}
use Rattle.qs_lexer.specs.declared.shape.Shape.TheVariants.{Gap, OpenComment, OpenText, Word, Physical, Whole, Decimal, Time, Text, Sign}
use Rattle.qs_lexer.specs.declared.state.State.TheVariants as state
use Rattle.qs_lexer.specs.Forms.{EndsLine, Form, IsGap, IsWord, is_in_line}
use Rattle.qs_lexer.specs.steps.Scan.{run, shape_before}
use Rattle.qs_lexer.proofs.Runs.{line_stays, physical_stays, stayed, word_stays}
use Rattle.qs_lexer.proofs.Signs.{complete_sign}
use Rattle.qs_lexer.proofs.FirstCharacters.{word_starts}
use Rattle.qs_lexer.proofs.Comments.{comment_ends, stays_open}
use Rattle.qs_lexer.proofs.Texts.{next_from_ends, stays_quote, text_ends}
use Rattle.qs_lexer.proofs.Pragmas.{left_behind_p, pragma_line, pragma_word}
use Rattle.qs_lexer.proofs.NumberComplete.{complete-decimal, complete-time, complete-whole}

-- a line to its end
line_told : (line after : List ℕ) → IsTrue (list_all is_in_line line) → EndsLine after → shape_before (run state.Line line) (slice_get after 0) ≡ Some Gap
line_told line after inside ends = rw (stayed state.Line is_in_line line_stays line inside, next_from_ends after ends) refl

gap_told : (first : Bool) (t after : List ℕ) → IsGap first t after → shape_before (run (state.Start first) t) (slice_get after 0) ≡ Some Gap
gap_told first t after (inl blank) = rw (blank.1, blank.2) refl
gap_told first t after (inr (inl comment)) = rw comment.1 (line_told comment.0 after comment.2 comment.3)
gap_told first t after (inr (inr (inl comment))) = rw (comment.1, comment_ends comment.0 comment.2) refl
gap_told first t after (inr (inr (inr (inl annotation)))) = rw (annotation.0, annotation.2) (line_told annotation.1 after annotation.3 annotation.4)
gap_told first t after (inr (inr (inr (inr pragma)))) = rw (pragma.0, pragma.3) (by pragma.1 pragma.4)
  where
    by : (word : List ℕ) → (word ≡ codes "pragma") ⊎ (word ≡ codes "#pragma") → shape_before (run (state.Start true) (word ++ pragma.2)) (slice_get after 0) ≡ Some Gap
    by word (inl is) = rw is (pragma_line false pragma.2 (slice_get after 0) pragma.5 pragma.6 (next_from_ends after pragma.7))
    by word (inr is) = rw is (pragma_line true pragma.2 (slice_get after 0) pragma.5 pragma.6 (next_from_ends after pragma.7))

-- a word where a pragma may begin, that begins with `p`
p_told : (cs : List ℕ) (next : Option ℕ) → IsWord true (codes "p" ++ cs) → shape_before (run (state.Start true) (codes "p" ++ cs)) next ≡ Some Word
p_told cs next is = pragma_word left_behind_p cs next is.0 (λ e. is.1 (refl, ap (λ t. codes "p" ++ t) e))

word_told : (first : Bool) (t : List ℕ) (next : Option ℕ) → IsWord first t → shape_before (run (state.Start first) t) next ≡ Some Word
word_told first [] next is = absurd (true≢false (sym is.0))
word_told first (c ∷ cs) next is = elim (cases_Bool (nat_eq c 112 && first)) [
  | inl p ↦ (let parts = and_parts (nat_eq c 112) first p in subst₂ (λ d b. IsWord b (d ∷ cs) → shape_before (run (state.Start b) (d ∷ cs)) next ≡ Some Word) (sym (eqb-true c 112 parts.0)) (sym parts.1) (p_told cs next) is)
  | inr other ↦ (let parts = and_parts (begins_word c) (list_all continues_word cs) is.0 in rw (word_starts first c parts.0 other, stayed state.Word continues_word word_stays cs parts.1) refl)
]

physical_told : (first : Bool) (ds : List ℕ) (next : Option ℕ) → IsTrue (list_all is_ascii_digit ds) → ¬ (ds ≡ []) → shape_before (run (state.Start first) (codes "$" ++ ds)) next ≡ Some Physical
physical_told first [] next digits some = absurd (some refl)
physical_told first (c ∷ cs) next digits some =
    let parts = and_parts (is_ascii_digit c) (list_all is_ascii_digit cs) digits in
    rw (parts.0, stayed state.Physical is_ascii_digit physical_stays cs parts.1) refl

pub complete : (first : Bool) (t after : List ℕ) (shape : Shape) → Form first shape t after → shape_before (run (state.Start first) t) (slice_get after 0) ≡ Some shape
complete first t after Gap is = gap_told first t after is
complete first t after OpenComment is = rw (is.1, is.3, (stays_open false is.0 is.2).1) refl
complete first t after OpenText is = rw (is.1, stays_quote is.0 is.2, next_from_ends after is.3) refl
complete first t after Word is = word_told first t (slice_get after 0) is
complete first t after Physical is = rw is.1 (physical_told first is.0 (slice_get after 0) is.2 is.3)
complete first t after Whole is = complete-whole t is first (slice_get after 0)
complete first t after Decimal is = complete-decimal t is first (slice_get after 0)
complete first t after (Time u) is = complete-time u t is first (slice_get after 0)
complete first t after Text is = rw (is.1, text_ends is.0 is.2) refl
complete first t after Sign is = complete_sign first t (slice_get after 0) is
