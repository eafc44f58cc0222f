-- Pragmas, as the reader follows them letter by letter.
use Rattle.std.proofs.Common.{◌≡◌, ℕ, ◌+◌, List, [], ◌∷◌, ◌++◌, Bool, true, false, ◌&&◌, ◌||◌, not, if◌then◌else◌, nat_eq, nat_lt, codes, Option, Some, refl, ap, sym, ◌∙◌, true≢false}
use Rattle.std.specs.List.{list_all}
use Rattle.std.proofs.lemmas.Bool.{and_from, and_parts, eqb-true, eq-eqb, not-true, or_parts, cond_both}
use Rattle.std.proofs.lemmas.Option.{same_Some}
use Rattle.qs_values.specs.Names.{continues_word}
use Rattle.qs_lexer.specs.declared.shape.Shape.{Shape}
use Rattle.qs_lexer.specs.declared.shape.Shape.TheVariants as shape
use Rattle.qs_lexer.specs.declared.state.State.{State}
use Rattle.qs_lexer.specs.declared.state.State.TheVariants.{Nothing, Line, Pragma, Word}
use Rattle.qs_lexer.specs.Forms.{begins, is_in_line}
use Rattle.qs_lexer.specs.steps.Scan.{ends_line, letter_of_pragma, run, shape_before}
use Rattle.qs_lexer.proofs.Runs.{from_nothing, line_stays, stayed, stays_through, where_so_parts, word_stays}

-- So many letters were read and these are left.
pub data Left : ℕ → List ℕ → Type 0 where
  none : Left 6 []
  one : (n : ℕ) (letters : List ℕ) → nat_lt n 6 ≡ true → nat_eq n 6 ≡ false → continues_word (letter_of_pragma n) ≡ true → Left (n + 1) letters → Left n (letter_of_pragma n ∷ letters)

-- behind a `p`, and behind `#`
pub left_behind_p : Left 1 (codes "ragma")
left_behind_p = one 1 _ refl refl refl (one 2 _ refl refl refl (one 3 _ refl refl refl (one 4 _ refl refl refl (one 5 _ refl refl refl none))))

pub left_behind_hash : Left 0 (codes "pragma")
left_behind_hash = one 0 _ refl refl refl left_behind_p

other_letter : (n c : ℕ) → nat_lt n 6 ≡ true → (nat_lt n 6 && nat_eq c (letter_of_pragma n)) ≡ false → ¬ (c ≡ letter_of_pragma n)
other_letter n c few other same = absurd (true≢false (sym (and_from (nat_lt n 6) (nat_eq c (letter_of_pragma n)) few (eq-eqb c (letter_of_pragma n) same)) ∙ other))

-- ---- what comes to a shape

-- how it goes on: with the letters that are left and a line, or as another word
abbrev pub PragmaGoesOn : Bool → List ℕ → List ℕ → Option ℕ → Shape → Type 0
PragmaGoesOn hash letters cs next shape.Gap =
    (line : List ℕ) × (cs ≡ letters ++ line) × (list_all is_in_line line ≡ true) × (begins continues_word line ≡ false) × (ends_line next ≡ true)
PragmaGoesOn hash letters cs next shape.Word = (hash ≡ false) × (list_all continues_word cs ≡ true) × ¬ (cs ≡ letters)
PragmaGoesOn hash letters cs next _ = ⊥

with_letter : (hash : Bool) (letter : ℕ) (letters cs : List ℕ) (next : Option ℕ) (told : Shape) → continues_word letter ≡ true → PragmaGoesOn hash letters cs next told → PragmaGoesOn hash (letter ∷ letters) (letter ∷ cs) next told
with_letter hash letter letters cs next shape.Gap word goes = (goes.0, ap (λ t. letter ∷ t) goes.1, goes.2, goes.3, goes.4)
with_letter hash letter letters cs next shape.Word word goes = (goes.0, and_from (continues_word letter) (list_all continues_word cs) word goes.1, λ e. goes.2 cc)
with_letter hash letter letters cs next _ word goes = goes

-- what follows the letters, or another character than the next letter, goes on with the word
as_word : (hash : Bool) (letters : List ℕ) (c : ℕ) (cs : List ℕ) (next : Option ℕ) (told : Shape) → continues_word c ≡ true → ¬ (c ∷ cs ≡ letters) → shape_before (run (if hash then Nothing else Word) cs) next ≡ Some told → PragmaGoesOn hash letters (c ∷ cs) next told
as_word true letters c cs next told word other so = absurd (from_nothing cs next told so)
as_word false letters c cs next told word other so =
    let through = stays_through Word continues_word word_stays cs next told so in
    rw (← same_Some shape.Word told through.1) (refl, and_from (continues_word c) (list_all continues_word cs) word through.0, other)

as_line : (hash : Bool) (c : ℕ) (cs : List ℕ) (next : Option ℕ) (told : Shape) → continues_word c ≡ false → is_in_line c ≡ true → shape_before (run Line cs) next ≡ Some told → PragmaGoesOn hash [] (c ∷ cs) next told
as_line hash c cs next told word inside so =
    let through = stays_through Line is_in_line line_stays cs next told so in
    let ended = where_so_parts (ends_line next) shape.Gap told through.1 in
    rw (← ended.1) (c ∷ cs, refl, and_from (is_in_line c) (list_all is_in_line cs) inside through.0, word, ended.0)

pub from_pragma : (hash : Bool) {n : ℕ} {letters : List ℕ} → Left n letters → (cs : List ℕ) (next : Option ℕ) (told : Shape) → shape_before (run (Pragma hash n) cs) next ≡ Some told → PragmaGoesOn hash letters cs next told
from_pragma hash none [] next told h =
    let ended = where_so_parts (ends_line next) shape.Gap told h in
    rw (← ended.1) ([], refl, refl, refl, ended.0)
from_pragma hash none (c ∷ cs) next told h =
    let P : State → Type 0 = λ s. shape_before (run s cs) next ≡ Some told → PragmaGoesOn hash [] (c ∷ cs) next told in
    cond_both (continues_word c) (if hash then Nothing else Word) _ P (λ word so. as_word hash [] c cs next told word (λ e. absurd cc) so)
    (λ other. cond_both (nat_eq c 10) Nothing Line P (λ feed so. absurd (from_nothing cs next told so)) (λ inside so. as_line hash c cs next told other (ap not inside) so)) h
from_pragma hash (one n letters few some word more) [] next told h =
    let told_word = where_so_parts (not hash) shape.Word told (rw some at h) in
    rw (← told_word.1) (not-true hash told_word.0, refl, λ e. absurd cc)
from_pragma hash (one n letters few some word more) (c ∷ cs) next told h =
    let letter = letter_of_pragma n in
    let P : State → Type 0 = λ s. shape_before (run s cs) next ≡ Some told → PragmaGoesOn hash (letter ∷ letters) (c ∷ cs) next told in
    cond_both (nat_lt n 6 && nat_eq c letter) (Pragma hash (n + 1)) _ P
    (λ is so. rw (eqb-true c letter (and_parts (nat_lt n 6) (nat_eq c letter) is).1) (with_letter hash letter letters cs next told word (from_pragma hash more cs next told so)))
    (λ other. cond_both (continues_word c) (if hash then Nothing else Word) _ P
    (λ goes so. as_word hash (letter ∷ letters) c cs next told goes (λ e. other_letter n c few other cc) so)
    (λ ends. cond_both (nat_lt n 6 || nat_eq c 10) Nothing Line P (λ feed so. absurd (from_nothing cs next told so)) (λ no so. absurd (true≢false (sym few ∙ (or_parts (nat_lt n 6) (nat_eq c 10) no).0))))) h

-- ---- pragmas are read, and words that begin like one

pub pragma_word : {n : ℕ} {letters : List ℕ} → Left n letters → (cs : List ℕ) (next : Option ℕ) → list_all continues_word cs ≡ true → ¬ (cs ≡ letters) → shape_before (run (Pragma false n) cs) next ≡ Some shape.Word
pragma_word none [] next word other = absurd (other refl)
pragma_word none (c ∷ cs) next word other =
    let parts = and_parts (continues_word c) (list_all continues_word cs) word in
    rw (parts.0, stayed Word continues_word word_stays cs parts.1) refl
pragma_word (one n letters few some letter more) [] next word other = rw some refl
pragma_word (one n letters few some letter more) (c ∷ cs) next word other =
    let parts = and_parts (continues_word c) (list_all continues_word cs) word in
    cond_both (nat_lt n 6 && nat_eq c (letter_of_pragma n)) (Pragma false (n + 1)) _ (λ s. shape_before (run s cs) next ≡ Some shape.Word)
    (λ is. pragma_word more cs next parts.1 (λ e. other (let same = eqb-true c (letter_of_pragma n) (and_parts (nat_lt n 6) (nat_eq c (letter_of_pragma n)) is).1 in cc)))
    (λ no. rw (parts.0, stayed Word continues_word word_stays cs parts.1) refl)

pub pragma_line : (hash : Bool) (line : List ℕ) (next : Option ℕ) → list_all is_in_line line ≡ true → begins continues_word line ≡ false → ends_line next ≡ true → shape_before (run (Pragma hash 6) line) next ≡ Some shape.Gap
pragma_line hash [] next inside word ended = rw ended refl
pragma_line hash (c ∷ cs) next inside word ended =
    let parts = and_parts (is_in_line c) (list_all is_in_line cs) inside in
    rw (word, not-true (nat_eq c 10) parts.0, stayed Line is_in_line line_stays cs parts.1, ended) refl
