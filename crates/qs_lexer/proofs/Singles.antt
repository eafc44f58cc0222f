-- Blanks, and signs with which no longer sign begins: pieces of one character.
use Rattle.std.proofs.Common.{◌≡◌, ℕ, ◌<◌, List, [], ◌∷◌, Bool, true, false, ◌&&◌, not, nat_eq, if◌then◌else◌, Option, Some, None, refl, ap, sym, ◌∙◌, arith}
use Rattle.std.specs.List.{list_all, slice_get}
use Rattle.std.specs.Str.{chars}
use Rattle.std.proofs.lemmas.Bool.{agree_below_at, eqb-true}
use Rattle.std.proofs.lemmas.Bool.Decides.{nat_tests}
use Rattle.qs_lexer.specs.declared.shape.Shape.{Shape}
use Rattle.qs_lexer.specs.declared.shape.Shape.TheVariants.{Gap, Sign}
use Rattle.qs_lexer.specs.declared.state.State.{State}
use Rattle.qs_lexer.specs.declared.state.State.TheVariants.{Blank, Nothing, One, Start, Two}
use Rattle.qs_lexer.specs.Forms.{is_blank, is_in_line}
use Rattle.qs_lexer.specs.steps.Runs.{IsAsciiPiece, is_single_sign}
use Rattle.qs_lexer.specs.steps.Scan.{Found, at_start, found_at, is_two_signs, later, longest_from, shape_before, step}
use Rattle.qs_lexer.proofs.AsciiRuns.{chars_past_ascii, one_ascii}
use Rattle.qs_lexer.proofs.ReaderLemmas.{found_from_nothing}
use Rattle.qs_lexer.proofs.Runs.{IsLast}

last_finds_none : (s : State) → IsLast s → (cs : List ℕ) → longest_from s cs ≡ None
last_finds_none s last [] = refl
last_finds_none s last (c ∷ cs) =
    ap (λ (n : State). later (longest_from n cs) (found_at (shape_before n (slice_get cs 0)) cs)) (last c)
    ∙ ap (λ (f : Option Found). later f None) (found_from_nothing cs)

-- a piece of one character
single_found : (first : Bool) (c : ℕ) (cs : List ℕ) (s : State) (shape : Shape) → step (Start first) c ≡ s → IsLast s → ((after : Option ℕ) → shape_before s after ≡ Some shape) → longest_from (Start first) (c ∷ cs) ≡ Some (shape, cs)
single_found first c cs s shape stepped last told =
    ap (λ (n : State). later (longest_from n cs) (found_at (shape_before n (slice_get cs 0)) cs)) stepped
    ∙ ap (λ (f : Option Found). later f (found_at (shape_before s (slice_get cs 0)) cs)) (last_finds_none s last cs)
    ∙ ap (λ (t : Option Shape). found_at t cs) (told (slice_get cs 0))

in_line_one : (c : ℕ) → not (nat_eq c 10) ≡ true → list_all is_in_line (c ∷ []) ≡ true
in_line_one c h = ap (λ b. b && true) h

single_piece : (first : Bool) (bytes : List ℕ) (c : ℕ) (s : State) (shape : Shape) → Some c ≡ slice_get bytes 0 → c < 128 → step (Start first) c ≡ s → IsLast s → ((after : Option ℕ) → shape_before s after ≡ Some shape) → IsAsciiPiece first bytes shape 1 (not (nat_eq c 10))
single_piece first [] c s shape is small stepped last told = absurd (cc)
single_piece first (b ∷ bytes) c s shape is small stepped last told =
    let same : c ≡ b = cc in
    record {
      piece = c ∷ [];
      after = bytes;
      whole = ap (λ d. d ∷ bytes) (sym same);
      count = refl;
      some = omega arith;
      ascii = one_ascii c small;
      found = ap (λ d. longest_from (Start first) (chars (d ∷ bytes))) (sym same) ∙ ap (longest_from (Start first)) (chars_past_ascii (c ∷ []) bytes (one_ascii c small)) ∙ single_found first c (chars bytes) s shape stepped last told;
      line = in_line_one c;
    }

blank_below : (c : ℕ) → is_blank c ≡ true → c < 128
blank_below c blank = grind (arith, nat_tests)

pub blank_piece : (first : Bool) (bytes : List ℕ) (c : ℕ) → Some c ≡ slice_get bytes 0 → is_blank c ≡ true → IsAsciiPiece first bytes Gap 1 (not (nat_eq c 10))
blank_piece first bytes c is blank = single_piece first bytes c Blank Gap is (blank_below c blank) (rw blank refl) (λ d. refl) (λ after. refl)

-- ---- signs

sign_below : (c : ℕ) → is_single_sign c ≡ true → c < 128
sign_below c single = grind (arith, nat_tests)

abbrev is_one_of : State → ℕ → Bool
is_one_of (One a) c = nat_eq a c
is_one_of _ c = false

one_of_is : (s : State) (c : ℕ) → is_one_of s c ≡ true → s ≡ One c
one_of_is (One a) c h = ap One (eqb-true a c h)
one_of_is _ c h = absurd (let bad : false ≡ true = h in cc)

sign_is_one : (first : Bool) (c : ℕ) → is_single_sign c ≡ true → (is_single_sign c && is_one_of (at_start first c) c) ≡ true
sign_is_one true c single = sym (agree_below_at is_single_sign (λ d. is_single_sign d && is_one_of (at_start true d) d) 128 c refl (sign_below c single)) ∙ single
sign_is_one false c single = sym (agree_below_at is_single_sign (λ d. is_single_sign d && is_one_of (at_start false d) d) 128 c refl (sign_below c single)) ∙ single

second_part : (a b : Bool) → (a && b) ≡ true → b ≡ true
second_part true b e = e
second_part false b e = absurd (cc)

sign_alone : (c d : ℕ) → is_single_sign c ≡ true → is_two_signs c d ≡ false
sign_alone c d single = grind (arith, nat_tests)

pub sign_piece : (first : Bool) (bytes : List ℕ) (c : ℕ) → Some c ≡ slice_get bytes 0 → is_single_sign c ≡ true → IsAsciiPiece first bytes Sign 1 (not (nat_eq c 10))
sign_piece first bytes c is single =
    single_piece first bytes c (One c) Sign is (sign_below c single) (one_of_is (at_start first c) c (second_part (is_single_sign c) _ (sign_is_one first c single)))
    (λ d. ap (λ two. if two then Two c d else Nothing) (sign_alone c d single)) (λ after. refl)
