-- The digits of a text: each is one, and there is one at least.
use Rattle.std.proofs.Common.{◌≡◌, ℕ, List, [], ◌∷◌, Bool, true, false, IsTrue, length, refl, ◌≤◌, arith}
use Rattle.std.proofs.lemmas.Bool.Decides.{nat_tests}
use Rattle.std.specs.List.{list_all}
use Rattle.qs_lexer.specs.Forms.{goes_on, is_binary_digit}
use Rattle.qs_tree.specs.Texts.{digits_alone, is_bits}

digits_step : (c : ℕ) (cs : List ℕ) (b : Bool) → is_binary_digit c ≡ b → list_all is_binary_digit (digits_alone cs) ≡ true → list_all is_binary_digit (digits_alone (c ∷ cs)) ≡ true
digits_step c cs true e h = rw (e, e) h
digits_step c cs false e h = rw e h

pub all_digits : (text : List ℕ) → list_all is_binary_digit (digits_alone text) ≡ true
all_digits [] = refl
all_digits (c ∷ cs) = digits_step c cs (is_binary_digit c) refl (all_digits cs)

one_step : (c : ℕ) (cs : List ℕ) (b : Bool) → is_binary_digit c ≡ b → goes_on is_binary_digit false (c ∷ cs) ≡ true → 1 ≤ length (digits_alone (c ∷ cs))
one_step c cs true e h = rw e (omega arith)
one_step c cs false e h = absurd (grind (arith, e, h))

pub one_at_least : (text : List ℕ) → goes_on is_binary_digit false text ≡ true → 1 ≤ length (digits_alone text)
one_at_least [] h = absurd cc
one_at_least (c ∷ cs) h = one_step c cs (is_binary_digit c) refl h

-- what is left of a text of digits is from 1 to 64 digits, where it isn't longer
pub bits_made : (text : List ℕ) → goes_on is_binary_digit false text ≡ true → length (digits_alone text) ≤ 64 → IsTrue (is_bits (digits_alone text))
bits_made text h few =
    let all = all_digits text in
    let one = one_at_least text h in
    rw all (grind (arith, nat_tests, one, few))
