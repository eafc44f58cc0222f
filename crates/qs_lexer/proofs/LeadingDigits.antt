-- The first digits of a number: those that a division by a power of 10 leaves.
use Rattle.std.proofs.Common.{◌≡◌, ℕ, ◌+◌, ◌-◌, ◌*◌, ◌/◌, ◌<◌, ◌≤◌, ◌^◌, Bool, true, false, cond, subst, ◌⊎◌, inl, inr, List, [], ◌∷◌, length, take, refl, ap, sym, ◌∙◌, arith, zero, suc}
use Rattle.std.specs.Char.{digit_value, is_digit}
use Rattle.std.specs.List.{filter, fold}
use Rattle.std.proofs.Math.Nat.{div-div-eq-div-mul, div-one, zero-div, one-le-pow, lt-div-mul-add}
use Rattle.std.proofs.lemmas.Bool.{cases_lt}
use Rattle.std.proofs.lemmas.Nat.{pow-add, div-mul-add}
use Rattle.std.proofs.lemmas.Bool.Decides.{nat_tests}
use Rattle.std.proofs.lemmas.Grind.{pow_more}
use Rattle.qs_lexer.specs.Values.{with_digit, value_of}

-- whether a character is a decimal digit
abbrev pub is_decimal : ℕ → Bool
is_decimal c = is_digit c 10

-- the digits of a text
abbrev pub digits_of : List ℕ → List ℕ
digits_of t = filter is_decimal t

pub digit_below : (c : ℕ) → is_decimal c ≡ true → digit_value c < 10
digit_below c h = grind (arith, nat_tests)

-- one more division by 10
drop_one : (n d v k : ℕ) → d < 10 → v / 10 ^ k ≡ n * 10 + d → v / 10 ^ suc k ≡ n
drop_one n d v k below e = ap (λ p. v / p) (ap (λ j. 10 ^ j) (omega arith) ∙ pow_more 10 k) ∙ sym (div-div-eq-div-mul v (10 ^ k) 10) ∙ ap (λ q. q / 10) e ∙ div-mul-add n 10 d below

-- a division by 10 for each digit drops them
drop_digits : (n : ℕ) (t : List ℕ) → fold (with_digit 10) n t / 10 ^ length (digits_of t) ≡ n
drop_digits n [] = div-one n
drop_digits n (c ∷ cs) = by (is_decimal c) refl (λ m. drop_digits m cs)
  where
    by : (b : Bool) → is_decimal c ≡ b → ((m : ℕ) → fold (with_digit 10) m cs / 10 ^ length (digits_of cs) ≡ m) → fold (with_digit 10) (cond b (n * 10 + digit_value c) n) cs / 10 ^ length (cond b (c ∷ digits_of cs) (digits_of cs)) ≡ n
    by true h rest = drop_one n (digit_value c) (fold (with_digit 10) (n * 10 + digit_value c) cs) (length (digits_of cs)) (digit_below c h) (rest (n * 10 + digit_value c))
    by false h rest = rest n

-- the first digits, which are the number over a power of 10
first_digits : (n left : ℕ) (t : List ℕ) → fold (with_digit 10) n (take left (digits_of t)) ≡ fold (with_digit 10) n t / 10 ^ (length (digits_of t) - left)
first_digits n zero t =
    let all : length (digits_of t) - 0 ≡ length (digits_of t) = omega arith in
    sym (ap (λ k. fold (with_digit 10) n t / 10 ^ k) all ∙ drop_digits n t)
first_digits n (suc left) [] =
    let none : 0 - suc left ≡ 0 = omega arith in
    sym (ap (λ k. n / 10 ^ k) none ∙ div-one n)
first_digits n (suc left) (c ∷ cs) = by (is_decimal c) refl (λ m. first_digits m left cs) (first_digits n (suc left) cs)
  where
    by : (b : Bool) → is_decimal c ≡ b → ((m : ℕ) → fold (with_digit 10) m (take left (digits_of cs)) ≡ fold (with_digit 10) m cs / 10 ^ (length (digits_of cs) - left)) → (fold (with_digit 10) n (take (suc left) (digits_of cs)) ≡ fold (with_digit 10) n cs / 10 ^ (length (digits_of cs) - suc left)) → fold (with_digit 10) n (take (suc left) (cond b (c ∷ digits_of cs) (digits_of cs))) ≡ fold (with_digit 10) (cond b (n * 10 + digit_value c) n) cs / 10 ^ (length (cond b (c ∷ digits_of cs) (digits_of cs)) - suc left)
    by true h some all =
        let digit : with_digit 10 n c ≡ n * 10 + digit_value c = ap (λ b. cond b (n * 10 + digit_value c) n) h in
        let less : length (c ∷ digits_of cs) - suc left ≡ length (digits_of cs) - left = omega arith in
        ap (λ m. fold (with_digit 10) m (take left (digits_of cs))) digit ∙ some (n * 10 + digit_value c) ∙ ap (λ k. fold (with_digit 10) (n * 10 + digit_value c) cs / 10 ^ k) (sym less)
    by false h some all = all

-- as many first digits as a division by a power of 10 leaves
pub leading_digits : (last : ℕ) (t : List ℕ) → value_of 10 (take (length (digits_of t) - last) (digits_of t)) ≡ value_of 10 t / 10 ^ last
leading_digits last t = first_digits 0 (digits - last) t ∙ rest (cases_lt digits last)
  where
    digits : ℕ
    digits = length (digits_of t)

    rest : ((digits < last) ⊎ (last ≤ digits)) → value_of 10 t / 10 ^ (digits - (digits - last)) ≡ value_of 10 t / 10 ^ last
    rest (inl h) =
        let whole : digits - (digits - last) ≡ digits = omega arith in
        let more : digits + (last - digits) ≡ last = omega arith in
        ap (λ k. value_of 10 t / 10 ^ k) whole ∙ drop_digits 0 t
        ∙ sym (ap (λ k. value_of 10 t / 10 ^ k) (sym more) ∙ ap (λ p. value_of 10 t / p) (pow-add 10 digits (last - digits))
        ∙ sym (div-div-eq-div-mul (value_of 10 t) (10 ^ digits) (10 ^ (last - digits))) ∙ ap (λ q. q / 10 ^ (last - digits)) (drop_digits 0 t) ∙ zero-div (10 ^ (last - digits)))
    rest (inr h) = ap (λ k. value_of 10 t / 10 ^ k) (omega (arith, h))

below : (v p : ℕ) → 0 < p → v / p ≡ 0 → v < p
below v p above e = let fact = subst (λ q. v < q * p + p) e (lt-div-mul-add {a = v} {b = p} above) in omega (arith, fact)

-- a number is below the power of 10 of its digits
pub value_below : (t : List ℕ) → value_of 10 t < 10 ^ length (digits_of t)
value_below t = below (value_of 10 t) (10 ^ length (digits_of t)) (omega (arith, one-le-pow (length (digits_of t)) 10 (omega arith))) (drop_digits 0 t)
