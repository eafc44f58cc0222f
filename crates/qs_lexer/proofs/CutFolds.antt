-- Numbers of digits that are cut to a bound at each digit.
use Rattle.std.proofs.Common.{◌≡◌, ℕ, ◌+◌, ◌*◌, ◌<◌, true, false, cond, inl, inr, List, [], ◌∷◌, refl, ap, ◌∙◌, arith}
use Rattle.std.specs.Prelude.{min}
use Rattle.std.specs.Char.{digit_value, is_digit}
use Rattle.std.specs.List.{fold}
use Rattle.std.proofs.Math.Nat.{le-mul_of_pos_right, min-eq_left, min-eq_right}
use Rattle.std.proofs.lemmas.Bool.{cases_lt}
use Rattle.qs_lexer.specs.Values.{with_digit, value_of}

-- a fold that is cut to `most` at each step, where a step on a cut number comes to the same
cut_fold : (f : ℕ → ℕ → ℕ) (most : ℕ) → ((n c : ℕ) → min (f (min n most) c) most ≡ min (f n c) most) → (n : ℕ) (t : List ℕ) → fold (λ m c. min (f m c) most) (min n most) t ≡ min (fold f n t) most
cut_fold f most same n [] = refl
cut_fold f most same n (c ∷ cs) = ap (λ m. fold (λ m c. min (f m c) most) m cs) (same n c) ∙ cut_fold f most same (f n c) cs

-- a product and a sum of a cut number
pub cut_step : (most n base d : ℕ) → 0 < base → min (min n most * base + d) most ≡ min (n * base + d) most
cut_step most n base d above =
    let p = le-mul_of_pos_right n above in
    let q = le-mul_of_pos_right most above in
    elim (cases_lt most n) [
      | inl h ↦ rw (min-eq_right {n = most} {m = n} (omega arith)) (omega arith)
      | inr h ↦ rw (min-eq_left h) refl
    ]

-- one more digit of a cut number
pub cut_digit : (base most : ℕ) → 0 < base → (n c : ℕ) → min (with_digit base (min n most) c) most ≡ min (with_digit base n c) most
cut_digit base most above n c =
    elim (is_digit c base) as (λ b. min (cond b (min n most * base + digit_value c) (min n most)) most ≡ min (cond b (n * base + digit_value c) n) most) [
      | true ↦ cut_step most n base (digit_value c) above
      | false ↦ omega arith
    ]

-- digits that are cut at each one
pub cut_digits : (base most : ℕ) → 0 < base → (t : List ℕ) → fold (λ n c. min (with_digit base n c) most) 0 t ≡ min (value_of base t) most
cut_digits base most above t = ap (λ n. fold (λ n c. min (with_digit base n c) most) n t) (omega arith) ∙ cut_fold (with_digit base) most (cut_digit base most above) 0 t
