-- A mantissa times one power of 10, over another.
use Rattle.std.proofs.Common.{◌≡◌, ℕ, ◌+◌, ◌-◌, ◌*◌, ◌/◌, ◌<◌, ◌≤◌, ◌^◌, inl, inr, ap, sym, ◌∙◌, arith, zero, suc}
use Rattle.std.specs.Prelude.{min}
use Rattle.std.proofs.Math.Nat.{zero-mul, min-eq_left, div-eq_of_lt, mul_comm, mul_assoc, mul-div_cancel, mul-div-mul_left, mul-le-mul_right, one-le-pow, pow-le-pow_right}
use Rattle.std.proofs.lemmas.Bool.{cases_lt}
use Rattle.std.proofs.lemmas.Nat.{pow-add}
use Rattle.qs_lexer.proofs.CutFolds.{cut_step}

power_above : (k : ℕ) → 0 < 10 ^ k
power_above k = omega (arith, one-le-pow k 10 (omega arith))

-- a product of a number that is cut
pub product_cut : (m n k : ℕ) → n ≡ min m (10 ^ 36) → min (n * 10 ^ k) (10 ^ 36) ≡ min (m * 10 ^ k) (10 ^ 36)
product_cut m n k e = ap (λ x. min (x * 10 ^ k) (10 ^ 36)) e ∙ omega (arith, cut_step (10 ^ 36) m (10 ^ k) 0 (power_above k))

-- a power of 10 over a lower one
pub over_lower : (m up down : ℕ) → down ≤ up → m * 10 ^ up / 10 ^ down ≡ m * 10 ^ (up - down)
over_lower m up down h =
    let e : m * 10 ^ up ≡ m * 10 ^ (up - down) * 10 ^ down = ap (λ k. m * 10 ^ k) (omega arith) ∙ ap (λ p. m * p) (pow-add 10 (up - down) down) ∙ sym (mul_assoc m (10 ^ (up - down)) (10 ^ down)) in
    ap (λ n. n / 10 ^ down) e ∙ mul-div_cancel (m * 10 ^ (up - down)) (power_above down)

-- a power of 10 over a higher one
pub over_higher : (m up down : ℕ) → up < down → m * 10 ^ up / 10 ^ down ≡ m / 10 ^ (down - up)
over_higher m up down h =
    let e : 10 ^ down ≡ 10 ^ up * 10 ^ (down - up) = ap (λ k. 10 ^ k) (omega arith) ∙ pow-add 10 up (down - up) in
    ap (λ p. m * 10 ^ up / p) e ∙ ap (λ n. n / (10 ^ up * 10 ^ (down - up))) (mul_comm m (10 ^ up)) ∙ mul-div-mul_left m (10 ^ (down - up)) (power_above up)

reaches : (n k : ℕ) → 0 < n → 36 ≤ k → 10 ^ 36 ≤ n * 10 ^ k
reaches n k above far = omega (arith, pow-le-pow_right {n = 10} (omega arith) far, mul-le-mul_right {m = 1} {n = n} (10 ^ k) (omega arith))

-- a power of 10 from 10^36 on takes any number but 0 to 10^36
pub power_cut : (n up : ℕ) → min (n * 10 ^ min up 36) (10 ^ 36) ≡ min (n * 10 ^ up) (10 ^ 36)
power_cut zero up = omega arith
power_cut (suc n) up =
    elim (cases_lt up 36) [
      | inl h ↦ ap (λ k. min (suc n * 10 ^ k) (10 ^ 36)) (omega arith)
      | inr h ↦ omega (arith, reaches (suc n) (min up 36) (omega arith) (omega arith), reaches (suc n) up (omega arith) h)
    ]

over_more : (m digits k : ℕ) → m < 10 ^ digits → digits + 17 ≤ k → m * 10 ^ 17 / 10 ^ k ≡ 0
over_more m digits k small far = div-eq_of_lt (omega (arith, pow-add 10 digits 17, pow-le-pow_right {n = 10} (omega arith) far))

-- behind a minus an exponent above the count of the digits may be cut
pub cut_minus : (m p e most digits : ℕ) → m < 10 ^ digits → digits + 17 ≤ most → m * 10 ^ 17 / 10 ^ (p + min e most) ≡ m * 10 ^ 17 / 10 ^ (p + e)
cut_minus m p e most digits small far =
    elim (cases_lt most e) [
      | inl h ↦ over_more m digits (p + min e most) small (omega arith) ∙ sym (over_more m digits (p + e) small (omega arith))
      | inr h ↦ ap (λ k. m * 10 ^ 17 / 10 ^ (p + k)) (min-eq_left h)
    ]

reaches_over : (m up p : ℕ) → 0 < m → p + 36 ≤ up → 10 ^ 36 ≤ m * 10 ^ up / 10 ^ p
reaches_over m up p above far = omega (arith, over_lower m up p (omega arith), reaches m (up - p) above (omega arith))

-- where none stands, an exponent far above the count of the places may be cut
pub cut_plus : (m p e most : ℕ) → p + 36 ≤ most → min (m * 10 ^ (17 + min e most) / 10 ^ p) (10 ^ 36) ≡ min (m * 10 ^ (17 + e) / 10 ^ p) (10 ^ 36)
cut_plus zero p e most far = ap (λ n. min (n / 10 ^ p) (10 ^ 36)) (zero-mul (10 ^ (17 + min e most)) ∙ sym (zero-mul (10 ^ (17 + e))))
cut_plus (suc m) p e most far =
    elim (cases_lt most e) [
      | inl h ↦ omega (arith, reaches_over (suc m) (17 + min e most) p (omega arith) (omega arith), reaches_over (suc m) (17 + e) p (omega arith) (omega arith))
      | inr h ↦ ap (λ k. min (suc m * 10 ^ (17 + k) / 10 ^ p) (10 ^ 36)) (min-eq_left h)
    ]
