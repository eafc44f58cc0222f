-- Lowest terms are unique, so a quotient has one answer.
use Rattle.std.proofs.Common.{◌≡◌, ◌≢◌, ℕ, ◌+◌, ◌*◌, ◌/◌, ◌%◌, ◌<◌, ◌≤◌, zero, suc, refl, ap, sym, ◌∙◌, subst, arith, ℤ, pos, negsuc, ◌*ℤ◌, unsigned_abs, inl, inr}
use Rattle.std.specs.Int.{◌∣◌, IsGcd}
use Rattle.std.proofs.Math.Nat.{div-mul_cancel, dvd_of_mul-dvd-mul_right, dvd-mul_left, dvd-mul_right, eq-one_of_dvd-one, dvd_antisymm, eq_of_mul-eq-mul_right}
use Rattle.std.proofs.lemmas.Nat.{mod_below}
use Rattle.std.proofs.lemmas.Nat.Gcd.{IsGcd-from_mod, IsGcd-from_zero, dvd-zero}
use Rattle.std.proofs.lemmas.Int.{ints, unsigned_abs-mul}
use borrow.Author.Differences.{up, down, same_in}
use Rattle.qs_values.specs.Lowest.{IsLowest, IsWide}
use Rattle.qs_values.specs.Number.{IsFrac}
use Rattle.qs_values.specs.declared.number.Frac.{Frac}
use Rattle.qs_values.proofs.LowestLemmas.{above_is, abs_above}

-- two numbers have a greatest common divisor
pub gcd_exists : (n a b : ℕ) → b ≤ n → (g : ℕ) × IsGcd a b g
gcd_exists n a zero h = (a, IsGcd-from_zero a zero refl)
gcd_exists zero a (suc b) h = absurd (omega arith)
gcd_exists (suc n) a (suc b) h =
    let small = mod_below a (suc b) (omega arith) in
    let g = gcd_exists n (suc b) (a % suc b) (omega arith) in
    (g.0, IsGcd-from_mod a (suc b) g.0 g.1)

-- a number that divides a product, and has no divisor in common with one factor, divides the other
divides_other : (a b k : ℕ) → IsGcd a b 1 → b ∣ (a * k) → b ∣ k
divides_other a b zero coprime h = dvd-zero b
divides_other a b (suc m) coprime h =
    let k = suc m in
    let found = gcd_exists (b * k) (a * k) (b * k) (omega arith) in
    let g = found.0 in
    let is = found.1 in
    let of_g : k ∣ g = is.2 k (dvd-mul_left k a) (dvd-mul_left k b) in
    let split : g / k * k ≡ g = div-mul_cancel k of_g in
    let of_a : (g / k) ∣ a = dvd_of_mul-dvd-mul_right {k = k} (g / k) (omega arith) (subst (λ x. x ∣ (a * k)) (sym split) is.0) in
    let of_b : (g / k) ∣ b = dvd_of_mul-dvd-mul_right {k = k} (g / k) (omega arith) (subst (λ x. x ∣ (b * k)) (sym split) is.1) in
    let one : g / k ≡ 1 = eq-one_of_dvd-one (coprime.2 (g / k) of_a of_b) in
    let same : g ≡ k = sym split ∙ ap (λ x. x * k) one ∙ omega arith in
    subst (λ x. b ∣ x) same (is.2 b h (dvd-mul_right b k))

-- two fractions that are n over d, crosswise
crossed : (n d p q r s : ℕ) → 0 < d → p * d ≡ n * q → r * d ≡ n * s → p * s ≡ r * q
crossed n d p q r s above e f =
    let left : p * d * s ≡ n * q * s = ap (λ x. x * s) e in
    let right : r * d * q ≡ n * s * q = ap (λ x. x * q) f in
    eq_of_mul-eq-mul_right d above (p * s) (r * q) (omega arith)

same_denominator : (p q r s : ℕ) → IsGcd p q 1 → IsGcd r s 1 → p * s ≡ r * q → q ≡ s
same_denominator p q r s first second e = dvd_antisymm
    (divides_other p q s first (subst (λ x. q ∣ x) (sym e) (dvd-mul_left q r)))
    (divides_other r s q second (subst (λ x. s ∣ x) e (dvd-mul_left s p)))

-- a factor that isn't 0 cancels
pub cancelled : (p r d : ℤ) → d ≢ pos 0 → p *ℤ d ≡ r *ℤ d → p ≡ r
cancelled p r (pos zero) nonzero e = absurd (nonzero refl)
cancelled p r (pos (suc k)) nonzero e = same_in p r (eq_of_mul-eq-mul_right (suc k) (omega arith) (up p + down r) (up r + down p) (omega (arith, ints)))
cancelled p r (negsuc k) nonzero e = same_in p r (eq_of_mul-eq-mul_right (suc k) (omega arith) (up p + down r) (up r + down p) (omega (arith, ints)))

sizes : (n d p q : ℤ) → p *ℤ d ≡ n *ℤ q → unsigned_abs p * unsigned_abs d ≡ unsigned_abs n * unsigned_abs q
sizes n d p q e = sym (unsigned_abs-mul p d) ∙ ap unsigned_abs e ∙ unsigned_abs-mul n q

-- n over d has one form in lowest terms
pub same_lowest : (n d p q r s : ℤ) → d ≢ pos 0 → IsLowest n d p q → IsLowest n d r s → (p ≡ r) × (q ≡ s)
same_lowest n d p q r s nonzero h k =
    let cross = crossed (unsigned_abs n) (unsigned_abs d) (unsigned_abs p) (unsigned_abs q) (unsigned_abs r) (unsigned_abs s) (abs_above d nonzero) (sizes n d p q h.same) (sizes n d r s k.same) in
    let same = same_denominator (unsigned_abs p) (unsigned_abs q) (unsigned_abs r) (unsigned_abs s) h.coprime k.coprime cross in
    let below : q ≡ s = above_is q h.above ∙ ap pos same ∙ sym (above_is s k.above) in
    (cancelled p r d nonzero (h.same ∙ ap (λ z. n *ℤ z) below ∙ sym k.same), below)

-- a quotient that has an answer isn't too wide
pub answer_excludes_wide : (n d : ℤ) (f : Frac) → d ≢ pos 0 → IsFrac n d f → IsWide n d → ⊥
answer_excludes_wide n d f nonzero is wide =
    let same = same_lowest n d f.num f.den wide.num wide.den nonzero is wide.lowest in
    elim wide.wide [
      | inl large ↦ (let bound = f.narrow.num in omega (arith, ap unsigned_abs same.0))
      | inr large ↦ (let bound = f.narrow.den in omega (arith, ap unsigned_abs same.1))
    ]
