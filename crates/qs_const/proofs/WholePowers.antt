-- Powers of whole numbers: factor by factor, and without a common divisor.
use Rattle.std.proofs.Common.{◌≡◌, ℕ, ◌*◌, ◌/◌, ◌%◌, ◌^◌, ◌≤◌, zero, suc, refl, ap, sym, ◌∙◌, subst, arith, ℤ, pos, negsuc, ◌*ℤ◌, unsigned_abs, ◌==◌, Bool, true, false, not, cond}
use Rattle.std.specs.Int.{◌∣◌, IsGcd, int_pow}
use Rattle.std.proofs.Math.IntN.{neg_ℤ}
use Rattle.std.proofs.Math.Nat.{div-mul_cancel, dvd_of_mul-dvd-mul_right, dvd-mul_left, dvd-mul_right, eq-one_of_dvd-one, one-dvd, pow-le-pow_right, pow-suc, pow-zero}
use Rattle.std.proofs.lemmas.Nat.Gcd.{IsGcd-swap, dvd-zero, dvd_refl, dvd_trans}
use Rattle.std.proofs.lemmas.Int.{ints}
use Rattle.qs_values.proofs.OneQuotient.{gcd_exists}

-- a size with a sign
abbrev with_sign : Bool → ℕ → ℤ
with_sign even n = cond even (pos n) (neg_ℤ (pos n))

turned : (even : Bool) (m a : ℕ) → with_sign (not even) (m * suc a) ≡ with_sign even m *ℤ negsuc a
turned true zero a = omega (arith, ints)
turned true (suc m) a = omega (arith, ints)
turned false zero a = omega (arith, ints)
turned false (suc m) a = omega (arith, ints)

parity : (n : ℕ) → (suc n % 2 == 0) ≡ not (n % 2 == 0)
parity n = grind arith

pub int_pow_zero : (z : ℤ) → int_pow z 0 ≡ pos 1
int_pow_zero (pos a) = ap pos (pow-zero a)
int_pow_zero (negsuc a) = ap pos (pow-zero (suc a))

pub int_pow_suc : (z : ℤ) (n : ℕ) → int_pow z (suc n) ≡ int_pow z n *ℤ z
int_pow_suc (pos a) n = ap pos (pow-suc a n)
int_pow_suc (negsuc a) n = rw (parity n, pow-suc (suc a) n) (turned (n % 2 == 0) (suc a ^ n) a)

size_of : (even : Bool) (n : ℕ) → unsigned_abs (with_sign even n) ≡ n
size_of true n = refl
size_of false zero = refl
size_of false (suc n) = refl

pub abs_int_pow : (z : ℤ) (n : ℕ) → unsigned_abs (int_pow z n) ≡ unsigned_abs z ^ n
abs_int_pow (pos a) n = refl
abs_int_pow (negsuc a) n = size_of (n % 2 == 0) (suc a ^ n)

-- what divides a product of two numbers and has no divisor in common with either is 1
coprime_product : (a b c : ℕ) → IsGcd a c 1 → IsGcd b c 1 → IsGcd (a * b) c 1
coprime_product a b c first second = (one-dvd (a * b), one-dvd c, by b second)
  where
    by : (b : ℕ) → IsGcd b c 1 → (d : ℕ) → d ∣ (a * b) → d ∣ c → d ∣ 1
    by zero second d p q = dvd_trans d q (second.2 c (dvd-zero c) (dvd_refl c))
    by (suc k) second d p q =
        let found = gcd_exists (d * suc k) (a * suc k) (d * suc k) (omega arith) in
        let g = found.0 in
        let is = found.1 in
        let split : g / suc k * suc k ≡ g = div-mul_cancel (suc k) (is.2 (suc k) (dvd-mul_left (suc k) a) (dvd-mul_left (suc k) d)) in
        let of_a : (g / suc k) ∣ a = dvd_of_mul-dvd-mul_right {k = suc k} (g / suc k) (omega arith) (subst (λ x. x ∣ (a * suc k)) (sym split) is.0) in
        let of_d : (g / suc k) ∣ d = dvd_of_mul-dvd-mul_right {k = suc k} (g / suc k) (omega arith) (subst (λ x. x ∣ (d * suc k)) (sym split) is.1) in
        let one : g / suc k ≡ 1 = eq-one_of_dvd-one (first.2 (g / suc k) of_a (dvd_trans (g / suc k) of_d q)) in
        let same : g ≡ suc k = sym split ∙ ap (λ x. x * suc k) one ∙ omega arith in
        second.2 d (subst (λ x. d ∣ x) same (is.2 d p (dvd-mul_right d (suc k)))) q

coprime_power : (a c n : ℕ) → IsGcd a c 1 → IsGcd (a ^ n) c 1
coprime_power a c zero h = subst (λ x. IsGcd x c 1) (sym (pow-zero a)) (one-dvd 1, one-dvd c, λ d p q. p)
coprime_power a c (suc n) h = subst (λ x. IsGcd x c 1) (sym (pow-suc a n)) (coprime_product (a ^ n) a c (coprime_power a c n h) h)

pub coprime_powers : (a b n : ℕ) → IsGcd a b 1 → IsGcd (a ^ n) (b ^ n) 1
coprime_powers a b n h = coprime_power a (b ^ n) n (IsGcd-swap (b ^ n) a 1 (coprime_power b a n (IsGcd-swap a b 1 h)))

-- a power that is large stays so at each higher exponent
pub large_from : (a n m : ℕ) → suc n ≤ m → 10 ^ 18 ≤ a ^ suc n → 10 ^ 18 ≤ a ^ m
large_from zero n m more h = absurd (omega (arith, pow-suc 0 n))
large_from (suc a) n m more h = omega (arith, pow-le-pow_right {n = suc a} (omega arith) {i = suc n} {j = m} more)
