-- Quotients by the greatest common divisor are lowest terms.
use Rattle.std.proofs.Common.{◌≡◌, ◌≢◌, ℕ, ◌+◌, ◌*◌, ◌/◌, ◌<◌, ◌≤◌, ◌^◌, zero, suc, refl, ap, sym, ◌∙◌, subst, arith, ℤ, pos, negsuc, ◌<ℤ◌, ◌*ℤ◌, unsigned_abs, FitsSigned, to_z, of_z}
use mir.Syntax.{w128}
use Rattle.std.proofs.Math.IntN.{neg_ℤ}
use borrow.Author.Differences.{up, down, same_in, product_is}
use Rattle.std.specs.Prelude.{int_div, int_rem}
use Rattle.std.specs.Int.{◌∣◌, IsGcd, int_signum}
use Rattle.std.proofs.Math.Nat.{div-mul_cancel, pos_of_dvd_of_pos, dvd_of_mul-dvd-mul_right, one-dvd, mul-dvd-mul_right, one-mul, div-le_self}
use Rattle.std.proofs.lemmas.Nat.Gcd.{le_of_dvd, mod-eq-zero_of_dvd}
use Rattle.std.proofs.lemmas.Int.{ints, fits_signed_from_abs, quot-rem, to_z-of_z, to_z_pos}
use Rattle.qs_values.specs.Lowest.{IsLowest}

-- ---- products of signed numbers

pub up-mul : (a b : ℤ) → up (a *ℤ b) ≡ up a * up b + down a * down b
up-mul a b = (product_is a b).0

pub down-mul : (a b : ℤ) → down (a *ℤ b) ≡ up a * down b + down a * up b
down-mul a b = (product_is a b).1

-- the order of three factors
pub mul_regroup : (a b c : ℤ) → a *ℤ (b *ℤ c) ≡ (a *ℤ c) *ℤ b
mul_regroup a b c = same_in _ _ (simp (up-mul, down-mul) (omega arith))

-- ---- the greatest common divisor with a sign

-- the greatest common divisor of the sizes, as the code computes them
pub gcd_of_sizes : (n d : ℤ) (a b g : ℕ) → FitsSigned w128 n → FitsSigned w128 d → a ≡ unsigned_abs (to_z w128 (of_z w128 n)) → b ≡ unsigned_abs (to_z w128 (of_z w128 d)) → IsGcd a b g → IsGcd (unsigned_abs n) (unsigned_abs d) g
gcd_of_sizes n d a b g n_fits d_fits p q h = subst (λ x. IsGcd x (unsigned_abs d) g) (rw to_z-of_z at p) (subst (λ y. IsGcd a y g) (rw to_z-of_z at q) h)

pub above_is : (d : ℤ) → pos 0 <ℤ d → d ≡ pos (unsigned_abs d)
above_is (pos d) above = refl
above_is (negsuc d) above = absurd (omega (arith, ints))

pub abs_above : (d : ℤ) → d ≢ pos 0 → 0 < unsigned_abs d
abs_above (pos zero) h = absurd (h refl)
abs_above (pos (suc n)) h = omega arith
abs_above (negsuc n) h = omega arith

abs-neg : (n : ℕ) → unsigned_abs (neg_ℤ (pos n)) ≡ n
abs-neg zero = refl
abs-neg (suc n) = refl

-- a greatest common divisor is above 0 and at most the second number
pub gcd_bounds : (n d : ℤ) (g : ℕ) → IsGcd (unsigned_abs n) (unsigned_abs d) g → d ≢ pos 0 → (0 < g) × (g ≤ unsigned_abs d)
gcd_bounds n d g h nonzero = (pos_of_dvd_of_pos h.1 (abs_above d nonzero), le_of_dvd (abs_above d nonzero) h.1)

sign_of_above : (n : ℕ) → int_signum (pos (suc n)) ≡ pos 1
sign_of_above n = ap pos (omega arith)

pub signed_size : (g : ℕ) (d : ℤ) → d ≢ pos 0 → unsigned_abs (pos g *ℤ int_signum d) ≡ g
signed_size g (pos zero) h = absurd (h refl)
signed_size g (pos (suc n)) h = ap (λ z. unsigned_abs (pos g *ℤ z)) (sign_of_above n) ∙ omega arith
signed_size g (negsuc n) h = abs-neg (g * 1) ∙ omega arith

pub signed_above : (g : ℕ) (d : ℤ) → d ≢ pos 0 → 0 < g → pos 0 <ℤ ((pos g *ℤ int_signum d) *ℤ d)
signed_above zero (pos n) h above = absurd (omega arith)
signed_above (suc g) (pos zero) h above = absurd (h refl)
signed_above (suc g) (pos (suc n)) h above = subst (λ z. pos 0 <ℤ ((pos (suc g) *ℤ z) *ℤ pos (suc n))) (sym (sign_of_above n)) (omega (arith, ints))
signed_above zero (negsuc n) h above = absurd (omega arith)
signed_above (suc g) (negsuc n) h above = let e : pos (suc g) *ℤ negsuc 0 ≡ negsuc g = omega (arith, ints) in subst (λ z. pos 0 <ℤ (z *ℤ negsuc n)) (sym e) (omega (arith, ints))

-- the size times the sign, as the code computes it
pub signed_value : (g : ℕ) (d sign : ℤ) → g < 10 ^ 37 → FitsSigned w128 d → FitsSigned w128 sign → sign ≡ int_signum (to_z w128 (of_z w128 d)) → to_z w128 g *ℤ to_z w128 (of_z w128 sign) ≡ pos g *ℤ int_signum d
signed_value g d sign small d_fits fits e = rw (to_z-of_z w128 sign fits, to_z_pos w128 g (omega arith)) (ap (λ z. pos g *ℤ z) (rw to_z-of_z at e))

pub signed_fits : (g : ℕ) (d : ℤ) → d ≢ pos 0 → g < 10 ^ 37 → FitsSigned w128 (pos g *ℤ int_signum d)
signed_fits g d h small = fits_signed_from_abs w128 (pos g *ℤ int_signum d) (omega (arith, signed_size g d h))

-- ---- quotients

-- the size of a quotient
pub abs-div : (a d : ℤ) → unsigned_abs (int_div a d) ≡ unsigned_abs a / unsigned_abs d
abs-div (pos a) (pos d) = refl
abs-div (pos a) (negsuc d) = abs-neg (a / suc d)
abs-div (negsuc a) (pos d) = abs-neg (suc a / d)
abs-div (negsuc a) (negsuc d) = refl

-- a quotient fits where its dividend is below 10^37 in size
pub quotient_fits : (a d : ℤ) → unsigned_abs a < 10 ^ 37 → FitsSigned w128 (int_div a d)
quotient_fits a d h = fits_signed_from_abs w128 (int_div a d) (omega (arith, abs-div a d, div-le_self (unsigned_abs a) (unsigned_abs d)))

-- nothing is left of a number over its divisor
rem_of_divisor : (a d : ℤ) → unsigned_abs d ∣ unsigned_abs a → int_rem a d ≡ pos 0
rem_of_divisor (pos a) d h = ap pos (mod-eq-zero_of_dvd (unsigned_abs d) h)
rem_of_divisor (negsuc a) d h = ap (λ n. neg_ℤ (pos n)) (mod-eq-zero_of_dvd (unsigned_abs d) h)

-- a quotient by a divisor, times that divisor
div-mul : (a d : ℤ) → unsigned_abs d ∣ unsigned_abs a → int_div a d *ℤ d ≡ a
div-mul a d h = let e = quot-rem a d in let r = rem_of_divisor a d h in omega (arith, ints)

-- numbers divided by their greatest common divisor have no common divisor but 1
pub coprime_quotients : (a b g : ℕ) → IsGcd a b g → 0 < g → IsGcd (a / g) (b / g) 1
coprime_quotients a b g h above = (
  one-dvd (a / g),
  one-dvd (b / g),
  λ d da db.
      let of_a : (d * g) ∣ a = subst (λ n. (d * g) ∣ n) (div-mul_cancel g h.0) (mul-dvd-mul_right d da g) in
      let of_b : (d * g) ∣ b = subst (λ n. (d * g) ∣ n) (div-mul_cancel g h.1) (mul-dvd-mul_right d db g) in
      let of_g : (d * g) ∣ (1 * g) = subst (λ n. (d * g) ∣ n) (sym (one-mul g)) (h.2 (d * g) of_a of_b) in
      dvd_of_mul-dvd-mul_right {k = g} d above of_g,
)

-- two numbers divided by one divisor have the same quotient
same_quotient : (n d s : ℤ) → unsigned_abs s ∣ unsigned_abs n → unsigned_abs s ∣ unsigned_abs d → int_div n s *ℤ d ≡ n *ℤ int_div d s
same_quotient n d s p q =
    ap (λ z. int_div n s *ℤ z) (sym (div-mul d s q)) ∙ mul_regroup (int_div n s) (int_div d s) s ∙ ap (λ z. z *ℤ int_div d s) (div-mul n s p)

above_quotient : (a b : ℕ) → 0 < b → a ∣ b → 0 < b / a
above_quotient a b above h = let e = div-mul_cancel a h in by (b / a) e
  where
    by : (k : ℕ) → k * a ≡ b → 0 < k
    by zero e = absurd (omega arith)
    by (suc k) e = omega arith

-- a number divided by one of its own sign is above 0
quotient_above : (d s : ℤ) → unsigned_abs s ∣ unsigned_abs d → d ≢ pos 0 → pos 0 <ℤ (s *ℤ d) → pos 0 <ℤ int_div d s
quotient_above (pos b) (pos a) p nonzero h = let above = above_quotient a b (abs_above (pos b) nonzero) p in omega (arith, ints)
quotient_above (pos b) (negsuc a) p nonzero h = absurd (omega (arith, ints))
quotient_above (negsuc b) (pos a) p nonzero h = absurd (omega (arith, ints))
quotient_above (negsuc b) (negsuc a) p nonzero h = let above = above_quotient (suc a) (suc b) (omega arith) p in omega (arith, ints)

pub lowest_is : (n d s : ℤ) → IsGcd (unsigned_abs n) (unsigned_abs d) (unsigned_abs s) → d ≢ pos 0 → pos 0 <ℤ (s *ℤ d) → IsLowest n d (int_div n s) (int_div d s)
lowest_is n d s h nonzero sign = record {
  same = same_quotient n d s h.0 h.1;
  above = quotient_above d s h.1 nonzero sign;
  coprime = rw (abs-div n s, abs-div d s) (coprime_quotients (unsigned_abs n) (unsigned_abs d) (unsigned_abs s) h (pos_of_dvd_of_pos h.1 (abs_above d nonzero)));
}
