-- Sums and products of the parts of fractions fit 128 bits.
use Rattle.std.proofs.Common.{◌≡◌, ◌≢◌, ℕ, ◌*◌, ◌<◌, ◌^◌, ap, sym, ◌∙◌, arith, zero, suc, ℤ, pos, ◌+ℤ◌, ◌-ℤ◌, ◌*ℤ◌, unsigned_abs, FitsSigned, to_z, of_z, Err, inr}
use mir.Syntax.{w128}
use Rattle.std.proofs.lemmas.Nat.{mul-lt}
use Rattle.std.proofs.lemmas.Int.{ints, fits_signed_from_abs, unsigned_abs-mul, to_z-of_z}
use Rattle.qs_values.specs.declared.refusal.NumRefusal.{NumRefusal}
use Rattle.qs_values.specs.declared.refusal.NumRefusal.TheVariants.{TooWide, PiTimesPi, ByZero, ByPi}
use Rattle.qs_values.specs.declared.number.Frac.{Frac}
use Rattle.qs_values.specs.Number.{QuotientIs, NumberIs}
use Rattle.qs_values.proofs.LowestLemmas.{abs_above}

-- a number below 10^37 in size fits
pub fits_below : (z : ℤ) → unsigned_abs z < 10 ^ 37 → FitsSigned w128 z
fits_below z h = fits_signed_from_abs w128 z (omega arith)

pub product_below : (a b : ℤ) → unsigned_abs a < 10 ^ 18 → unsigned_abs b < 10 ^ 18 → unsigned_abs (a *ℤ b) < 10 ^ 36
product_below a b p q = rw (unsigned_abs-mul a b) (mul-lt (unsigned_abs a) (unsigned_abs b) (10 ^ 18) (10 ^ 18) p q)

pub sum_below : (x y : ℤ) → unsigned_abs x < 10 ^ 36 → unsigned_abs y < 10 ^ 36 → unsigned_abs (x +ℤ y) < 10 ^ 37
sum_below x y p q = omega (arith, ints)

pub difference_below : (x y : ℤ) → unsigned_abs x < 10 ^ 36 → unsigned_abs y < 10 ^ 36 → unsigned_abs (x -ℤ y) < 10 ^ 37
difference_below x y p q = omega (arith, ints)

-- a number as the code has it, through its bits
abbrev pub coded : ℤ → ℤ
coded z = to_z w128 (of_z w128 z)

pub coded_is : (a : ℤ) → unsigned_abs a < 10 ^ 37 → coded a ≡ a
coded_is a h = to_z-of_z w128 a (fits_below a h)

pub factor_is : (a : ℤ) → unsigned_abs a < 10 ^ 18 → coded a ≡ a
factor_is a h = coded_is a (omega arith)

-- a product, a sum and a difference, as the code computes them
pub product_is : (a b : ℤ) → unsigned_abs a < 10 ^ 18 → unsigned_abs b < 10 ^ 18 → coded (coded a *ℤ coded b) ≡ a *ℤ b
product_is a b p q = let small = product_below a b p q in rw (factor_is a p, factor_is b q) (coded_is (a *ℤ b) (omega arith))

-- a number below 10^36 in size, as a sum and a difference have it
pub term_is : (x : ℤ) → unsigned_abs x < 10 ^ 36 → coded x ≡ x
term_is x p = coded_is x (omega arith)

pub sum_is : (x y : ℤ) → unsigned_abs x < 10 ^ 36 → unsigned_abs y < 10 ^ 36 → coded (coded x +ℤ coded y) ≡ x +ℤ y
sum_is x y p q = rw (term_is x p, term_is y q) (coded_is (x +ℤ y) (sum_below x y p q))

pub difference_is : (x y : ℤ) → unsigned_abs x < 10 ^ 36 → unsigned_abs y < 10 ^ 36 → coded (coded x -ℤ coded y) ≡ x -ℤ y
difference_is x y p q = rw (term_is x p, term_is y q) (coded_is (x -ℤ y) (difference_below x y p q))

-- a refused pi part refuses the number
pub refused_pi : (an ad bn bd : ℤ) (e : NumRefusal) → bd ≢ pos 0 → QuotientIs bn bd (Err e) → NumberIs an ad bn bd (Err e)
refused_pi an ad bn bd TooWide nonzero h = inr h.1
refused_pi an ad bn bd ByZero nonzero h = nonzero h
refused_pi an ad bn bd PiTimesPi nonzero h = h
refused_pi an ad bn bd ByPi nonzero h = h

-- a product of what isn't 0 isn't 0

nonzero_of_sizes : (m n : ℕ) → 0 < m → 0 < n → m * n ≢ 0
nonzero_of_sizes zero n h k = absurd (omega arith)
nonzero_of_sizes (suc m) zero h k = absurd (omega arith)
nonzero_of_sizes (suc m) (suc n) h k = λ e. omega (arith, e)

pub nonzero_product : (a b : ℤ) → a ≢ pos 0 → b ≢ pos 0 → a *ℤ b ≢ pos 0
nonzero_product a b p q e = nonzero_of_sizes (unsigned_abs a) (unsigned_abs b) (abs_above a p) (abs_above b q) (sym (unsigned_abs-mul a b) ∙ ap unsigned_abs e)

pub nonzero_den : (f : Frac) → f.den ≢ pos 0
nonzero_den f e = omega (arith, ints, f.above, e)
