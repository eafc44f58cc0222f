-- Shifts of whole numbers.
use Rattle.std.proofs.Common.{◌≡◌, ◌+◌, ◌*◌, ◌/◌, ◌%◌, ◌^◌, ◌<◌, ◌≤◌, ℕ, zero, suc, ℤ, pos, negsuc, ◌+ℤ◌, ◌*ℤ◌, ◌≤ℤ◌, ◌<ℤ◌, unsigned_abs, Some, Result, inl, inr, refl, arith, FitsSigned, to_z, of_z}
use mir.Syntax.{Width, w64, w128}
use lib.Signed.{mag_shr, shr_z}
use Rattle.std.proofs.Math.Nat.{pow-le-pow_right}
use Rattle.std.proofs.lemmas.Nat.{mul-lt}
use Rattle.std.proofs.lemmas.Int.{ints, to_z-of_z, unsigned_abs-mul}
use Rattle.qs_values.proofs.NumberLemmas.{fits_below}
use Rattle.qs_values.specs.declared.number.Num.{Num}
use Rattle.qs_tree.specs.declared.constant.ConstVal.{ConstVal}
use Rattle.qs_tree.specs.declared.constant.ConstVal.TheVariants.{Number, Truth, Bits}
use Rattle.qs_const.specs.declared.cause.Cause.{Cause}
use Rattle.qs_const.specs.Operations.{ShiftGives}
use Rattle.qs_const.specs.steps.Wholes.{CountIs, OperandIs}
use Rattle.qs_const.proofs.WholeLemmas.{fits_i64, widened}

-- a number that fits still does after a shift to the right
shr_fits : (w : Width) (j : ℤ) (m : ℕ) → FitsSigned w j → FitsSigned w (shr_z j m)
shr_fits w j m h = record { sfits = omega (arith, mag_shr j m, h.sfits) }

-- the powers of 2 that are counted from 0 to 63
pub power_below : (n : ℕ) → n ≤ 63 → 2 ^ n < 2 ^ 63 + 1
power_below n h = let small : 2 ^ n ≤ 2 ^ 63 = pow-le-pow_right {n = 2} (omega arith) {i = n} {j = 63} h in omega arith

pub power_is : (n : ℕ) → n ≤ 63 → to_z w128 (1 * 2 ^ n % 2 ^ 128) ≡ pos (2 ^ n)
power_is n h = let small = power_below n h in omega (arith, ints)

pub shifted_below : (j : ℤ) (n : ℕ) → unsigned_abs j < 10 ^ 18 → n ≤ 63 → unsigned_abs (j *ℤ pos (2 ^ n)) < 10 ^ 37
shifted_below j n p h =
    let below : unsigned_abs j * 2 ^ n < 10 ^ 18 * (2 ^ 63 + 1) = mul-lt (unsigned_abs j) (2 ^ n) (10 ^ 18) (2 ^ 63 + 1) p (power_below n h) in
    rw (unsigned_abs-mul j (pos (2 ^ n))) (omega arith)

-- what the code shifts to the left by a product
pub shift_is : (j : ℤ) (n : ℕ) → unsigned_abs j < 10 ^ 18 → n ≤ 63 → to_z w128 (of_z w128 (to_z w64 (of_z w64 j))) *ℤ to_z w128 (1 * 2 ^ n % 2 ^ 128) ≡ j *ℤ pos (2 ^ n)
shift_is j n p h =
    let same : to_z w128 (of_z w128 (to_z w64 (of_z w64 j))) ≡ j = omega (arith, ints) in
    rw (same, power_is n h) refl

pub product_fits : (j : ℤ) (n : ℕ) → unsigned_abs j < 10 ^ 18 → n ≤ 63 → FitsSigned w128 (j *ℤ pos (2 ^ n))
product_fits j n p h = fits_below (j *ℤ pos (2 ^ n)) (shifted_below j n p h)

pub shift_coded : (j : ℤ) (n : ℕ) → unsigned_abs j < 10 ^ 18 → n ≤ 63
    → to_z w128 (of_z w128 (to_z w128 (of_z w128 (to_z w64 (of_z w64 j))) *ℤ to_z w128 (1 * 2 ^ n % 2 ^ 128))) ≡ j *ℤ pos (2 ^ n)
shift_coded j n p h = rw (shift_is j n p h) (to_z-of_z w128 (j *ℤ pos (2 ^ n)) (product_fits j n p h))

-- -(a + 1) is below -q m, where q m is at most a
below_up : (a q m : ℕ) → q * m ≤ a → negsuc a <ℤ ((negsuc q +ℤ pos 1) *ℤ pos m)
below_up a zero m h = omega (arith, ints)
below_up a (suc q) m h = let next : negsuc (suc q) +ℤ pos 1 ≡ negsuc q = omega (arith, ints) in rw next (omega (arith, ints))

-- rounded down
pub floor_is : (j : ℤ) (m : ℕ) → 0 < m → ((shr_z j m *ℤ pos m) ≤ℤ j) × (j <ℤ ((shr_z j m +ℤ pos 1) *ℤ pos m))
floor_is (pos a) m h = (omega (arith, ints), omega (arith, ints))
floor_is (negsuc a) m h = (omega (arith, ints), below_up a (a / m) m (omega arith))

-- what the code shifts to the right
pub shift_down_coded : (j : ℤ) (n : ℕ) → unsigned_abs j < 10 ^ 18 → to_z w128 (of_z w128 (to_z w64 (of_z w64 (shr_z (to_z w64 (of_z w64 j)) (2 ^ n))))) ≡ shr_z j (2 ^ n)
shift_down_coded j n p =
    let fits = fits_i64 j p in
    rw (to_z-of_z w64 j fits, widened (of_z w64 (shr_z j (2 ^ n)))) (to_z-of_z w64 (shr_z j (2 ^ n)) (shr_fits w64 j (2 ^ n) fits))

-- a count is at most 63
pub count_below : (y : Num) (n : ℕ) → CountIs y (Some n) → n ≤ 63
count_below y n h = h.1

-- what a whole operand and a count give
pub on_shift : (Shifts : ℤ → ℕ → Result ConstVal Cause → Type 0) (left : ConstVal) (y : Num) (j : ℤ) (n : ℕ) (result : Result ConstVal Cause)
    → OperandIs left (Some j) → CountIs y (Some n) → Shifts j n result → ShiftGives Shifts left (Number y) result
on_shift Shifts (Number x) y j n result p q h = inr (inl (n, q, inl (j, p.0, h)))
on_shift Shifts (Truth b) y j n result p q h = absurd cc
on_shift Shifts (Bits b) y j n result p q h = absurd cc
