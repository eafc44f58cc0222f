-- What whole numbers give.
use Rattle.std.proofs.Common.{◌≡◌, ◌<◌, ◌^◌, ℕ, ℤ, pos, unsigned_abs, int_rem, Some, Result, Ok, Err, inl, inr, refl, ◌∙◌, arith, FitsSigned, to_z, of_z}
use mir.Syntax.{w64, w128}
use Rattle.std.proofs.lemmas.Int.{ints, fits_signed_from_abs, rem_is}
use Rattle.qs_values.specs.Number.{QuotientIs}
use Rattle.qs_values.specs.declared.number.Frac.{Frac}
use Rattle.qs_values.specs.declared.number.Num.{Num}
use Rattle.qs_values.specs.declared.refusal.NumRefusal.{NumRefusal}
use Rattle.qs_values.specs.declared.refusal.NumRefusal.TheVariants.{TooWide, PiTimesPi, ByZero, ByPi}
use Rattle.qs_tree.specs.declared.constant.ConstVal.{ConstVal}
use Rattle.qs_tree.specs.declared.constant.ConstVal.TheVariants.{Number, Truth, Bits}
use Rattle.qs_const.specs.declared.cause.Cause.TheVariants as cause
use Rattle.qs_const.specs.declared.cause.Cause.{Cause}
use Rattle.qs_const.specs.Operations.{IsNotWhole, GivesWhole, OfWholes}
use Rattle.qs_const.specs.steps.Wholes.{OperandIs}

-- what a refused quotient by 1 gives
pub whole_refused : (k : ℤ) (e : NumRefusal) → QuotientIs k (pos 1) (Err e) → GivesWhole k (Err (cause.Number TooWide))
whole_refused k TooWide h = (Err TooWide, inl h.1, refl)
whole_refused k ByZero h = absurd cc
whole_refused k PiTimesPi h = absurd h
whole_refused k ByPi h = absurd h

-- a whole number without pi
pub whole_given : (k : ℤ) (plain pi : Frac) → QuotientIs k (pos 1) (Ok plain) → pi.num ≡ pos 0 → pi.den ≡ pos 1 → GivesWhole k (Ok (Number (record { plain = plain; pi = pi })))
whole_given k plain pi h num den =
    (Ok (record { plain = plain; pi = pi }), (h.1, record { same = rw (num, den) refl; above = pi.above; coprime = pi.coprime }), refl)

-- a whole operand is below 10^18 in size
pub operand_below : (v : ConstVal) (k : ℤ) → OperandIs v (Some k) → unsigned_abs k < 10 ^ 18
operand_below (Number x) k h = h.1
operand_below (Truth b) k h = absurd cc
operand_below (Bits b) k h = absurd cc

-- such a number fits
pub fits_i64 : (k : ℤ) → unsigned_abs k < 10 ^ 18 → FitsSigned w64 k
fits_i64 k h = fits_signed_from_abs w64 k (omega arith)

-- what two whole operands make
pub on_wholes : (Gives : ℤ → ℤ → Result ConstVal Cause → Type 0) (left right : ConstVal) (j k : ℤ) (result : Result ConstVal Cause)
    → OperandIs left (Some j) → OperandIs right (Some k) → Gives j k result → OfWholes Gives left right result
on_wholes Gives (Number x) (Number y) j k made p q h = inl (j, k, p.0, q.0, h)
on_wholes Gives (Number x) (Truth b) j k made p q h = absurd cc
on_wholes Gives (Number x) (Bits b) j k made p q h = absurd cc
on_wholes Gives (Truth b) right j k made p q h = absurd cc
on_wholes Gives (Bits b) right j k made p q h = absurd cc

-- a signed 64-bit number is the same at 128 bits
pub widened : (n : ℕ) → to_z w128 (of_z w128 (to_z w64 n)) ≡ to_z w64 n
widened n = omega (arith, ints)

-- the remainder as the code computes it
pub remainder_coded : (j k : ℤ) → unsigned_abs j < 10 ^ 18 → unsigned_abs k < 10 ^ 18
    → to_z w128 (of_z w128 (to_z w64 (of_z w64 (int_rem (to_z w64 (of_z w64 j)) (to_z w64 (of_z w64 k)))))) ≡ int_rem j k
remainder_coded j k p q = widened (of_z w64 (int_rem (to_z w64 (of_z w64 j)) (to_z w64 (of_z w64 k)))) ∙ rem_is w64 j k (fits_i64 j p) (fits_i64 k q)

-- a number that isn't whole has no rule on the right
pub not_whole : (Gives : ℤ → ℤ → Result ConstVal Cause → Type 0) (left : ConstVal) (y : Num) → IsNotWhole y → OfWholes Gives left (Number y) (Err cause.NoRule)
not_whole Gives (Number x) y h = inr (inr h, refl)
not_whole Gives (Truth b) y h = refl
not_whole Gives (Bits b) y h = refl
