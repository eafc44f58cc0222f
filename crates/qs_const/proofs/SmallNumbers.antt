-- Small whole numbers fit 128 bits, and are fractions over 1.
use Rattle.std.proofs.Common.{◌≡◌, ◌<◌, ◌^◌, arith, ap, sym, ◌∙◌, ℤ, pos, ◌-ℤ◌, ◌*ℤ◌, unsigned_abs, to_z, of_z, Result}
use mir.Syntax.{w64}
use Rattle.std.proofs.lemmas.Int.{ints, fits_signed_from_abs, to_z-of_z}
use Rattle.qs_values.specs.declared.number.Frac.{Frac}
use borrow.Author.Differences.{same_in}
use Rattle.qs_values.specs.declared.number.Num.{Num}
use Rattle.qs_values.specs.declared.refusal.NumRefusal.{NumRefusal}
use Rattle.qs_values.specs.Number.{DifferenceIs, IsFrac, NumberIs}
use Rattle.qs_values.proofs.LowestLemmas.{up-mul, down-mul}
use Rattle.qs_values.proofs.NumberLemmas.{coded, coded_is, factor_is}

negated_coded : (a : ℤ) → unsigned_abs a < 10 ^ 18 → coded (pos 0 -ℤ coded a) ≡ pos 0 -ℤ a
negated_coded a h = rw (factor_is a h) (coded_is (pos 0 -ℤ a) (omega (arith, ints)))

inverted_wide : (a : ℤ) → unsigned_abs a < 10 ^ 18 → coded (coded (pos 0 -ℤ coded a) -ℤ pos 1) ≡ (pos 0 -ℤ a) -ℤ pos 1
inverted_wide a h = rw (negated_coded a h) (coded_is ((pos 0 -ℤ a) -ℤ pos 1) (omega (arith, ints)))

-- one of 64 bits, widened
pub inverted_coded : (a : ℤ) → unsigned_abs a < 10 ^ 18 → coded (coded (pos 0 -ℤ coded (to_z w64 (of_z w64 a))) -ℤ pos 1) ≡ (pos 0 -ℤ a) -ℤ pos 1
inverted_coded a h =
    let same : to_z w64 (of_z w64 a) ≡ a = to_z-of_z w64 a (fits_signed_from_abs w64 a (omega arith)) in
    rw same (inverted_wide a h)

-- a whole number as a fraction
pub is_whole_frac : (f : Frac) (n : ℤ) → f.num ≡ n → f.den ≡ pos 1 → IsFrac n (pos 1) f
is_whole_frac f n p q = record { same = ap (λ z. z *ℤ pos 1) p ∙ ap (λ z. n *ℤ z) (sym q); above = f.above; coprime = f.coprime }

-- ---- 0 less a number

pub zero_mul : (a : ℤ) → pos 0 *ℤ a ≡ pos 0
zero_mul a = same_in _ _ (simp (up-mul, down-mul) (omega arith))

pub mul_one : (a : ℤ) → a *ℤ pos 1 ≡ a
mul_one a = same_in _ _ (simp (up-mul, down-mul) (omega arith))

one_mul : (a : ℤ) → pos 1 *ℤ a ≡ a
one_mul a = same_in _ _ (simp (up-mul, down-mul) (omega arith))

pub negated_is : (zero x : Num) (r : Result Num NumRefusal) → zero.plain.num ≡ pos 0 → zero.plain.den ≡ pos 1 → zero.pi.num ≡ pos 0 → zero.pi.den ≡ pos 1
    → DifferenceIs zero x r → NumberIs (pos 0 -ℤ x.plain.num) x.plain.den (pos 0 -ℤ x.pi.num) x.pi.den r
negated_is zero x r p q s t h =
    rw (p, q, s, t, zero_mul x.plain.den, zero_mul x.pi.den, mul_one x.plain.num, mul_one x.pi.num, one_mul x.plain.den, one_mul x.pi.den) at h
