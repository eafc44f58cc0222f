-- What the parts of an angle come to, and that they fit 128 bits.
use Rattle.std.proofs.Common.{◌≡◌, ℕ, ◌+◌, ◌*◌, ◌<◌, ◌≤◌, ◌^◌, refl, arith, ℤ, pos, negsuc, ◌<ℤ◌, ◌+ℤ◌, ◌*ℤ◌, unsigned_abs}
use Rattle.std.specs.Int.{int_div_euclid}
use Rattle.std.proofs.Math.Nat.{div-le_self}
use Rattle.std.proofs.Math.Pow.{pow_mono}
use Rattle.std.proofs.lemmas.Nat.{mul-lt}
use Rattle.std.proofs.lemmas.Int.{ints, unsigned_abs-mul}
use Rattle.qs_values.specs.Angle.{turn}
use Rattle.qs_values.proofs.NumberLemmas.{coded, coded_is, factor_is}

steps_below : (w : ℕ) → w ≤ 32 → 2 ^ w < 2 ^ 32 + 1
steps_below w h = omega (arith, pow_mono h)

-- a number times the steps of a turn
pub turned_below : (n : ℤ) (w : ℕ) → unsigned_abs n < 10 ^ 18 → w ≤ 32 → unsigned_abs (n *ℤ pos (2 ^ w)) < 5 * 10 ^ 27
turned_below n w p q = rw (unsigned_abs-mul n (pos (2 ^ w))) (let h = mul-lt (unsigned_abs n) (2 ^ w) (10 ^ 18) (2 ^ 32 + 1) p (steps_below w q) in omega arith)

pub turned_factors : (n : ℤ) (w : ℕ) → unsigned_abs n < 10 ^ 18 → w ≤ 32 → coded n *ℤ coded (pos (2 ^ w)) ≡ n *ℤ pos (2 ^ w)
turned_factors n w p q = let s = steps_below w q in rw (factor_is n p, coded_is (pos (2 ^ w)) (omega arith)) refl

pub turned_is : (n : ℤ) (w : ℕ) → unsigned_abs n < 10 ^ 18 → w ≤ 32 → coded (coded n *ℤ coded (pos (2 ^ w))) ≡ n *ℤ pos (2 ^ w)
turned_is n w p q = let h = turned_below n w p q in rw (turned_factors n w p q) (coded_is (n *ℤ pos (2 ^ w)) (omega arith))

-- twice a number
pub doubled_is : (d : ℤ) → unsigned_abs d < 10 ^ 18 → coded (pos 2 *ℤ coded d) ≡ pos 2 *ℤ d
doubled_is d small = rw (factor_is d small) (coded_is (pos 2 *ℤ d) (omega (arith, ints, small)))

-- a quotient is no longer than the dividend
pub quotient_below : (x d : ℤ) (k : ℕ) → pos 0 <ℤ d → unsigned_abs x < k → unsigned_abs (int_div_euclid x d) < k
quotient_below (pos x) (pos d) k above h = let s = div-le_self x d in omega arith
quotient_below (negsuc x) (pos d) k above h = let s = div-le_self x d in omega arith
quotient_below x (negsuc d) k above h = absurd (omega (arith, ints))

-- ---- the part with pi

pub rounded_below : (n d : ℤ) (w : ℕ) → unsigned_abs n < 10 ^ 18 → unsigned_abs d < 10 ^ 18 → w ≤ 32 → unsigned_abs ((n *ℤ pos (2 ^ w)) +ℤ d) < 10 ^ 28
rounded_below n d w p q r = let h = turned_below n w p r in omega (arith, ints)

pub rounded_is : (n d : ℤ) (w : ℕ) → unsigned_abs n < 10 ^ 18 → unsigned_abs d < 10 ^ 18 → w ≤ 32
    → coded (coded (coded n *ℤ coded (pos (2 ^ w))) +ℤ coded d) ≡ (n *ℤ pos (2 ^ w)) +ℤ d
rounded_is n d w p q r = let h = rounded_below n d w p q r in rw (turned_is n w p r, factor_is d q) (coded_is ((n *ℤ pos (2 ^ w)) +ℤ d) (omega arith))

-- ---- the part without pi

pub twice_below : (u : ℤ) (w : ℕ) → unsigned_abs u < 10 ^ 18 → w ≤ 32 → unsigned_abs (pos 2 *ℤ (u *ℤ pos (2 ^ w))) < 10 ^ 28
twice_below u w p q = let h = turned_below u w p q in rw (unsigned_abs-mul (pos 2) (u *ℤ pos (2 ^ w))) (omega arith)

pub twice_is : (u : ℤ) (w : ℕ) → unsigned_abs u < 10 ^ 18 → w ≤ 32 → coded (pos 2 *ℤ coded (coded u *ℤ coded (pos (2 ^ w)))) ≡ pos 2 *ℤ (u *ℤ pos (2 ^ w))
twice_is u w p q = let h = twice_below u w p q in rw (turned_is u w p q) (coded_is (pos 2 *ℤ (u *ℤ pos (2 ^ w))) (omega arith))

pub raised_below : (u : ℤ) (w : ℕ) → unsigned_abs u < 10 ^ 18 → w ≤ 32 → unsigned_abs ((pos 2 *ℤ (u *ℤ pos (2 ^ w))) +ℤ turn) < 10 ^ 29
raised_below u w p q = let h = twice_below u w p q in omega (arith, ints)

pub raised_is : (u : ℤ) (w : ℕ) → unsigned_abs u < 10 ^ 18 → w ≤ 32
    → coded (coded (pos 2 *ℤ coded (coded u *ℤ coded (pos (2 ^ w)))) +ℤ turn) ≡ (pos 2 *ℤ (u *ℤ pos (2 ^ w))) +ℤ turn
raised_is u w p q = let h = raised_below u w p q in rw (twice_is u w p q) (coded_is ((pos 2 *ℤ (u *ℤ pos (2 ^ w))) +ℤ turn) (omega arith))
