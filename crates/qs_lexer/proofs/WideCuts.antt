-- A number that reaches 10^19 is past the limit of a fraction.
use Rattle.std.proofs.Common.{◌≢◌, ℕ, ◌≤◌, ◌^◌, inl, arith, pos}
use Rattle.std.specs.Prelude.{int_div}
use Rattle.std.proofs.lemmas.Nat.{le-div}
use Rattle.std.proofs.lemmas.Int.{ints}
use Rattle.qs_values.specs.Lowest.{IsWide}
use Rattle.qs_values.proofs.LowestLemmas.{lowest_is, gcd_bounds}
use Rattle.qs_values.proofs.OneQuotient.{gcd_exists}

-- a whole number of 10^36 and more, over 10^17, is too wide
pub wide_cut : (n : ℕ) → 10 ^ 36 ≤ n → IsWide (pos n) (pos (10 ^ 17))
wide_cut n h =
    let found = gcd_exists (10 ^ 17) n (10 ^ 17) (omega arith) in
    let some : pos (10 ^ 17) ≢ pos 0 = λ e. absurd (omega (arith, ints)) in
    let bounds = gcd_bounds (pos n) (pos (10 ^ 17)) found.0 found.1 some in
    record {
      num = int_div (pos n) (pos found.0);
      den = int_div (pos (10 ^ 17)) (pos found.0);
      lowest = lowest_is (pos n) (pos (10 ^ 17)) (pos found.0) found.1 some (omega (arith, ints));
      wide = inl (le-div (10 ^ 18) n found.0 bounds.0 (omega arith));
    }
