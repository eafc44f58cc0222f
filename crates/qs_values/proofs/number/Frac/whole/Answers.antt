use Rattle.std.proofs.Common.{arith}
use Rattle.std.proofs.Math.Nat.{one-dvd}
use Rattle.std.proofs.lemmas.Int.{ints}
use Rattle.qs_values.proofs.number.Frac.whole.Goals as goal

pub invariant_of-result : goal.invariant_of-result
invariant_of-result c = record {
  above = omega (arith, ints);
  narrow = record {
    num = omega (arith, ints);
    den = omega (arith, ints);
  };
  coprime = (one-dvd _, one-dvd 1, λ d p q. q);
}
