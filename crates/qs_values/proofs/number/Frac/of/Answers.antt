use Rattle.std.proofs.Common.{rules, arith, FitsSigned}
use mir.Syntax.{w128}
use Rattle.std.proofs.lemmas.Int.{ints, to_z-of_z}
use Rattle.qs_values.proofs.number.Frac.of.Goals as goal

pub invariant_of-result : goal.invariant_of-result
invariant_of-result c =
    let num_fits : FitsSigned w128 c.lowest-num.result.0 = search rules in
    let den_fits : FitsSigned w128 c.lowest-num.result.1 = search rules in
    simp to_z-of_z (record {
      above = c.lowest-num.ensures.above;
      narrow = record {
        num = omega (arith, ints);
        den = omega (arith, ints);
      };
      coprime = c.lowest-num.ensures.coprime;
    })
