use Rattle.std.proofs.Common.{rules, FitsSigned}
use mir.Syntax.{w128}
use Rattle.std.proofs.lemmas.Int.{quot_is, to_z-of_z}
use Rattle.qs_values.proofs.LowestLemmas.{lowest_is, quotient_fits}
use Rattle.qs_values.proofs.lowest.lowest.Goals as goal

pub returns : goal.returns
returns c =
    let num = c.args.num in
    let den = c.args.den in
    let divisor = c.signed_gcd-divisor.result in
    let num_fits = c.ranges.num in
    let den_fits = c.ranges.den in
    let divisor_fits : FitsSigned w128 divisor = search rules in
    let size = simp to_z-of_z at c.signed_gcd-divisor.ensures.size in
    let sign = simp to_z-of_z at c.signed_gcd-divisor.ensures.sign in
    rw (quot_is w128 num divisor num_fits divisor_fits (quotient_fits num divisor c.requires.num), quot_is w128 den divisor den_fits divisor_fits (quotient_fits den divisor c.requires.den))
    (lowest_is num den divisor size c.requires.nonzero sign)
