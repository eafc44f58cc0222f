use Rattle.std.proofs.Common.{rules, arith, ◌<◌, ◌^◌, pos, ◌*ℤ◌, FitsSigned}
use Rattle.std.proofs.lemmas.Int.{ints, to_z-of_z}
use Rattle.std.specs.Int.{int_signum}
use mir.Syntax.{w128}
use Rattle.qs_values.proofs.LowestLemmas.{gcd_of_sizes, gcd_bounds, signed_size, signed_above, signed_value, signed_fits}
use Rattle.qs_values.proofs.lowest.signed_gcd.Goals as goal

pub overflow_cast-size : goal.overflow_cast-size
overflow_cast-size c =
    let gcd = gcd_of_sizes c.args.num c.args.den _ _ _ c.ranges.num c.ranges.den c.unsigned_abs.ensures.value c.unsigned_abs-2.ensures.value c.gcd-size.ensures in
    let bounds = gcd_bounds c.args.num c.args.den _ gcd c.requires.nonzero in
    omega (arith, ints)

pub overflow_mul-result : goal.overflow_mul-result
overflow_mul-result c =
    let gcd = gcd_of_sizes c.args.num c.args.den _ _ _ c.ranges.num c.ranges.den c.unsigned_abs.ensures.value c.unsigned_abs-2.ensures.value c.gcd-size.ensures in
    let bounds = gcd_bounds c.args.num c.args.den _ gcd c.requires.nonzero in
    let small : c.gcd-size.result < 10 ^ 37 = omega arith in
    let sign_fits : FitsSigned w128 c.signum.result = search rules in
    rw (signed_value c.gcd-size.result c.args.den c.signum.result small c.ranges.den sign_fits c.signum.ensures.value) (signed_fits c.gcd-size.result c.args.den c.requires.nonzero small)

pub returns-clause-size : goal.returns-clause-size
returns-clause-size c =
    let gcd = gcd_of_sizes c.args.num c.args.den _ _ _ c.ranges.num c.ranges.den c.unsigned_abs.ensures.value c.unsigned_abs-2.ensures.value c.gcd-size.ensures in
    let bounds = gcd_bounds c.args.num c.args.den _ gcd c.requires.nonzero in
    let small : c.gcd-size.result < 10 ^ 37 = omega arith in
    let sign_fits : FitsSigned w128 c.signum.result = search rules in
    let fits = signed_fits c.gcd-size.result c.args.den c.requires.nonzero small in
    rw (signed_value c.gcd-size.result c.args.den c.signum.result small c.ranges.den sign_fits c.signum.ensures.value, to_z-of_z w128 (pos c.gcd-size.result *ℤ int_signum c.args.den) fits, signed_size c.gcd-size.result c.args.den c.requires.nonzero) gcd

pub returns-clause-sign : goal.returns-clause-sign
returns-clause-sign c =
    let gcd = gcd_of_sizes c.args.num c.args.den _ _ _ c.ranges.num c.ranges.den c.unsigned_abs.ensures.value c.unsigned_abs-2.ensures.value c.gcd-size.ensures in
    let bounds = gcd_bounds c.args.num c.args.den _ gcd c.requires.nonzero in
    let small : c.gcd-size.result < 10 ^ 37 = omega arith in
    let sign_fits : FitsSigned w128 c.signum.result = search rules in
    let fits = signed_fits c.gcd-size.result c.args.den c.requires.nonzero small in
    rw (signed_value c.gcd-size.result c.args.den c.signum.result small c.ranges.den sign_fits c.signum.ensures.value, to_z-of_z w128 (pos c.gcd-size.result *ℤ int_signum c.args.den) fits) (signed_above c.gcd-size.result c.args.den c.requires.nonzero bounds.0)
