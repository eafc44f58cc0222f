use Rattle.std.proofs.Common.{arith, rules, ◌≡◌, ◌^◌, pos, ◌*ℤ◌, ◌+ℤ◌, FitsSigned, refl, sym, ◌∙◌}
use mir.Syntax.{w128}
use Rattle.std.proofs.lemmas.Int.{ints, to_z-of_z}
use Rattle.qs_values.specs.Angle.{plain_part, turn}
use Rattle.qs_values.proofs.NumberLemmas.{fits_below}
use Rattle.qs_values.proofs.AngleLemmas.{turned_factors, turned_below, turned_is, twice_below, twice_is, raised_below, raised_is, quotient_below}
use Rattle.qs_values.proofs.angle.plain_part.Goals as goal

pub overflow_mul-units : goal.overflow_mul-units
overflow_mul-units c =
    let u = c.units.result in
    let small = turned_below u c.args.width c.units.ensures.bound c.requires in
    rw (c.steps.ensures, turned_factors u c.args.width c.units.ensures.bound c.requires) (fits_below (u *ℤ pos (2 ^ c.args.width)) (omega arith))

pub overflow_mul-units-2 : goal.overflow_mul-units-2
overflow_mul-units-2 c =
    let u = c.units.result in
    let small = twice_below u c.args.width c.units.ensures.bound c.requires in
    rw (c.steps.ensures, turned_is u c.args.width c.units.ensures.bound c.requires) (fits_below (pos 2 *ℤ (u *ℤ pos (2 ^ c.args.width))) (omega arith))

pub overflow_add-units : goal.overflow_add-units
overflow_add-units c =
    let u = c.units.result in
    let small = raised_below u c.args.width c.units.ensures.bound c.requires in
    rw (c.steps.ensures, twice_is u c.args.width c.units.ensures.bound c.requires) (fits_below ((pos 2 *ℤ (u *ℤ pos (2 ^ c.args.width))) +ℤ turn) (omega arith))

pub returns-clause-value : goal.returns-clause-value
returns-clause-value c =
    let fits : FitsSigned w128 c.div_euclid.result = search rules in
    to_z-of_z w128 c.div_euclid.result fits ∙ c.div_euclid.ensures
    ∙ rw (c.steps.ensures, raised_is c.units.result c.args.width c.units.ensures.bound c.requires, c.units.ensures.value) refl

pub returns-clause-bound : goal.returns-clause-bound
returns-clause-bound c =
    let u = c.units.result in
    let is : _ ≡ plain_part c.args.radians c.args.width = returns-clause-value c in
    rw (is, sym c.units.ensures.value) (quotient_below ((pos 2 *ℤ (u *ℤ pos (2 ^ c.args.width))) +ℤ turn) (pos 2 *ℤ turn) (10 ^ 29) (omega (arith, ints)) (raised_below u c.args.width c.units.ensures.bound c.requires))
