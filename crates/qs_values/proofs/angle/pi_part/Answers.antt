use Rattle.std.proofs.Common.{arith, rules, ◌≡◌, ◌^◌, pos, ◌*ℤ◌, ◌+ℤ◌, FitsSigned, refl, ◌∙◌}
use mir.Syntax.{w128}
use Rattle.std.proofs.lemmas.Int.{ints, to_z-of_z}
use Rattle.qs_values.specs.Angle.{pi_part}
use Rattle.qs_values.proofs.NumberLemmas.{fits_below, factor_is}
use Rattle.qs_values.proofs.AngleLemmas.{turned_factors, turned_below, turned_is, rounded_below, rounded_is, doubled_is, quotient_below}
use Rattle.qs_values.proofs.angle.pi_part.Goals as goal

pub overflow_mul-num : goal.overflow_mul-num
overflow_mul-num c =
    let f = c.args.factor in
    let small = turned_below f.num c.args.width f.narrow.num c.requires in
    rw (c.num.ensures, c.steps.ensures, turned_factors f.num c.args.width f.narrow.num c.requires) (fits_below (f.num *ℤ pos (2 ^ c.args.width)) (omega arith))

pub overflow_add-num : goal.overflow_add-num
overflow_add-num c =
    let f = c.args.factor in
    let small = rounded_below f.num f.den c.args.width f.narrow.num f.narrow.den c.requires in
    rw (c.num.ensures, c.steps.ensures, c.den.ensures, turned_is f.num c.args.width f.narrow.num c.requires, factor_is f.den f.narrow.den) (fits_below ((f.num *ℤ pos (2 ^ c.args.width)) +ℤ f.den) (omega arith))

pub div_euclid-requires-clause-no_overflow : goal.div_euclid-requires-clause-no_overflow
div_euclid-requires-clause-no_overflow c =
    let f = c.args.factor in
    rw (c.den-2.ensures, doubled_is f.den f.narrow.den) (λ e _. omega (arith, ints, f.above, f.narrow.den))

pub returns-clause-value : goal.returns-clause-value
returns-clause-value c =
    let f = c.args.factor in
    let fits : FitsSigned w128 c.div_euclid.result = search rules in
    to_z-of_z w128 c.div_euclid.result fits ∙ c.div_euclid.ensures
    ∙ rw (c.num.ensures, c.steps.ensures, c.den.ensures, c.den-2.ensures, rounded_is f.num f.den c.args.width f.narrow.num f.narrow.den c.requires, doubled_is f.den f.narrow.den) refl

pub returns-clause-bound : goal.returns-clause-bound
returns-clause-bound c =
    let f = c.args.factor in
    let is : _ ≡ pi_part f c.args.width = returns-clause-value c in
    rw (is) (quotient_below ((f.num *ℤ pos (2 ^ c.args.width)) +ℤ f.den) (pos 2 *ℤ f.den) (10 ^ 28) (omega (arith, ints, f.above)) (rounded_below f.num f.den c.args.width f.narrow.num f.narrow.den c.requires))
