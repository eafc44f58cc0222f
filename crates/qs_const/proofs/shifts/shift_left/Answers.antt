use Rattle.std.proofs.Common.{◌≡◌, sym, subst}
use Rattle.qs_tree.specs.declared.constant.ConstVal.TheVariants.{Number}
use Rattle.qs_const.specs.Operations.{ShiftGives, ShiftsUp}
use Rattle.qs_const.proofs.WholeLemmas.{operand_below}
use Rattle.qs_const.proofs.ShiftLemmas.{count_below, on_shift, product_fits, shift_coded, shift_is, shifted_below}
use Rattle.qs_const.proofs.shifts.shift_left.Goals as goal

pub overflow_mul-j : goal.overflow_mul-j
overflow_mul-j c =
    let j = c.in-Some-Some.j in
    let n = c.in-Some-Some.places in
    let small = operand_below _ _ c.in-Some-Some.ensures' in
    let few = count_below c.in-Number.y _ c.in-Some-Some.ensures in
    rw (shift_is j n small few) (product_fits j n small few)

pub whole_result-requires : goal.whole_result-requires
whole_result-requires c =
    let j = c.in-Some-Some.j in
    let n = c.in-Some-Some.places in
    let small = operand_below _ _ c.in-Some-Some.ensures' in
    let few = count_below c.in-Number.y _ c.in-Some-Some.ensures in
    rw (shift_coded j n small few) (shifted_below j n small few)

pub returns-in-Some-Some : goal.returns-in-Some-Some
returns-in-Some-Some c =
    let j = c.in-Some-Some.j in
    let n = c.in-Some-Some.places in
    let y = c.in-Number.y in
    let is : c.args.right.now ≡ Number y = c.in-Number.is in
    let given = rw (shift_coded j n (operand_below _ _ c.in-Some-Some.ensures') (count_below y _ c.in-Some-Some.ensures)) at c.whole_result.ensures in
    subst (λ right. ShiftGives ShiftsUp c.args.left.now right c.whole_result.result) (sym is) (on_shift ShiftsUp c.args.left.now y j n c.whole_result.result c.in-Some-Some.ensures' c.in-Some-Some.ensures given)
