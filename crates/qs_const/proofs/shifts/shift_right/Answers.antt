use Rattle.std.proofs.Common.{◌≡◌, ◌^◌, sym, subst}
use lib.Signed.{shr_z}
use Rattle.std.proofs.lemmas.Nat.{pow_pos}
use Rattle.qs_tree.specs.declared.constant.ConstVal.TheVariants.{Number}
use Rattle.qs_const.specs.Operations.{ShiftGives, ShiftsDown}
use Rattle.qs_const.proofs.WholeLemmas.{operand_below}
use Rattle.qs_const.proofs.ShiftLemmas.{floor_is, on_shift, shift_down_coded}
use Rattle.qs_const.proofs.shifts.shift_right.Goals as goal

pub returns-in-Some-Some : goal.returns-in-Some-Some
returns-in-Some-Some c =
    let j = c.in-Some-Some.j in
    let n = c.in-Some-Some.places in
    let y = c.in-Number.y in
    let is : c.args.right.now ≡ Number y = c.in-Number.is in
    let given = rw (shift_down_coded j n (operand_below _ _ c.in-Some-Some.ensures')) at c.whole_result.ensures in
    let floor = floor_is j (2 ^ n) (pow_pos n) in
    subst (λ right. ShiftGives ShiftsDown c.args.left.now right c.whole_result.result) (sym is) (on_shift ShiftsDown c.args.left.now y j n c.whole_result.result c.in-Some-Some.ensures' c.in-Some-Some.ensures (shr_z j (2 ^ n), floor.0, floor.1, given))
