use Rattle.qs_tree.specs.declared.constant.ConstVal.TheVariants.{Number}
use Rattle.qs_const.specs.Operations.{Remains}
use Rattle.qs_const.proofs.WholeLemmas.{not_whole, on_wholes, operand_below, remainder_coded}
use Rattle.qs_const.proofs.quotients.remainder_by.Goals as goal

pub returns-in-Some-whole_operand : goal.returns-in-Some-whole_operand
returns-in-Some-whole_operand c =
    let j = c.in-Some-whole_operand.j in
    let k = c.in-Some.k in
    let given = rw (remainder_coded j k (operand_below _ _ c.in-Some-whole_operand.ensures) c.in-Some.ensures.1) at c.whole_result.ensures in
    on_wholes Remains _ (Number c.args.y.now) j k _ c.in-Some-whole_operand.ensures c.in-Some.ensures given

pub returns-in_default : goal.returns-in_default
returns-in_default c = not_whole Remains _ c.args.y.now c.in_default.ensures
