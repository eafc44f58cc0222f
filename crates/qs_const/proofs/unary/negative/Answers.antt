use Rattle.qs_values.specs.declared.number.Num.{Num}
use Rattle.qs_const.proofs.SmallNumbers.{negated_is}
use Rattle.qs_const.proofs.unary.negative.Goals as goal

pub returns : goal.returns
returns c =
    let zero : Num = record { plain = c.whole.result; pi = c.whole-2.result } in
    (c.sub.result, negated_is zero c.args.x.now c.sub.result c.whole.ensures.num c.whole.ensures.den c.whole-2.ensures.num c.whole-2.ensures.den c.sub.ensures, c.number_result.ensures)
