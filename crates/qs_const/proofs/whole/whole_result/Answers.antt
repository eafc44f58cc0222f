use mir.Syntax.{w128}
use Rattle.std.proofs.lemmas.Int.{to_z-of_z}
use Rattle.qs_const.proofs.WholeLemmas.{whole_given, whole_refused}
use Rattle.qs_const.proofs.whole.whole_result.Goals as goal

pub returns-in-Ok : goal.returns-in-Ok
returns-in-Ok c = rw (to_z-of_z w128 c.args.k c.ranges.k) at (whole_given _ c.in-Ok.plain c.whole.result c.in-Ok.ensures c.whole.ensures.num c.whole.ensures.den)

pub returns-in-Err : goal.returns-in-Err
returns-in-Err c = rw (to_z-of_z w128 c.args.k c.ranges.k) at (whole_refused _ _ c.in-Err.ensures)
