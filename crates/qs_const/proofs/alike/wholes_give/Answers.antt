use Rattle.qs_const.proofs.WholeLemmas.{widened}
use Rattle.qs_const.proofs.alike.wholes_give.Goals as goal

pub returns-in-BitAnd : goal.returns-in-BitAnd
returns-in-BitAnd c = rw c.in-BitAnd.is (rw widened at c.whole_result.ensures)

pub returns-in-BitXor : goal.returns-in-BitXor
returns-in-BitXor c = rw c.in-BitXor.is (rw widened at c.whole_result-in-BitXor.ensures)

pub returns-in-BitOr : goal.returns-in-BitOr
returns-in-BitOr c = rw c.in-BitOr.is (rw widened at c.whole_result-in-BitOr.ensures)
