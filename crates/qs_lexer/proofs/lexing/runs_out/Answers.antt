use Rattle.qs_lexer.proofs.FaultLemmas.{runs_out_by_tail, runs_not_out}
use Rattle.qs_lexer.proofs.lexing.runs_out.Goals as goal

pub returns-then-is_empty : goal.returns-then-is_empty
returns-then-is_empty c = runs_out_by_tail _ _ _ c.if-is_empty.ensures c.is_empty-then-is_empty.ensures

pub returns-else-is_empty : goal.returns-else-is_empty
returns-else-is_empty c = rw c.if-is_empty.false (runs_not_out _ _ c.utf8.after c.if-is_empty.ensures)
