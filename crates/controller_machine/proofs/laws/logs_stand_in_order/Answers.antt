use Rattle.controller_machine.proofs.Ordered.{logs-ordered}
use Rattle.controller_machine.proofs.laws.logs_stand_in_order.Goals as goal

pub returns : goal.returns
returns c = logs-ordered c.starts_are_ordered.ensures
