use Rattle.qs_machine.proofs.ReadOnce.{tables_once, tapes_once}
use Rattle.qs_machine.proofs.laws.read_once.Goals as goal

pub returns-clause-table : goal.returns-clause-table
returns-clause-table c = tables_once

pub returns-clause-tape : goal.returns-clause-tape
returns-clause-tape c = tapes_once
