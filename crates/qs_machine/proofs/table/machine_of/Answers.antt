use Rattle.std.proofs.Common.{rules}
use Rattle.serde_json.specs.View.{view}
use Rattle.qs_machine.proofs.MachineKept.{machine_kept}
use Rattle.qs_machine.proofs.table.machine_of.Goals as goal

pub returns-clause-value : goal.returns-clause-value
returns-clause-value c = search rules

pub returns-clause-kept : goal.returns-clause-kept
returns-clause-kept c = machine_kept (view c.args.table.now) _ (returns-clause-value c) c.in_ok-parts.ensures.order
