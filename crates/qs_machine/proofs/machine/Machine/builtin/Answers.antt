use Rattle.std.proofs.Common.{rules, sym, subst}
use Rattle.qs_machine.specs.Limits.{IsMachine}
use Rattle.qs_machine.proofs.BuiltInKept.{built_in_kept}
use Rattle.qs_machine.proofs.machine.Machine.builtin.Goals as goal

pub returns-clause-value : goal.returns-clause-value
returns-clause-value c = search rules

pub returns-clause-kept : goal.returns-clause-kept
returns-clause-kept c = subst IsMachine (sym (returns-clause-value c)) built_in_kept
