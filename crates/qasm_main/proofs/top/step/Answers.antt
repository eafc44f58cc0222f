use Rattle.std.proofs.Common.{subst, sym}
use Rattle.std.specs.Prelude.{IsSome}
use Rattle.timeline_board.specs.Refused.{name_of}
use Rattle.qasm_main.proofs.FaultLemmas.{long-named}
use Rattle.qasm_main.proofs.top.step.Goals as goal

pub returns-in-Ok-clause-tellable : goal.returns-in-Ok-clause-tellable
returns-in-Ok-clause-tellable g c = subst (λ r. IsSome (name_of r.code)) (sym c.in-Ok.ensures) long-named
