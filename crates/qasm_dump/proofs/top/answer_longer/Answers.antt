use Rattle.std.proofs.Common.{subst, sym}
use Rattle.std.specs.Prelude.{IsSome}
use Rattle.timeline_board.specs.Refused.{name_of}
use Rattle.qasm_dump.proofs.Naming.{long-named}
use Rattle.qasm_dump.proofs.top.answer_longer.Goals as goal

pub tell_refusal-requires : goal.tell_refusal-requires
tell_refusal-requires g c = subst (λ r. IsSome (name_of r.code)) (sym c.in-Ok.ensures) (long-named c.args.name.now)
