use Rattle.std.proofs.Common.{inl, inr}
use Rattle.qasm_main.proofs.PulseLemmas.{pulses_made}
use Rattle.qasm_main.proofs.front.plans.pulses_from.Goals as goal

pub returns : goal.returns
returns c = pulses_made c.args.gates.now _ _ _ _ c.loop-located.invariant (elim c.in-None.ensures.steps [ inl w ↦ inl w.1.0 | inr w ↦ inr w.1.0 ])
