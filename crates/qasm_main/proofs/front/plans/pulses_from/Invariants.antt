use Rattle.std.proofs.Common.{◌≡◌, ◌++◌}
use Rattle.qasm_main.specs.front.Planned.{pulses_from}
use Rattle.qasm_main.proofs.front.plans.pulses_from.Given as goal

abbrev pub invariant-loop-located : goal.invariant-loop-located
invariant-loop-located l =
    l.events.items ++ pulses_from l.gates l.located-iterator.a.rest.now l.located-iterator.b.rest.now ≡ pulses_from l.gates l.statements l.starts
