use Rattle.std.proofs.Common.{◌≡◌}
use Rattle.qs_machine.specs.Tapes.{qubit_keys}
use Rattle.qs_machine.proofs.tape.qubit_keys.Given as goal

abbrev pub invariant-loop-qubit : goal.invariant-loop-qubit
invariant-loop-qubit l = l.keys ≡ qubit_keys l.qubit
