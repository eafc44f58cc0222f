use Rattle.std.proofs.Common.{◌≡◌, ℕ, ◌<◌, max, drop, slice_index}
use Rattle.box_schedule.specs.steps.Clocks.{greatest}
use Rattle.box_schedule.proofs.placing.begin.Given as goal

abbrev pub invariant-loop-qubit : goal.invariant-loop-qubit
invariant-loop-qubit l =
    (max l.start (greatest (slice_index l.clocks) (drop l.qubit-index l.qubits)) ≡ greatest (slice_index l.clocks) l.qubits)
    × ((i : ℕ) → i < l.qubit-index → slice_index l.qubits i < 256)
