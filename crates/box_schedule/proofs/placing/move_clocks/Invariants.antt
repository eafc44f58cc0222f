use Rattle.std.proofs.Common.{◌≡◌, ℕ, ◌<◌, max, take, slice_index, if◌then◌else◌}
use Rattle.box_schedule.specs.Placement.{is_among}
use Rattle.box_schedule.proofs.placing.move_clocks.Given as goal

abbrev pub invariant-loop-qubit : goal.invariant-loop-qubit
invariant-loop-qubit l = (q : ℕ) → q < 256 → slice_index l.clocks q ≡ (if is_among (take l.qubit-index l.qubits) q then max l.end (slice_index l.fn.clocks q) else slice_index l.fn.clocks q)
