use Rattle.std.proofs.Common.{◌≡◌, take, drop, nat_lt}
use Rattle.std.specs.List.{list_all}
use Rattle.qs_machine.proofs.ports.known_qubits.Given as goal

abbrev pub invariant-loop-qubit : goal.invariant-loop-qubit
invariant-loop-qubit l = record {
  known : l.known ≡ take l.qubit-index l.reached;
  so_far : list_all (λ q. nat_lt q l.qubits) l.reached ≡ list_all (λ q. nat_lt q l.qubits) (drop l.qubit-index l.reached);
}
