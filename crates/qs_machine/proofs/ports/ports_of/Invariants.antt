use Rattle.std.proofs.Common.{◌≡◌, [], map, drop, length}
use Rattle.serde_json.specs.View.{view}
use Rattle.qs_machine.specs.Steps.{in_order}
use Rattle.qs_machine.specs.Table.{port_of}
use Rattle.qs_machine.proofs.ports.ports_of.Given as goal

abbrev pub invariant-loop-entry : goal.invariant-loop-entry
invariant-loop-entry l = record {
  counted : length l.ports ≡ l.entry-index;
  named : l.names ≡ map (λ p. p.name) l.ports;
  reads : in_order (port_of l.qubits l.controllers) [] (map view l.entries) ≡ in_order (port_of l.qubits l.controllers) l.ports (map view (drop l.entry-index l.entries));
}
