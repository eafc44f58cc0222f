use Rattle.std.proofs.Common.{◌≡◌, [], map, drop, length}
use Rattle.serde_json.specs.View.{view}
use Rattle.qs_machine.specs.Steps.{in_order}
use Rattle.qs_machine.specs.Table.{controller_of}
use Rattle.qs_machine.proofs.controllers.controllers_of.Given as goal

abbrev pub invariant-loop-entry : goal.invariant-loop-entry
invariant-loop-entry l = record {
  counted : length l.controllers ≡ l.entry-index;
  reads : in_order controller_of [] (map view l.entries) ≡ in_order controller_of l.controllers (map view (drop l.entry-index l.entries));
}
