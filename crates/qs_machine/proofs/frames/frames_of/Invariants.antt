use Rattle.std.proofs.Common.{◌≡◌, [], map, drop, length}
use Rattle.serde_json.specs.View.{view}
use Rattle.qs_machine.specs.Steps.{in_order}
use Rattle.qs_machine.specs.Table.{frame_of}
use Rattle.qs_machine.proofs.frames.frames_of.Given as goal

abbrev pub invariant-loop-entry : goal.invariant-loop-entry
invariant-loop-entry l = record {
  counted : length l.frames ≡ l.entry-index;
  named : l.names ≡ map (λ f. f.name) l.frames;
  reads : in_order (frame_of l.ports) [] (map view l.entries) ≡ in_order (frame_of l.ports) l.frames (map view (drop l.entry-index l.entries));
}
