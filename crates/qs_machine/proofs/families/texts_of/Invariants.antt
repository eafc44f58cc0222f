use Rattle.std.proofs.Common.{◌≡◌, [], map, drop}
use Rattle.serde_json.specs.View.{view}
use Rattle.qs_machine.specs.Steps.{in_order}
use Rattle.qs_machine.specs.Table.{text_of}
use Rattle.qs_machine.proofs.families.texts_of.Given as goal

abbrev pub invariant-loop-entry : goal.invariant-loop-entry
invariant-loop-entry l = in_order (text_of l.family) [] (map view l.entries) ≡ in_order (text_of l.family) (map (λ s. s.now) l.texts) (map view (drop l.entry-index l.entries))
