use Rattle.std.proofs.Common.{◌≡◌, [], map, drop}
use Rattle.serde_json.specs.View.{view}
use Rattle.qs_machine.specs.Steps.{in_order}
use Rattle.qs_machine.specs.Table.{sample_of}
use Rattle.qs_machine.proofs.waveforms.samples_of.Given as goal

abbrev pub invariant-loop-entry : goal.invariant-loop-entry
invariant-loop-entry l = in_order (sample_of l.number) [] (map view l.entries) ≡ in_order (sample_of l.number) l.samples (map view (drop l.entry-index l.entries))
