use Rattle.std.proofs.Common.{◌≡◌, [], map, drop}
use Rattle.serde_json.specs.View.{view}
use Rattle.qs_machine.specs.Steps.{in_order}
use Rattle.qs_machine.specs.Table.{wave_of}
use Rattle.qs_machine.proofs.waveforms.waveforms_of.Given as goal

abbrev pub invariant-loop-entry : goal.invariant-loop-entry
invariant-loop-entry l = record {
  named : l.names ≡ map (λ w. w.name) l.waveforms;
  reads : in_order wave_of [] (map view l.entries) ≡ in_order wave_of l.waveforms (map view (drop l.entry-index l.entries));
}
