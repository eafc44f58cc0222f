use Rattle.std.proofs.Common.{◌≡◌, [], drop, take}
use Rattle.serde_json.specs.View.{view}
use Rattle.qs_machine.specs.Steps.{in_order}
use Rattle.qs_machine.specs.Limits.{AreValues}
use Rattle.qs_machine.specs.Tapes.{input_of}
use Rattle.qs_machine.proofs.tape.inputs_of.Given as goal

abbrev pub invariant-loop-input : goal.invariant-loop-input
invariant-loop-input l = record {
  reads : in_order (input_of (view l.tape)) [] l.inputs ≡ in_order (input_of (view l.tape)) l.values (drop l.input-index l.inputs);
  fit : AreValues (take l.input-index l.inputs) l.values;
}
