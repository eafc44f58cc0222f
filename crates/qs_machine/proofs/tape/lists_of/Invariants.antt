use Rattle.std.proofs.Common.{◌≡◌}
use Rattle.serde_json.specs.View.{view}
use Rattle.qs_machine.specs.Tapes.{lists_of}
use Rattle.qs_machine.proofs.tape.lists_of.Given as goal

abbrev pub invariant-loop-qubit : goal.invariant-loop-qubit
invariant-loop-qubit l = l.lists ≡ lists_of (view l.tape) l.qubit
