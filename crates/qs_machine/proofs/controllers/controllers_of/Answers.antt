use Rattle.std.proofs.Common.{rules, inl, ◌∙◌, map, []}
use Rattle.serde_json.specs.View.{view}
use Rattle.qs_machine.specs.Steps.{in_order}
use Rattle.qs_machine.specs.Table.{controller_of}
use Rattle.qs_machine.proofs.Exits.{left_unless, bind_ok}
use Rattle.qs_machine.proofs.Loops.{in_order_stop}
use Rattle.qs_machine.proofs.controllers.controllers_of.Goals as goal

pub returns-in_err-controller-clause-value : goal.returns-in_err-controller-clause-value
returns-in_err-controller-clause-value c =
    let entries = c.in_ok-entries.entries.now in
    let stops = in_order_stop controller_of view _ c.loop-entry.controllers entries c.loop-entry.entry-index c.entry-item.result c.in_err-controller.field-0.0 c.loop-entry.invariant.reads c.loop-entry-test.true c.entry-item.is (search (rules)) in
    left_unless _ _ _ _ c.from_residual-in_err-controller.ensures.1 (inl (stops ∙ bind_ok _ (map view entries) (in_order controller_of []) c.in_ok-entries.ensures.value))
