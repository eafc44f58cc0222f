use Rattle.std.proofs.Common.{◌≡◌, ◌<◌, length, rules, arith, SFits, w64, to_z-of_z, ◌∙◌}
use Rattle.box_schedule.specs.Placement.{end_from, opened}
use Rattle.box_schedule.proofs.StepLemmas.{HasPlaced-more, end_is}
use Rattle.box_schedule.proofs.placing.place.Goals as goal

pub loop-op-preserved : goal.loop-op-preserved
loop-op-preserved c =
    let within : c.loop-op.op-index < length c.args.ops.now = omega arith in
    let fits : SFits w64 (opened c.op-item.result).length.ticks = search rules in
    let ends : c.saturating_add_signed-end.result ≡ end_from c.begin-start.result c.op-item.result =
    c.saturating_add_signed-end.ensures ∙ rw (to_z-of_z fits) (end_is c.args.ops.now c.loop-op.op-index c.op-item.result c.as_slice-qubits.result.now c.loop-op.clocks c.loop-op.length
    c.loop-op.starts.items c.begin-start.result c.requires.plain c.requires.count within c.op-item.is c.as_slice-qubits.ensures
    c.begin-start.ensures.known c.loop-op.invariant c.begin-start.ensures.start) in
    rw (c.max-length.ensures, c.in_ok-push.ensures.items) (HasPlaced-more c.args.ops.now c.loop-op.op-index c.op-item.result c.as_slice-qubits.result.now c.loop-op.clocks
    c.move_clocks.new.clocks c.loop-op.length c.loop-op.starts.items c.begin-start.result _ c.requires.plain within c.op-item.is
    c.as_slice-qubits.ensures c.begin-start.ensures.known c.loop-op.invariant c.begin-start.ensures.start ends c.move_clocks.ensures)
