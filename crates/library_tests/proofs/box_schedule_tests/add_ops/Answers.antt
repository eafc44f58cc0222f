use Rattle.std.proofs.lemmas.List.Elements.{All-push}
use Rattle.box_schedule.specs.Placement.{IsPlain}
use Rattle.library_tests.proofs.box_schedule_tests.add_ops.Goals as goal

pub loop-preserved : goal.loop-preserved
loop-preserved g c = rw c.in_ok-push.ensures.items (All-push IsPlain c.loop.ops.items c.in_ok-make_op.field-0 c.loop.invariant c.in_ok-make_op.ensures)
