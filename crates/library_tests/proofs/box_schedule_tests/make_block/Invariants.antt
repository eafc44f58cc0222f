use Rattle.std.proofs.Common.{All}
use Rattle.box_schedule.specs.Placement.{IsPlain}
use Rattle.library_tests.proofs.box_schedule_tests.make_block.Given as goal

abbrev pub invariant-loop-group : goal.invariant-loop-group
invariant-loop-group g l = All IsPlain l.ops.items
