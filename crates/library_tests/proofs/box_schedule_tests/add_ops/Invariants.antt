use Rattle.std.proofs.Common.{All}
use Rattle.box_schedule.specs.Placement.{IsPlain}
use Rattle.library_tests.proofs.box_schedule_tests.add_ops.Given as goal

abbrev pub invariant-loop : goal.invariant-loop
invariant-loop g l = All IsPlain l.ops.items
