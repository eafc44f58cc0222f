use Rattle.std.proofs.Common.{rules, refl, to_z-of_z}
use Rattle.library_tests.proofs.BlockLemmas.{plain_of}
use Rattle.library_tests.proofs.box_schedule_tests.make_op.Goals as goal

pub returns : goal.returns
returns g c = plain_of _ c.args.ticks (search rules) (to_z-of_z c.ranges.ticks) (search rules) (search rules) refl
