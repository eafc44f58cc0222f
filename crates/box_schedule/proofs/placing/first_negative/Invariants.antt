use Rattle.std.proofs.Common.{take}
use Rattle.box_schedule.specs.Placement.{NoneIsNegative}
use Rattle.box_schedule.proofs.placing.first_negative.Given as goal

abbrev pub invariant-loop-op : goal.invariant-loop-op
invariant-loop-op l = NoneIsNegative (take l.op-index l.ops)
