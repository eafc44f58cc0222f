use Rattle.std.proofs.Common.{take}
use Rattle.box_schedule.proofs.StepLemmas.{HasPlaced}
use Rattle.box_schedule.proofs.placing.place.Given as goal

abbrev pub invariant-loop-op : goal.invariant-loop-op
invariant-loop-op l = HasPlaced (take l.op-index l.ops) l.clocks l.length l.starts.items
