use Rattle.std.proofs.Common.{rules}
use Rattle.box_schedule.proofs.EarliestLemmas.{IsEarliest-at}
use Rattle.box_schedule.proofs.placing.schedule.Goals as goal

pub returns-in-None-clause-earliest : goal.returns-in-None-clause-earliest
returns-in-None-clause-earliest c = IsEarliest-at c.args.block.now.ops c.in_ok-placed.placed.starts (search rules)
