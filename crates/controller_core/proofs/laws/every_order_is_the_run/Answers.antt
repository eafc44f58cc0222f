use Rattle.controller_core.proofs.OverLemmas.{every-order}
use Rattle.controller_core.proofs.laws.every_order_is_the_run.Goals as goal

pub returns : goal.returns
returns c = every-order c.controllers_follow.ensures c.controllers_walk.ensures
