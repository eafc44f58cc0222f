use Rattle.controller_machine.proofs.Following.{states-follow}
use Rattle.controller_machine.proofs.laws.controllers_follow.Goals as goal

pub returns : goal.returns
returns c = states-follow
