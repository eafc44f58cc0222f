use Rattle.controller_machine.proofs.Hub.{controllers-walk}
use Rattle.controller_machine.proofs.laws.controllers_walk.Goals as goal

pub returns : goal.returns
returns c = controllers-walk
