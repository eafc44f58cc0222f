use Rattle.controller_machine.proofs.Sizes.{acts-weigh}
use Rattle.controller_machine.proofs.laws.acts_are_few.Goals as goal

pub returns : goal.returns
returns c = acts-weigh
