use Rattle.timeline_board.specs.Refused.{names}
use Rattle.timeline_board.proofs.names.name_of_code.Goals as goal

pub returns : goal.returns
unfolding names
returns c = c.find_name.ensures
