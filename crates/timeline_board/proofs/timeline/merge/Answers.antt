use Rattle.timeline_board.proofs.Lefts.{lefts-start}
use Rattle.timeline_board.proofs.timeline.merge.Goals as goal

pub returns : goal.returns
returns g c = lefts-start _ 16
