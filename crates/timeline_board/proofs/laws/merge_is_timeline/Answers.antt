use Rattle.timeline_board.proofs.ReportLemmas.{merged-planned}
use Rattle.timeline_board.proofs.laws.merge_is_timeline.Goals as goal

pub returns : goal.returns
returns c = merged-planned c.logs_stand_in_order.ensures
