use Rattle.timeline_board.proofs.ReportLemmas.{logs-have-names}
use Rattle.timeline_board.proofs.laws.logs_have_names.Goals as goal

pub returns : goal.returns
returns c = logs-have-names c.plays_are_events.ensures
