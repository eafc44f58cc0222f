use Rattle.timeline_board.proofs.ReportLemmas.{report-is-run}
use Rattle.timeline_board.proofs.laws.report_is_run.Goals as goal

pub returns : goal.returns
returns c = report-is-run c.merge_is_timeline.ensures
