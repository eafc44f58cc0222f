use Rattle.controller_machine.proofs.Timeline.{timeline-logs}
use Rattle.controller_machine.proofs.laws.logs_are_the_timeline.Goals as goal

pub returns : goal.returns
returns c = timeline-logs
