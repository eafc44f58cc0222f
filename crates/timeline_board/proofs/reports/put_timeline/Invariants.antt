use Rattle.std.proofs.Common.{List, length}
use Rattle.std.specs.List.{flat_map}
use Rattle.outside.specs.Text.{GoesOn}
use Rattle.controller_machine.specs.declared.ctl.Played.{Played}
use Rattle.timeline_board.specs.Conditions.{AreNamed}
use Rattle.timeline_board.specs.Order.{all_of, logs_of}
use Rattle.timeline_board.specs.Report.{entry_line}
use Rattle.timeline_board.proofs.Timelines.{GoesOnAs}
use Rattle.timeline_board.proofs.reports.put_timeline.Given as goal

abbrev pub invariant-loop-played : goal.invariant-loop-played
invariant-loop-played g l =
    (done : List Played)
    × GoesOnAs done l.entries (logs_of (g.L.Ctls.states l.ctls))
    × AreNamed l.machine l.entries
    × GoesOn (g.K.Sink.state l.initial.sink) l.initial.page (g.K.Sink.state l.sink) l.page (flat_map (entry_line l.machine) done)

abbrev pub decreases-loop-played : goal.decreases-loop-played
decreases-loop-played g l = length (all_of l.entries)
