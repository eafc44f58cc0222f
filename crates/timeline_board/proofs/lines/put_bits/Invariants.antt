use Rattle.std.proofs.Common.{◌≡◌, ℕ, List, ◌++◌}
use Rattle.outside.specs.Text.{GoesOn}
use Rattle.timeline_board.specs.Report.{digits_from}
use Rattle.timeline_board.proofs.lines.put_bits.Given as goal

abbrev pub invariant-loop-i : goal.invariant-loop-i
invariant-loop-i g l =
    (done : List ℕ)
    × GoesOn (g.K.Sink.state l.initial.sink) l.initial.page (g.K.Sink.state l.sink) l.page done
    × (done ++ digits_from l.store l.first l.i ≡ digits_from l.store l.first l.width)
