use Rattle.std.proofs.Common.{take}
use Rattle.std.specs.List.{flat_map}
use Rattle.outside.specs.Text.{GoesOn}
use Rattle.timeline_board.specs.Report.{out_line}
use Rattle.timeline_board.proofs.lines.put_outs.Given as goal

abbrev pub invariant-loop-out : goal.invariant-loop-out
invariant-loop-out g l = GoesOn (g.K.Sink.state l.initial.sink) l.initial.page (g.K.Sink.state l.sink) l.page (flat_map (out_line l.store) (take l.out-index l.outs))
