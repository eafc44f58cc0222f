use Rattle.std.proofs.Common.{length}
use Rattle.outside.specs.Text.{HasPut}
use Rattle.outside.proofs.text.put_all.Given as goal

abbrev pub invariant-loop-rest : goal.invariant-loop-rest
invariant-loop-rest g l = HasPut (g.K.Sink.state l.initial.sink) (g.K.Sink.state l.sink) l.rest l.text

abbrev pub decreases-loop-rest : goal.decreases-loop-rest
decreases-loop-rest g l = length l.rest
