use Rattle.std.proofs.Common.{subst, sym}
use Rattle.outside.specs.Text.{HasPut}
use Rattle.outside.proofs.Texts.{put-more, put-stops}
use Rattle.outside.proofs.text.put_all.Goals as goal

pub loop-rest-preserved : goal.loop-rest-preserved
loop-rest-preserved g c =
    let start = g.K.Sink.state c.args.sink.now in
    let new = g.K.Sink.state c.put.new.self in
    subst (λ rest. HasPut start new rest c.args.text.now) (sym c.split_at.ensures.back)
    (put-more start (g.K.Sink.state c.loop-rest.sink) new c.loop-rest.rest.now c.args.text.now c.in-Ok.count c.loop-rest.invariant c.in-Ok.ensures.state)

pub returns-in-Err : goal.returns-in-Err
returns-in-Err g c =
    put-stops (g.K.Sink.state c.args.sink.now) (g.K.Sink.state c.loop-rest.sink) (g.K.Sink.state c.put.new.self) c.loop-rest.rest.now c.args.text.now c.loop-rest.invariant c.in-Err.ensures.rose c.in-Err.ensures.bytes
