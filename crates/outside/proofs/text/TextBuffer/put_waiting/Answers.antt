use Rattle.std.proofs.Common.{subst, sym}
use Rattle.outside.specs.Text.{IsAt}
use Rattle.outside.proofs.Texts.{waits-put}
use Rattle.outside.proofs.text.TextBuffer.put_waiting.Goals as goal

pub returns-clause-same : goal.returns-clause-same
returns-clause-same g c = λ start text h.
    waits-put start (g.K.Sink.state c.args.sink.now) (g.K.Sink.state c.put_unless-self-inside.new.sink) _ text c.self.inside.failed c.put_unless-self-inside.result
    (subst (λ w. IsAt start (g.K.Sink.state c.args.sink.now) w text) (sym c.self.view_is) h) c.put_unless-self-inside.ensures
