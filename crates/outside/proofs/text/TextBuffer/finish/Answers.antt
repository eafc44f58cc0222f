use Rattle.std.proofs.Common.{subst, sym, ap, ◌∙◌, false}
use Rattle.outside.specs.Text.{IsAtBy}
use Rattle.outside.proofs.Texts.{text-ends}
use Rattle.outside.proofs.text.TextBuffer.finish.Goals as goal

pub returns-then-all : goal.returns-then-all
returns-then-all g c = λ start text h.
    subst (λ failed. IsAtBy start (g.K.Sink.state c.put_waiting.new.sink) c.put_waiting.new.self.bytes text failed) (sym (ap (λ w. w.failed) c.all.view_is) ∙ c.if-all.true) (c.put_waiting.ensures.same start text h)

pub returns-else-all : goal.returns-else-all
returns-else-all g c = λ start text h.
    let new = g.K.Sink.state c.put_waiting.new.sink in
    text-ends start new text (subst (λ bytes. IsAtBy start new bytes text false) c.put_waiting.ensures.none
    (subst (λ failed. IsAtBy start new c.put_waiting.new.self.bytes text failed) (sym (ap (λ w. w.failed) c.all.view_is) ∙ c.if-all.false) (c.put_waiting.ensures.same start text h)))
