use Rattle.std.proofs.Common.{subst, sym, ap, ◌∙◌, ◌++◌}
use Rattle.outside.specs.Text.{IsAt, IsAtBy}
use Rattle.outside.proofs.Texts.{text-put, text-waits}
use Rattle.outside.proofs.text.TextBuffer.text.Goals as goal

pub returns-then-text-le-ROOM_BYTES : goal.returns-then-text-le-ROOM_BYTES
returns-then-text-le-ROOM_BYTES g c = record {
  on = λ start before h.
      let mid = g.K.Sink.state c.put_waiting.new.sink in
      let waiting = c.put_waiting.new.self in
      subst (λ w. IsAt start mid w (before ++ c.args.text.now)) (sym c.wait-then-text-le-ROOM_BYTES.ensures)
      (text-waits start mid waiting.bytes before c.args.text.now waiting.failed (c.put_waiting.ensures.same start before h));
}

pub returns-else-text-le-ROOM_BYTES : goal.returns-else-text-le-ROOM_BYTES
returns-else-text-le-ROOM_BYTES g c = record {
  on = λ start before h.
      let mid = g.K.Sink.state c.put_waiting.new.sink in
      let new = g.K.Sink.state c.put_unless-self-inside.new.sink in
      let self = c.self-else-text-le-ROOM_BYTES in
      let none = ap (λ w. w.bytes) self.view_is ∙ c.put_waiting.ensures.none in
      let opened = subst (λ w. IsAt start mid w before) (sym self.view_is) (c.put_waiting.ensures.same start before h) in
      let at = subst (λ bytes. IsAtBy start mid bytes before self.inside.failed) none opened in
      subst (λ bytes. IsAtBy start new bytes (before ++ c.args.text.now) c.put_unless-self-inside.result) (sym none)
      (text-put start mid new before c.args.text.now self.inside.failed c.put_unless-self-inside.result at c.put_unless-self-inside.ensures);
}
