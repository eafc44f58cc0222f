use Rattle.std.proofs.Common.{subst}
use Rattle.outside.specs.Sink.{PutsText}
use Rattle.qasm_main.specs.Texts.{read_failed}
use Rattle.outside.proofs.Texts.{at-end, goes-then}
use Rattle.qasm_main.proofs.telling.put_read_failed.Goals as goal

pub returns : goal.returns
returns g c =
    let start = g.K.Sink.state c.args.sink.now in
    let text = goes-then (goes-then c.text.ensures c.text-2.ensures) c.text-3.ensures in
    subst (λ name. PutsText start (g.K.Sink.state c.finish.new.sink) (read_failed name) c.finish.result) c.as_bytes.ensures.value
    (c.finish.ensures start _ (at-end _ _ _ _ _ c.new-page.ensures text))
