use Rattle.outside.proofs.Texts.{goes-then}
use Rattle.outside.proofs.Texts.{at-end}
use Rattle.qasm_dump.proofs.top.tell.Goals as goal

pub returns : goal.returns
returns g c =
    let start = g.K.Sink.state c.args.sink.now in
    let text = goes-then (goes-then c.text.ensures c.text-2.ensures) c.text-3.ensures in
    c.status_of.ensures start _ _ (c.finish-written.ensures start _ (at-end _ _ _ _ _ c.new-page.ensures text))
