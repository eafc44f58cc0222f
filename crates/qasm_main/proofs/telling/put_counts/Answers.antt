use Rattle.outside.proofs.Texts.{at-end, goes-then}
use Rattle.qasm_main.proofs.telling.put_counts.Goals as goal

pub returns : goal.returns
returns g c =
    let start = g.K.Sink.state c.args.sink.now in
    let text = goes-then (goes-then (goes-then (goes-then c.text.ensures c.number.ensures) c.text-2.ensures) c.number-2.ensures) c.text-3.ensures in
    c.finish.ensures start _ (at-end _ _ _ _ _ c.new-page.ensures text)
