use Rattle.outside.proofs.Texts.{at-end}
use Rattle.qasm_dump.proofs.output.put_text.Goals as goal

pub returns : goal.returns
returns g c =
    let start = g.K.Sink.state c.args.sink.now in
    c.finish.ensures start _ (at-end _ _ _ _ _ c.new-page.ensures c.text.ensures)
