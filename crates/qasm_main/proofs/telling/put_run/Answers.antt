use Rattle.std.proofs.Common.{◌≡◌, subst}
use Rattle.std.proofs.lemmas.Result.{err_from_is_err_and}
use Rattle.outside.specs.Sink.{StopsIn, with_text}
use Rattle.qasm_main.specs.Texts.{counts_line}
use Rattle.qasm_main.proofs.TextLemmas.{puts-after, stops-before}
use Rattle.qasm_main.proofs.telling.put_run.Goals as goal

pub report-requires-clause-names : goal.report-requires-clause-names
report-requires-clause-names g c = c.requires.names

pub report-requires-clause-store : goal.report-requires-clause-store
report-requires-clause-store g c = c.requires.store

pub report-requires-clause-outs : goal.report-requires-clause-outs
report-requires-clause-outs g c = c.requires.outs

pub returns-in_err-report : goal.returns-in_err-report
returns-in_err-report g c =
    let start = g.K.Sink.state c.args.sink.now in
    let new = g.K.Sink.state c.report.new.sink in
    let put = c.in_err-report.ensures in
    let same = c.requires.report c.args.machine.now put.entries put.hub put.merged put.first in
    let failed = err_from_is_err_and c.from_residual.result c.from_residual.ensures.1 in
    stops-before start new _ _ _ c.from_residual.result failed.1 (subst (StopsIn start new) same put.text)

pub returns : goal.returns
returns g c =
    let start = g.K.Sink.state c.args.sink.now in
    let mid = g.K.Sink.state c.report.new.sink in
    let put = c.in_ok-report.ensures in
    let same = c.requires.report c.args.machine.now put.entries put.hub put.merged put.first in
    puts-after start mid (g.K.Sink.state c.put_counts.new.sink) _ (counts_line c.args.ran.now.counts.stepped c.args.ran.now.counts.waited) c.put_counts.result
    (subst (λ text. mid ≡ with_text start text) same put.text) c.put_counts.ensures
