use Rattle.std.proofs.Common.{◌++◌, ap, subst, take, ◌∙◌}
use Rattle.std.specs.List.{flat_map}
use Rattle.std.proofs.lemmas.List.{take_all}
use Rattle.outside.specs.Text.{IsAt}
use Rattle.timeline_board.proofs.LineLemmas.{line-more}
use Rattle.qasm_dump.specs.Tokens.{token_line}
use Rattle.qasm_dump.proofs.tokens.put_tokens.Goals as goal

pub loop-token-preserved : goal.loop-token-preserved
loop-token-preserved g c =
    let start = g.K.Sink.state c.args.sink.now in
    let lines = flat_map token_line in
    let next = c.put_token.ensures.on start _ c.loop-token.invariant in
    let line = ap token_line c.token-item.is in
    subst (IsAt start (g.K.Sink.state c.put_token.new.sink) c.put_token.new.page)
    (ap (λ t. lines (take c.loop-token.token-index c.args.tokens.now) ++ t) line ∙ line-more token_line c.args.tokens.now c.loop-token.token-index c.token-item.result c.loop-token-test.true)
    next

pub returns : goal.returns
returns g c =
    let start = g.K.Sink.state c.args.sink.now in
    let all = take_all c.loop-token.token-index c.args.tokens.now c.loop-token-test.false in
    c.finish.ensures start _ (subst (λ ts. IsAt start (g.K.Sink.state c.loop-token.sink) c.loop-token.page (flat_map token_line ts)) all c.loop-token.invariant)
