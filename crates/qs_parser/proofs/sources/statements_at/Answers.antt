use Rattle.std.proofs.Common.{drop, arith}
use Rattle.qs_parser.proofs.StatementByStatement.{statements_end, statements_go, statements_over}
use Rattle.qs_parser.proofs.sources.statements_at.Goals as goal

pub returns-in-Err-Unread : goal.returns-in-Err-Unread
returns-in-Err-Unread c =
    statements_end _ (drop c.loop-turn.at c.args.tokens.now) c.loop-turn.body _ c.loop-turn.invariant (rw c.in-Err-Unread.field-0-is at c.in-Err-Unread.ensures)

pub loop-turn-preserved : goal.loop-turn-preserved
loop-turn-preserved c =
    statements_go _ _ (drop c.loop-turn.at c.args.tokens.now) c.loop-turn.body _ _ _ _ c.loop-turn.invariant (omega (arith, c.loop-turn-test.true)) c.in-Ok.ensures c.in_ok-push-in-Ok.ensures.ok

pub returns : goal.returns
returns c = statements_over _ (drop c.loop-turn.at c.args.tokens.now) c.loop-turn.body _ c.loop-turn.invariant (omega (arith, c.loop-turn-test.false))
