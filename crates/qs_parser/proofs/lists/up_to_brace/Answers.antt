use Rattle.std.proofs.Common.{◌∙◌, drop, sym, arith}
use Rattle.qs_parser.proofs.Exits.{gives_stop}
use Rattle.qs_parser.proofs.ItemByItem.{brace_ends, brace_goes, brace_missing, brace_stops}
use Rattle.qs_parser.proofs.lists.up_to_brace.Goals as goal

pub returns-then-begins_sign : goal.returns-then-begins_sign
returns-then-begins_sign g c reader h =
    brace_ends _ reader c.loop-turn.left c.loop-turn.at c.args.tokens.now c.loop-turn.items _ (c.loop-turn.invariant reader h) (omega (arith, c.loop-turn-test.true)) (sym c.begins_sign.ensures ∙ c.if-begins_sign.true)

pub returns-in_err-read : goal.returns-in_err-read
returns-in_err-read g c reader h =
    gives_stop _ _ (reader c.loop-turn.left (drop c.loop-turn.at c.args.tokens.now)) _ _ c.from_residual.ensures.1 (h _ _ _ c.in_err-read.ensures)
    (λ e. brace_stops _ reader c.loop-turn.left (drop c.loop-turn.at c.args.tokens.now) c.loop-turn.items _ (c.loop-turn.invariant reader h) (sym c.begins_sign.ensures ∙ c.if-begins_sign.false) e)

pub loop-turn-preserved : goal.loop-turn-preserved
loop-turn-preserved g c reader h =
    brace_goes _ _ reader c.loop-turn.left (drop c.loop-turn.at c.args.tokens.now) c.loop-turn.items _ _ _ _ _ (c.loop-turn.invariant reader h) (omega (arith, c.loop-turn-test.true)) (sym c.begins_sign.ensures ∙ c.if-begins_sign.false) (h _ _ _ c.in_ok-read.ensures) c.in_ok-push.ensures.ok

pub returns : goal.returns
returns g c reader h =
    brace_missing _ reader c.loop-turn.left (drop c.loop-turn.at c.args.tokens.now) c.loop-turn.items _ (c.loop-turn.invariant reader h) (omega (arith, c.loop-turn-test.false))
