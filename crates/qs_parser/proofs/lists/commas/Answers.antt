use Rattle.std.proofs.Common.{◌+◌, ◌∙◌, drop, sym, arith}
use Rattle.qs_parser.proofs.Exits.{gives_stop}
use Rattle.qs_parser.proofs.ItemByItem.{commas_end, commas_go, commas_spent, commas_stop}
use Rattle.qs_parser.proofs.lists.commas.Goals as goal

pub returns-then-not-begins_sign : goal.returns-then-not-begins_sign
returns-then-not-begins_sign g c reader h =
    commas_end _ reader c.loop-turn.left (drop c.loop-turn.at c.args.tokens.now) c.loop-turn.items _ (c.loop-turn.invariant reader h) (sym c.begins_sign.ensures ∙ c.if-not-begins_sign.true)

pub returns-in_err-read : goal.returns-in_err-read
returns-in_err-read g c reader h =
    gives_stop _ _ (reader c.loop-turn.left (drop (c.loop-turn.at + 1) c.args.tokens.now)) _ _ c.from_residual-in_err-read.ensures.1 (h _ _ _ c.in_err-read.ensures)
    (λ e. commas_stop _ reader c.loop-turn.left c.loop-turn.at c.args.tokens.now c.loop-turn.items _ (c.loop-turn.invariant reader h) (omega (arith, c.loop-turn-test.true)) (sym c.begins_sign.ensures ∙ c.if-not-begins_sign.false) e)

pub loop-turn-preserved : goal.loop-turn-preserved
loop-turn-preserved g c reader h =
    commas_go _ _ reader c.loop-turn.left c.loop-turn.at c.args.tokens.now c.loop-turn.items _ _ _ _ _ (c.loop-turn.invariant reader h) (omega (arith, c.loop-turn-test.true)) (sym c.begins_sign.ensures ∙ c.if-not-begins_sign.false) (h _ _ _ c.in_ok-read.ensures) c.in_ok-push-2.ensures.ok

pub returns : goal.returns
returns g c reader h =
    commas_spent _ reader c.loop-turn.left (drop c.loop-turn.at c.args.tokens.now) c.loop-turn.items _ (c.loop-turn.invariant reader h) (omega (arith, c.loop-turn-test.false))
