use Rattle.std.proofs.Common.{◌∙◌, drop, sym, refl, arith}
use Rattle.qs_parser.specs.steps.Knot.{below}
use Rattle.qs_parser.specs.steps.Statements.{modifier_of}
use Rattle.qs_parser.proofs.Exits.{gives_stop}
use Rattle.qs_parser.proofs.ModifierByModifier.{modifiers_end, modifiers_go, modifiers_over, modifiers_stop}
use Rattle.qs_parser.proofs.calls.modifiers_at.Goals as goal

pub returns-in-None : goal.returns-in-None
returns-in-None g c =
    modifiers_end _ (below c.args.deeper.now.depth) c.args.renew c.loop-turn.left (drop c.loop-turn.at c.args.deeper.now.tokens.now) c.loop-turn.modifiers _ c.loop-turn.invariant (sym c.modifier_word.ensures ∙ rw (c.in-None.is) refl)

pub returns-in_err-read-in-Some : goal.returns-in_err-read-in-Some
returns-in_err-read-in-Some g c =
    gives_stop _ _ (modifier_of (below c.args.deeper.now.depth) c.args.renew c.loop-turn.left c.in-Some.text.now (drop c.in-Some.after c.args.deeper.now.tokens.now)) _ _ c.from_residual.ensures.1 c.in_err-read-in-Some.ensures
    (λ e. modifiers_stop _ (below c.args.deeper.now.depth) c.args.renew c.loop-turn.left (drop c.loop-turn.at c.args.deeper.now.tokens.now) c.loop-turn.modifiers _ c.in-Some.text.now (drop c.in-Some.after c.args.deeper.now.tokens.now) c.loop-turn.invariant (omega (arith, c.loop-turn-test.true)) (sym c.modifier_word.ensures ∙ rw (c.in-Some.is) refl) e)

pub loop-turn-preserved : goal.loop-turn-preserved
loop-turn-preserved g c =
    modifiers_go _ _ (below c.args.deeper.now.depth) c.args.renew c.loop-turn.left (drop c.loop-turn.at c.args.deeper.now.tokens.now) c.loop-turn.modifiers _ _ c.in-Some.text.now (drop c.in-Some.after c.args.deeper.now.tokens.now) _ _ _ c.loop-turn.invariant (omega (arith, c.loop-turn-test.true)) (sym c.modifier_word.ensures ∙ rw (c.in-Some.is) refl) c.in_ok-read-in-Some.ensures c.in_ok-push-in-Some.ensures.ok

pub returns : goal.returns
returns g c =
    modifiers_over _ (below c.args.deeper.now.depth) c.args.renew c.loop-turn.left (drop c.loop-turn.at c.args.deeper.now.tokens.now) c.loop-turn.modifiers _ c.loop-turn.invariant (omega (arith, c.loop-turn-test.false))
