use Rattle.std.proofs.Common.{◌∙◌, drop, sym, rules}
use Rattle.qs_parser.specs.steps.Asking.{deeper_whole}
use Rattle.qs_parser.specs.steps.Knot.{below}
use Rattle.qs_parser.proofs.Exits.{gives_stop}
use Rattle.qs_parser.proofs.Arguments.{args_as, args_closed, args_listed, args_none, args_unlisted, args_unopened, args_unclosed}
use Rattle.qs_parser.proofs.expressions.args_at.Goals as goal

pub returns-in_err-at : goal.returns-in_err-at
returns-in_err-at g c = gives_stop _ _ _ _ _ c.from_residual.ensures.1 c.in_err-at.ensures (args_unopened (below c.args.deeper.now.depth) c.args.renew c.args.left (drop c.args.at c.args.deeper.now.tokens.now))

pub returns-then-deeper-eq0 : goal.returns-then-deeper-eq0
returns-then-deeper-eq0 g c = args_none c.args.deeper.now.depth c.args.renew c.args.left (drop c.args.at c.args.deeper.now.tokens.now) c.if-deeper-eq0.true

pub returns-then-begins_sign : goal.returns-then-begins_sign
returns-then-begins_sign g c =
    rw (c.new.ensures)
    (args_as c.args.deeper.now.depth c.args.renew c.args.left (drop c.args.at c.args.deeper.now.tokens.now) (drop c.in_ok-at.at c.args.deeper.now.tokens.now) c.if-deeper-eq0.false c.in_ok-at.ensures
    ∙ args_closed _ c.args.left c.in_ok-at.at c.args.deeper.now.tokens.now (sym c.begins_sign.ensures ∙ c.if-begins_sign.true))

pub returns-in_err-item : goal.returns-in_err-item
returns-in_err-item g c =
    gives_stop _ _ _ _ _ c.from_residual-in_err-item.ensures.1 (c.in_err-item.ensures (deeper_whole (below c.args.deeper.now.depth) c.args.renew) (λ l a r p. search rules))
    (λ e. args_as c.args.deeper.now.depth c.args.renew c.args.left (drop c.args.at c.args.deeper.now.tokens.now) (drop c.in_ok-at.at c.args.deeper.now.tokens.now) c.if-deeper-eq0.false c.in_ok-at.ensures
    ∙ args_unlisted _ c.args.left (drop c.in_ok-at.at c.args.deeper.now.tokens.now) (sym c.begins_sign.ensures ∙ c.if-begins_sign.false) e)

pub returns-in_err-at-2 : goal.returns-in_err-at-2
returns-in_err-at-2 g c =
    gives_stop _ _ _ _ _ c.from_residual-in_err-at-2.ensures.1 c.in_err-at-2.ensures
    (λ e. args_as c.args.deeper.now.depth c.args.renew c.args.left (drop c.args.at c.args.deeper.now.tokens.now) (drop c.in_ok-at.at c.args.deeper.now.tokens.now) c.if-deeper-eq0.false c.in_ok-at.ensures
    ∙ args_unclosed _ c.args.left (drop c.in_ok-at.at c.args.deeper.now.tokens.now) _ _ _ (sym c.begins_sign.ensures ∙ c.if-begins_sign.false) (c.in_ok-item.ensures (deeper_whole (below c.args.deeper.now.depth) c.args.renew) (λ l a r p. search rules)) e)

pub returns : goal.returns
returns g c =
    args_as c.args.deeper.now.depth c.args.renew c.args.left (drop c.args.at c.args.deeper.now.tokens.now) (drop c.in_ok-at.at c.args.deeper.now.tokens.now) c.if-deeper-eq0.false c.in_ok-at.ensures
    ∙ args_listed _ c.args.left (drop c.in_ok-at.at c.args.deeper.now.tokens.now) _ _ _ _ (sym c.begins_sign.ensures ∙ c.if-begins_sign.false) (c.in_ok-item.ensures (deeper_whole (below c.args.deeper.now.depth) c.args.renew) (λ l a r p. search rules)) c.in_ok-at-2.ensures
