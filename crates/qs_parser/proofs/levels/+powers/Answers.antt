use Rattle.std.proofs.Common.{◌+◌, ◌-◌, ◌∙◌, drop, sym}
use Rattle.qs_parser.specs.steps.Expressions.{unary}
use Rattle.qs_parser.specs.steps.Knot.{below}
use Rattle.qs_parser.specs.steps.Powers.{right_of}
use Rattle.qs_parser.proofs.Exits.{gives_stop}
use Rattle.qs_parser.proofs.OperatorSteps.{power_base, power_goes, power_spent, power_stops, raised_as, raised_stops, raised_unread, unary_power, unary_signed}
use Rattle.qs_parser.proofs.levels.+powers.Goals as goal

pub tight-returns-in-Some : goal.tight-returns-in-Some
tight-returns-in-Some g t c =
    rw (unary_signed c.args.powers c.in-Some.op (below c.args.deeper.now.depth) c.args.left (drop c.args.at c.args.deeper.now.tokens.now) (sym c.in-Some.ensures)) c.signed.ensures

pub tight-returns-in-None : goal.tight-returns-in-None
tight-returns-in-None g t c =
    rw (unary_power c.args.powers (below c.args.deeper.now.depth) c.args.left (drop c.args.at c.args.deeper.now.tokens.now) (sym c.in-None.ensures)) c.power.ensures

pub power-returns-in_err-base : goal.power-returns-in_err-base
power-returns-in_err-base g t c =
    gives_stop _ _ _ _ _ c.from_residual.ensures.1 c.in_err-base.ensures
    (power_stops (right_of c.args.powers (below c.args.deeper.now.depth)) (below c.args.deeper.now.depth) c.args.left (drop c.args.at c.args.deeper.now.tokens.now))

pub power-returns-then-not-begins_sign : goal.power-returns-then-not-begins_sign
power-returns-then-not-begins_sign g t c =
    power_base (right_of c.args.powers (below c.args.deeper.now.depth)) (below c.args.deeper.now.depth) c.args.left (drop c.args.at c.args.deeper.now.tokens.now) _ _ _ c.in_ok-base.ensures
    (sym c.begins_sign.ensures ∙ c.if-not-begins_sign.true)

pub power-returns-then-powers-eq0 : goal.power-returns-then-powers-eq0
power-returns-then-powers-eq0 g t c =
    power_spent c.args.powers (below c.args.deeper.now.depth) c.args.left (drop c.args.at c.args.deeper.now.tokens.now) _ _ _ c.in_ok-base.ensures
    (sym c.begins_sign.ensures ∙ c.if-not-begins_sign.false) c.if-powers-eq0.true

pub power-returns-in_err-fewer : goal.power-returns-in_err-fewer
power-returns-in_err-fewer g t c =
    gives_stop _ _ _ _ _ c.from_residual-in_err-fewer.ensures.1 c.in_err-fewer.ensures
    (λ e. power_goes c.args.powers (below c.args.deeper.now.depth) c.args.left c.in_ok-base.field-0.at (drop c.args.at c.args.deeper.now.tokens.now) c.args.deeper.now.tokens.now _ _ c.in_ok-base.ensures
    (sym c.begins_sign.ensures ∙ c.if-not-begins_sign.false) c.if-powers-eq0.false
    ∙ raised_stops (unary (c.args.powers - 1) (below c.args.deeper.now.depth)) _ _ (drop (c.in_ok-base.field-0.at + 1) c.args.deeper.now.tokens.now) e)

pub power-returns-in_err-item : goal.power-returns-in_err-item
power-returns-in_err-item g t c =
    gives_stop _ _ _ _ _ c.from_residual-in_err-item.ensures.1 c.in_err-item.ensures
    (λ e. power_goes c.args.powers (below c.args.deeper.now.depth) c.args.left c.in_ok-base.field-0.at (drop c.args.at c.args.deeper.now.tokens.now) c.args.deeper.now.tokens.now _ _ c.in_ok-base.ensures
    (sym c.begins_sign.ensures ∙ c.if-not-begins_sign.false) c.if-powers-eq0.false
    ∙ raised_unread (unary (c.args.powers - 1) (below c.args.deeper.now.depth)) _ _ _ (drop (c.in_ok-base.field-0.at + 1) c.args.deeper.now.tokens.now) c.in_ok-fewer.ensures e)

pub power-returns : goal.power-returns
power-returns g t c =
    rw (c.in_ok-item-2.ensures)
    (power_goes c.args.powers (below c.args.deeper.now.depth) c.args.left c.in_ok-base.field-0.at (drop c.args.at c.args.deeper.now.tokens.now) c.args.deeper.now.tokens.now _ _ c.in_ok-base.ensures
    (sym c.begins_sign.ensures ∙ c.if-not-begins_sign.false) c.if-powers-eq0.false
    ∙ raised_as (unary (c.args.powers - 1) (below c.args.deeper.now.depth)) _ _ _ (drop (c.in_ok-base.field-0.at + 1) c.args.deeper.now.tokens.now) _ _ _ c.in_ok-fewer.ensures c.in_ok-item.ensures)
