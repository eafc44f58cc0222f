use Rattle.std.proofs.Common.{◌∙◌, ◌-◌, ◌^◌, sym, ap}
use Rattle.std.specs.Prelude.{min}
use Rattle.std.specs.Str.{chars}
use Rattle.qs_lexer.specs.Values.{mantissa, value_of}
use Rattle.qs_lexer.proofs.Shifts.{over_higher, over_lower, product_cut}
use Rattle.qs_lexer.proofs.value.shifted.Goals as goal

pub returns-then-up-down : goal.returns-then-up-down
returns-then-up-down c = c.without_last.ensures ∙ ap (λ n. min n (10 ^ 36)) (sym (over_higher (value_of 10 (mantissa (chars c.args.text.now))) c.args.up c.args.down c.if-up-down.true))

pub returns-else-up-down : goal.returns-else-up-down
returns-else-up-down c =
    let m = value_of 10 (mantissa (chars c.args.text.now)) in
    c.times_power.ensures ∙ product_cut m c.args.value (c.args.up - c.args.down) c.requires ∙ ap (λ n. min n (10 ^ 36)) (sym (over_lower m c.args.up c.args.down c.if-up-down.false))
