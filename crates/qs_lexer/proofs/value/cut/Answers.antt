use Rattle.std.proofs.Common.{◌≡◌, ◌^◌, MatchOption, pos, subst, sym, arith}
use Rattle.std.specs.Str.{chars}
use Rattle.qs_values.specs.Lowest.{IsWide}
use Rattle.qs_values.specs.Number.{IsFrac}
use Rattle.qs_lexer.specs.Values.{mantissa, value_of}
use Rattle.qs_lexer.specs.steps.Mantissas.{HasDecimals}
use Rattle.qs_lexer.proofs.Decimals.{scaled_is}
use Rattle.qs_lexer.proofs.value.cut.Goals as goal

pub returns-in-Some : goal.returns-in-Some
returns-in-Some c =
    let text = chars c.args.text.now in
    let read = c.read_mantissa-value.result in
    let front = c.read_mantissa-value.ensures in
    let all : read.0 ≡ value_of 10 (mantissa text) = omega (arith, front.value, c.if-value-lt-CAP.true) in
    let has = subst (λ t. HasDecimals read.1 t c.in-Some.count) front.behind c.in-Some.ensures in
    subst (λ n. MatchOption c.uncut.result (IsWide (pos n) (pos (10 ^ 17))) (λ f. IsFrac (pos n) (pos (10 ^ 17)) f)) (sym (scaled_is text read.0 read.1 c.in-Some.count all front.places has)) c.uncut.ensures
