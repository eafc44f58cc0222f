use Rattle.qs_lexer.proofs.ShortMantissas.{ends_if, nothing_ends}
use Rattle.qs_lexer.proofs.mantissa.ends_mantissa.Goals as goal

pub returns-in_default : goal.returns-in_default
returns-in_default c = nothing_ends c.args.rest.now c.in_default.ensures.cases

pub returns-then-byte-lt128 : goal.returns-then-byte-lt128
returns-then-byte-lt128 c =
    ends_if c.args.rest.now c.in-Some.field-0-1.now c.in-Some.byte.now c.in-Some.ensures.cases.0 c.if-byte-lt128.true c.is_mantissa.result c.is_mantissa.ensures
