use Rattle.std.proofs.Common.{length, false, ◌-◌, arith, subst}
use Rattle.std.proofs.Math.Nat.{one-le-pow}
use Rattle.qs_lexer.specs.steps.Mantissas.{ReadsUpTo}
use Rattle.qs_lexer.proofs.PieceLemmas.{cut_requires}
use Rattle.qs_lexer.proofs.ShortMantissas.{behind_length, mantissa_read, read_behind}
use Rattle.qs_lexer.proofs.mantissa.short_mantissa.Goals as goal

pub read_side-whole-requires-clause-small : goal.read_side-whole-requires-clause-small
read_side-whole-requires-clause-small c = omega (arith, one-le-pow (18 - length c.as_bytes.result.now) 10 (omega arith))

pub overflow_sub-text : goal.overflow_sub-text
overflow_sub-text c =
    let whole = c.read_side-whole.result in
    let read = c.read_part-value.result in
    let front = subst (λ t. ReadsUpTo false false t 0 0 whole.0 whole.1 whole.2.now) c.as_bytes.ensures.value c.read_side-whole.ensures in
    behind_length c.args.text.now read.2.now (read_behind c.args.text.now whole.2.now read.2.now whole.0 whole.1 read.0 read.1 c.read_part-value.ensures.0 c.utf8.text front c.read_part-value.ensures.1)

pub split_at-requires : goal.split_at-requires
split_at-requires c =
    let whole = c.read_side-whole.result in
    let read = c.read_part-value.result in
    let front = subst (λ t. ReadsUpTo false false t 0 0 whole.0 whole.1 whole.2.now) c.as_bytes.ensures.value c.read_side-whole.ensures in
    cut_requires c.args.text.now read.2.now (read_behind c.args.text.now whole.2.now read.2.now whole.0 whole.1 read.0 read.1 c.read_part-value.ensures.0 c.utf8.text front c.read_part-value.ensures.1)

pub returns : goal.returns
returns c =
    let whole = c.read_side-whole.result in
    let read = c.read_part-value.result in
    let front = subst (λ t. ReadsUpTo false false t 0 0 whole.0 whole.1 whole.2.now) c.as_bytes.ensures.value c.read_side-whole.ensures in
    mantissa_read c.args.text.now whole.2.now read.2.now c.split_at.result.1.now whole.0 whole.1 read.0 read.1 c.read_part-value.ensures.0 c.utf8.text front c.read_part-value.ensures.1 c.if-not-ends_mantissa.ensures c.split_at.ensures.back
