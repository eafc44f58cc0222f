use Rattle.qs_lexer.proofs.ShortHexadecimals.{read_all, read_more, read_none, small_before}
use Rattle.qs_lexer.proofs.digits.short_hexadecimal.Goals as goal

pub loop-byte-init : goal.loop-byte-init
loop-byte-init c = read_none c.args.bytes.now c.requires

pub and_hexadecimal-requires : goal.and_hexadecimal-requires
and_hexadecimal-requires c = small_before c.args.bytes.now c.loop-byte.rest.now c.loop-byte.value c.loop-byte.invariant

pub loop-byte-preserved : goal.loop-byte-preserved
loop-byte-preserved c =
    read_more c.args.bytes.now c.loop-byte.rest.now c.in-Some.after.now c.loop-byte.value c.in-Some-and_hexadecimal.more c.in-Some.byte.now c.loop-byte.invariant c.in-Some.ensures.cases.0 c.in-Some-and_hexadecimal.ensures

pub returns : goal.returns
returns c = read_all c.args.bytes.now c.loop-byte.rest.now c.loop-byte.value c.loop-byte.invariant c.in_default.ensures.cases
