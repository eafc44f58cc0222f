use Rattle.std.proofs.Common.{length, sym}
use Rattle.qs_lexer.proofs.ShortMantissas.{digit_goes_on, reads_kept, reads_more, reads_none, small_before}
use Rattle.qs_lexer.proofs.mantissa.read_side.Goals as goal

pub loop-byte-init : goal.loop-byte-init
loop-byte-init c = reads_none c.args.pointed c.args.bytes.now c.args.before c.args.count c.requires.few c.requires.small

pub short_with_digit-value-requires : goal.short_with_digit-value-requires
short_with_digit-value-requires c = small_before c.loop-byte.value (length c.loop-byte.rest.now) c.loop-byte.invariant.small

pub loop-byte-preserved : goal.loop-byte-preserved
loop-byte-preserved c =
    let at = c.loop-byte in
    reads_kept c.args.pointed c.args.bytes.now c.args.before c.args.count at.value at.places at.rest.now c.in-Some.after.now c.in-Some.byte.now at.invariant c.in-Some.ensures.cases.0 c.if-not-goes_on.ensures (sym c.if-is_ascii_digit.ensures.value)

pub loop-byte-preserved-then-is_ascii_digit : goal.loop-byte-preserved-then-is_ascii_digit
loop-byte-preserved-then-is_ascii_digit c =
    let at = c.loop-byte in
    rw (c.short_with_digit-value.ensures, c.places_with-places.ensures)
    (reads_more c.args.pointed c.args.bytes.now c.args.before c.args.count at.value at.places at.rest.now c.in-Some.after.now c.in-Some.byte.now at.invariant c.in-Some.ensures.cases.0 (digit_goes_on c.args.pointed c.in-Some.byte.now (sym c.if-is_ascii_digit.ensures.value)))
