use Rattle.std.proofs.Common.{length}
use Rattle.qs_lexer.proofs.ShortHexadecimals.{IsReadTo}
use Rattle.qs_lexer.proofs.digits.short_hexadecimal.Given as goal

abbrev pub invariant-loop-byte : goal.invariant-loop-byte
invariant-loop-byte l = IsReadTo l.fn.bytes l.value l.rest

abbrev pub decreases-loop-byte : goal.decreases-loop-byte
decreases-loop-byte l = length l.rest
