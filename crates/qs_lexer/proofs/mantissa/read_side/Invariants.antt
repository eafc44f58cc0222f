use Rattle.std.proofs.Common.{length}
use Rattle.qs_lexer.specs.steps.Mantissas.{ReadsSide}
use Rattle.qs_lexer.proofs.mantissa.read_side.Given as goal

abbrev pub invariant-loop-byte : goal.invariant-loop-byte
invariant-loop-byte l = ReadsSide l.pointed l.fn.bytes l.before l.count l.value l.places l.rest

abbrev pub decreases-loop-byte : goal.decreases-loop-byte
decreases-loop-byte l = length l.rest
