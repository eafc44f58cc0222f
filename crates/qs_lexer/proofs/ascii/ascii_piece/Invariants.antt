use Rattle.std.proofs.Common.{length}
use Rattle.qs_lexer.specs.steps.Runs.{IsRead}
use Rattle.qs_lexer.proofs.ascii.ascii_piece.Given as goal

abbrev pub invariant-bytes : goal.invariant-bytes
invariant-bytes l = IsRead l.first l.fn.bytes l.state l.in_line l.rest

abbrev pub decreases-bytes : goal.decreases-bytes
decreases-bytes l = length l.rest
