use Rattle.std.proofs.Common.{sym}
use Rattle.qs_lexer.proofs.Singles.{sign_piece}
use Rattle.qs_lexer.proofs.ascii.single_sign.Goals as goal

pub returns-then-is_single_sign : goal.returns-then-is_single_sign
returns-then-is_single_sign c = λ first. sign_piece first c.args.bytes.now c.in_ok-c.c c.in_ok-c.ensures (sym c.if-is_single_sign.ensures)
