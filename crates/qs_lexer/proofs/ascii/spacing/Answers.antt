use Rattle.qs_lexer.proofs.Singles.{blank_piece}
use Rattle.qs_lexer.proofs.ascii.spacing.Goals as goal

pub returns-then-is_spacing : goal.returns-then-is_spacing
returns-then-is_spacing c = λ first. blank_piece first c.args.bytes.now c.in_ok-c.c c.in_ok-c.ensures c.if-is_spacing.ensures
