use Rattle.qs_lexer.proofs.Singles.{blank_piece}
use Rattle.qs_lexer.proofs.ascii.line_feed.Goals as goal

pub returns-then-is_line_feed : goal.returns-then-is_line_feed
returns-then-is_line_feed c = λ first. blank_piece first c.args.bytes.now c.in_ok-c.c c.in_ok-c.ensures c.if-is_line_feed.ensures
