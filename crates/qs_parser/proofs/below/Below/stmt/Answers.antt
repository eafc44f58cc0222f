use Rattle.std.proofs.Common.{drop, sym}
use Rattle.qs_parser.specs.steps.Asking.{deeper_stmt}
use Rattle.qs_parser.specs.steps.Knot.{below}
use Rattle.qs_parser.proofs.Deeper.{stmt_asked}
use Rattle.qs_parser.proofs.below.Below.stmt.Goals as goal

pub returns : goal.returns
returns g c = c.as_stmt.ensures c.args.self.now.tokens.now (deeper_stmt (below c.args.self.now.depth) c.args.renew c.args.left (drop c.args.at c.args.self.now.tokens.now)) (rw (sym (stmt_asked (below c.args.self.now.depth) c.args.renew c.args.left c.args.at c.args.self.now.tokens.now)) c.answer.ensures)
