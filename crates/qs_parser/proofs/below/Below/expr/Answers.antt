use Rattle.std.proofs.Common.{drop, sym}
use Rattle.qs_parser.specs.steps.Asking.{deeper_expr}
use Rattle.qs_parser.specs.steps.Knot.{below}
use Rattle.qs_parser.proofs.Deeper.{expr_asked}
use Rattle.qs_parser.proofs.below.Below.expr.Goals as goal

pub returns : goal.returns
returns g c = c.as_expr.ensures c.args.self.now.tokens.now (deeper_expr (below c.args.self.now.depth) c.args.left (drop c.args.at c.args.self.now.tokens.now)) (rw (sym (expr_asked (below c.args.self.now.depth) c.args.left c.args.at c.args.self.now.tokens.now)) c.answer.ensures)
