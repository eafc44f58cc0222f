use Rattle.std.proofs.Common.{drop, sym}
use Rattle.qs_parser.specs.steps.Asking.{deeper_unary}
use Rattle.qs_parser.specs.steps.Knot.{below}
use Rattle.qs_parser.proofs.Deeper.{unary_asked}
use Rattle.qs_parser.proofs.below.Below.unary.Goals as goal

pub returns : goal.returns
returns g c = c.as_expr.ensures c.args.self.now.tokens.now (deeper_unary (below c.args.self.now.depth) c.args.left (drop c.args.at c.args.self.now.tokens.now)) (rw (sym (unary_asked (below c.args.self.now.depth) c.args.left c.args.at c.args.self.now.tokens.now)) c.answer.ensures)
