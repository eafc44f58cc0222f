use Rattle.std.proofs.Common.{drop, sym}
use Rattle.qs_parser.specs.steps.Asking.{deeper_block}
use Rattle.qs_parser.specs.steps.Knot.{below}
use Rattle.qs_parser.proofs.Deeper.{block_asked}
use Rattle.qs_parser.proofs.below.Below.block.Goals as goal

pub returns : goal.returns
returns g c = c.as_stmts.ensures c.args.self.now.tokens.now (deeper_block (below c.args.self.now.depth) c.args.renew c.args.left (drop c.args.at c.args.self.now.tokens.now)) (rw (sym (block_asked (below c.args.self.now.depth) c.args.renew c.args.left c.args.at c.args.self.now.tokens.now)) c.answer.ensures)
