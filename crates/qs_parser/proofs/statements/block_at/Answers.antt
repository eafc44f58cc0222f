use Rattle.std.proofs.Common.{drop, rules}
use Rattle.qs_parser.specs.steps.Asking.{deeper_nested}
use Rattle.qs_parser.specs.steps.Knot.{below}
use Rattle.qs_parser.proofs.Deeper.{block_as, block_none}
use Rattle.qs_parser.proofs.statements.block_at.Goals as goal

pub returns-then-deeper-eq0 : goal.returns-then-deeper-eq0
returns-then-deeper-eq0 g c = block_none c.args.deeper.now.depth c.args.renew c.args.left (drop c.args.at c.args.deeper.now.tokens.now) c.if-deeper-eq0.true

pub returns : goal.returns
returns g c =
    rw (block_as c.args.deeper.now.depth c.args.renew c.args.left (drop c.args.at c.args.deeper.now.tokens.now) (drop c.in_ok-at.at c.args.deeper.now.tokens.now) c.if-deeper-eq0.false c.in_ok-at.ensures)
    (c.up_to_brace.ensures (deeper_nested (below c.args.deeper.now.depth) c.args.renew) (λ l a r p. search rules))
