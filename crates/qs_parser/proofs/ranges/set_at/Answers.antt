use Rattle.std.proofs.Common.{drop, refl, rules}
use Rattle.qs_parser.specs.steps.Asking.{deeper_whole}
use Rattle.qs_parser.specs.steps.Knot.{below}
use Rattle.qs_parser.proofs.Deeper.{set_as}
use Rattle.qs_parser.proofs.ranges.set_at.Goals as goal

pub returns : goal.returns
returns g c =
    rw (set_as (below c.args.deeper.now.depth) c.args.span c.args.renew c.args.left (drop c.args.at c.args.deeper.now.tokens.now), c.in_ok-item.ensures (deeper_whole (below c.args.deeper.now.depth) c.args.renew) (λ l a r p. search rules), c.in_ok-at.ensures) refl
