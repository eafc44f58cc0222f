use Rattle.std.proofs.Common.{◌≡◌, ◌+◌, ◌-◌, ◌*◌, Some, drop, length}
use Rattle.qs_parser.specs.steps.Knot.{below}
use Rattle.qs_parser.specs.steps.Expressions.{binary, chained}
use Rattle.qs_parser.specs.steps.Strengths.{strength_at}
use Rattle.qs_parser.proofs.levels.+levels.Given as goal

abbrev pub decreases-binary : goal.decreases-binary
decreases-binary g l = 2 * l.levels

abbrev pub decreases-chained : goal.decreases-chained
decreases-chained g l = 2 * l.level + 1

abbrev pub invariant-chained-loop-turn : goal.invariant-chained-loop-turn
invariant-chained-loop-turn g l =
    chained (length (drop l.fn.at l.deeper.tokens.now)) l.level (binary l.level (below l.deeper.depth)) l.fn.first l.fn.left (drop l.fn.at l.deeper.tokens.now)
    ≡ chained (l._turn-end - l._turn) l.level (binary l.level (below l.deeper.depth)) l.item l.left (drop l.at l.deeper.tokens.now)

abbrev pub invariant-binary-loop-level : goal.invariant-binary-loop-level
invariant-binary-loop-level g l =
    (binary l.level (below l.deeper.depth) l.fn.left (drop l.fn.at l.deeper.tokens.now) ≡ Some (l.item, l.left, drop l.at l.deeper.tokens.now))
    × (l.next ≡ strength_at (drop l.at l.deeper.tokens.now))
