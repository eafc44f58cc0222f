use Rattle.std.proofs.Common.{◌≡◌, ◌-◌, drop, length}
use Rattle.qs_parser.specs.steps.Knot.{below}
use Rattle.qs_parser.specs.steps.Statements.{modifiers_at}
use Rattle.qs_parser.proofs.ItemByItem.{prepended}
use Rattle.qs_parser.proofs.calls.modifiers_at.Given as goal

abbrev pub invariant-loop-turn : goal.invariant-loop-turn
invariant-loop-turn g l =
    modifiers_at (length (drop l.fn.at l.deeper.tokens.now)) (below l.deeper.depth) l.renew l.fn.left (drop l.fn.at l.deeper.tokens.now)
    ≡ prepended l.modifiers (modifiers_at (l._turn-end - l._turn) (below l.deeper.depth) l.renew l.left (drop l.at l.deeper.tokens.now))
