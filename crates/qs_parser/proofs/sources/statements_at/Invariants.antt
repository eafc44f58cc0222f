use Rattle.std.proofs.Common.{◌≡◌, ◌-◌, drop, length}
use Rattle.qs_parser.specs.steps.Sources.{statements_at}
use Rattle.qs_parser.proofs.StatementByStatement.{before}
use Rattle.qs_parser.proofs.sources.statements_at.Given as goal

abbrev pub invariant-loop-turn : goal.invariant-loop-turn
invariant-loop-turn l = statements_at (length l.tokens) (drop l.fn.at l.tokens) ≡ before l.body (statements_at (l._turn-end - l._turn) (drop l.at l.tokens))
