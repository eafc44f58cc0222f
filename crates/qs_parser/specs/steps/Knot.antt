-- What is read at a depth, by what is read one construct deeper.
use Rattle.std.specs.Prelude.{ℕ, zero, suc, Option, Some, None}
use Rattle.qs_parser.specs.steps.Tokens.{Readers}
use Rattle.qs_parser.specs.steps.Expressions.{expr_at, unary}
use Rattle.qs_parser.specs.steps.Statements.{block_at, nested_at, stmt_at}

-- the readers at a depth
unfoldable pub readers : Option Readers → Readers
readers below = record {
  expr = expr_at below;
  unary = λ left. unary left below left;
  stmt = stmt_at below;
  nested = nested_at below;
  block = block_at below;
}

-- the readers one construct deeper than a depth of so many more: none where there are no more
unfoldable pub below : ℕ → Option Readers
below zero = None
below (suc d) = Some (readers (below d))
