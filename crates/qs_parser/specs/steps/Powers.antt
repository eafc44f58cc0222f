-- Powers to the right of each other: how the right operand of one is read.
use Rattle.std.specs.Prelude.{ℕ, zero, suc, List, Option, Some, None}
use Rattle.qs_lexer.specs.declared.token.Token.{Token}
use Rattle.qs_tree.specs.declared.expr.Expr.{Expr}
use Rattle.qs_parser.specs.steps.Tokens.{Readers, Reads}
use Rattle.qs_parser.specs.steps.Expressions.{unary}

-- the reader of a power's right operand, with so many powers at most: none where there may be no more
abbrev pub right_of : ℕ → Option Readers → Option ((left : ℕ) → List Token → Reads Expr)
right_of zero below = None
right_of (suc n) below = Some (unary n below)
