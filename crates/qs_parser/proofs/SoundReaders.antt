-- What is to be shown of the readers at a depth.
use Rattle.std.proofs.Common.{◌≡◌, ℕ, suc, ◌+◌, ◌≤◌, true, List, [], ◌∷◌, map, Option}
use Rattle.qs_values.specs.declared.span.Span.{Span}
use Rattle.qs_lexer.specs.declared.token.Token.{Token}
use Rattle.qs_tree.specs.declared.expr.Expr.{Expr}
use Rattle.qs_tree.specs.declared.statement.Stmt.{Stmt}
use Rattle.qs_tree.specs.declared.statement.StmtKind.{StmtKind}
use Rattle.qs_tree.specs.Spelling.{in_braces, spell, spell_stmt, spell_stmt_kind}
use Rattle.qs_tree.specs.WellFormed.{block, may_nest, nested, of_expr, of_stmt, of_stmt_kind, unary_level}
use Rattle.qs_parser.specs.steps.Tokens.{Readers}
use Rattle.qs_parser.proofs.SoundParts.{Holds, Read}

-- tokens begin at this place
abbrev pub BeginsAt : Span → List Token → Type 0
BeginsAt place [] = ⊥
BeginsAt place (t ∷ ts) = t.span ≡ place

-- an expression that was read inside another one, and how tightly it binds: so many levels below an operator before its operand at most
pub record ReadExpr (levels d left : ℕ) (ts : List Token) (y : Expr × ℕ × List Token) : Type 0 where
  pub read : Read (spell y.0) (of_expr y.0) d 0 left ts y.1 y.2
  pub binds : unary_level ≤ (of_expr y.0).level + levels
  pub begins : BeginsAt y.0.span ts

-- what a statement is, which may stand in another one
pub record ReadStmtKind (d renew left : ℕ) (ts : List Token) (y : StmtKind × ℕ × List Token) : Type 0 where
  pub read : Read (spell_stmt_kind y.0) (of_stmt_kind y.0) d renew left ts y.1 y.2
  pub nests : may_nest (of_stmt_kind y.0).standing ≡ true

-- a statement that may stand in another one
pub record ReadStmt (d renew left : ℕ) (ts : List Token) (y : Stmt × ℕ × List Token) : Type 0 where
  pub read : Read (spell_stmt y.0) (of_stmt y.0) d renew left ts y.1 y.2
  pub nests : may_nest (of_stmt y.0).standing ≡ true

-- the readers where d more constructs may be open
pub record IsSound (d : ℕ) (b : Readers) : Type 0 where
  pub expr : (left : ℕ) (ts : List Token) → Holds (b.expr left ts) (ReadExpr 10 d left ts)
  pub unary : (left : ℕ) (ts : List Token) → Holds (b.unary left ts) (ReadExpr 0 d left ts)
  pub stmt : (renew left : ℕ) (ts : List Token) → Holds (b.stmt renew left ts) (ReadStmt d renew left ts)
  pub nested : (renew left : ℕ) (ts : List Token) → Holds (b.nested renew left ts) (λ y. Read (spell_stmt y.0) (nested (of_stmt y.0)) d renew left ts y.1 y.2)
  pub block : (renew left : ℕ) (ts : List Token) → Holds (b.block renew left ts) (λ y. Read (in_braces (map spell_stmt y.0)) (block (map of_stmt y.0)) d renew left ts y.1 y.2)

-- readers with room for one construct more
pub record OneDeeper (d : ℕ) (b : Readers) : Type 0 where
  pub e : ℕ
  pub room : suc e ≤ d
  pub sound : IsSound e b

-- the readers one construct deeper than d, where there are any
abbrev pub IsSoundBelow : (d : ℕ) → Option Readers → Type 0
IsSoundBelow d below = Holds below (OneDeeper d)
