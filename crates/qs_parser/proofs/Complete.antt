-- What is to be shown of the readers at a depth: a tree that follows the grammar and is spelled at the front is what they read.
use Rattle.std.proofs.Common.{◌≡◌, ℕ, zero, suc, ◌+◌, ◌≤◌, true, false, codes, List, ◌++◌, length, map, Option, Some, None}
use Rattle.qs_lexer.specs.declared.token.Token.{Token}
use Rattle.qs_tree.specs.declared.expr.Expr.{Expr}
use Rattle.qs_tree.specs.declared.statement.Stmt.{Stmt}
use Rattle.qs_tree.specs.Spelling.{Spells, in_braces, spell, spell_stmt}
use Rattle.qs_tree.specs.WellFormed.{Features, block as block_of, may_nest, nested as nested_of, of_expr, of_stmt, unary_level}
use Rattle.qs_parser.specs.steps.Tokens.{Readers, Reads, begins_sign, begins_word}
use Rattle.qs_parser.specs.steps.Expressions.{bin_op_at}
use Rattle.qs_parser.proofs.Spent.{Spent}

-- ---- what may stand after an expression

-- The tokens after an expression go on with it by no bracket, no power and no operator of so many levels, counted from the tightest. All ten are those after a whole expression, and none those after an operand.
pub record Closes (levels : ℕ) (rest : List Token) : Type 0 where
  pub square : begins_sign (codes "[") rest ≡ false
  pub round : begins_sign (codes "(") rest ≡ false
  pub power : begins_sign (codes "**") rest ≡ false
  pub operators : (k : ℕ) → suc k ≤ levels → bin_op_at k rest ≡ None

abbrev pub ClosesExpr : List Token → Type 0
ClosesExpr rest = Closes 10 rest

abbrev pub ClosesUnary : List Token → Type 0
ClosesUnary rest = Closes 0 rest

-- after a statement that lacks an `else` no `else` stands
abbrev pub ClosesStmt : Features → List Token → Type 0
ClosesStmt f rest = f.lacks_else ≡ true → begins_word (codes "else") rest ≡ false

-- ---- what is read

-- parts that follow the grammar, no deeper than may be, with as many operators as are taken off
pub record Fits (f : Features) (d renew left after : ℕ) : Type 0 where
  pub follows : f.follows ≡ true
  pub depth : f.depth ≤ d
  pub spent : Spent renew left after f.operators f.most_operators

-- something is read, and leaves no more than these tokens
pub record ReadsUpTo {A : Type 0} (read : Reads A) (rest : List Token) : Type 0 where
  pub what : A
  pub after : ℕ
  pub remains : List Token
  pub is : read ≡ Some (what, after, remains)
  pub within : length remains ≤ length rest

-- the readers where d more constructs may be open
pub record IsComplete (d : ℕ) (b : Readers) : Type 0 where
  pub expr : (e : Expr) (left after : ℕ) (front rest : List Token) → (of_expr e).follows ≡ true → (of_expr e).depth ≤ d → left ≡ after + (of_expr e).operators → Spells (spell e) front → ClosesExpr rest → b.expr left (front ++ rest) ≡ Some (e, after, rest)
  pub unary : (e : Expr) (left after : ℕ) (front rest : List Token) → (of_expr e).follows ≡ true → (of_expr e).depth ≤ d → left ≡ after + (of_expr e).operators → unary_level ≤ (of_expr e).level → Spells (spell e) front → ClosesUnary rest → b.unary left (front ++ rest) ≡ Some (e, after, rest)
  pub stmt : (s : Stmt) (renew left after : ℕ) (front rest : List Token) → Fits (of_stmt s) d renew left after → may_nest (of_stmt s).standing ≡ true → Spells (spell_stmt s) front → ClosesStmt (of_stmt s) rest → b.stmt renew left (front ++ rest) ≡ Some (s, after, rest)
  pub stmt_weak : (s : Stmt) (renew left after : ℕ) (front rest : List Token) → Fits (of_stmt s) d renew left after → may_nest (of_stmt s).standing ≡ true → Spells (spell_stmt s) front → (of_stmt s).lacks_else ≡ true → begins_word (codes "else") rest ≡ true → ReadsUpTo (b.stmt renew left (front ++ rest)) rest
  pub nested : (s : Stmt) (renew left after : ℕ) (front rest : List Token) → Fits (nested_of (of_stmt s)) d renew left after → Spells (spell_stmt s) front → ClosesStmt (of_stmt s) rest → b.nested renew left (front ++ rest) ≡ Some (s, after, rest)
  pub nested_weak : (s : Stmt) (renew left after : ℕ) (front rest : List Token) → Fits (nested_of (of_stmt s)) d renew left after → Spells (spell_stmt s) front → (of_stmt s).lacks_else ≡ true → begins_word (codes "else") rest ≡ true → ReadsUpTo (b.nested renew left (front ++ rest)) rest
  pub block : (ss : List Stmt) (renew left after : ℕ) (front rest : List Token) → Fits (block_of (map of_stmt ss)) d renew left after → Spells (in_braces (map spell_stmt ss)) front → b.block renew left (front ++ rest) ≡ Some (ss, after, rest)

-- the readers one construct deeper than d, where d leaves room for one
abbrev pub IsCompleteBelow : (d : ℕ) → Option Readers → Type 0
IsCompleteBelow zero below = Unit {0}
IsCompleteBelow (suc d) None = ⊥
IsCompleteBelow (suc d) (Some b) = IsComplete d b
