-- What is asked of the readers one construct deeper, and what they answer: the account's readers as the code has them.
use Rattle.std.specs.Prelude.{◌≡◌, ℕ, List, Bool, true, false, drop, Option, Some, None, Result}
use Rattle.qs_lexer.specs.declared.token.Token.{Token}
use Rattle.qs_tree.specs.declared.expr.Expr.{Expr}
use Rattle.qs_tree.specs.declared.statement.Stmt.{Stmt}
use Rattle.qs_parser.specs.declared.stop.Stop.{Stop}
use Rattle.qs_parser.specs.declared.below.Read.{Read}
use Rattle.qs_parser.specs.declared.below.Ask.{Ask}
use Rattle.qs_parser.specs.declared.below.Wanted.TheVariants.{Expression, Unary, Statement, Nested, Block}
use Rattle.qs_parser.specs.declared.below.Tree.{Tree}
use Rattle.qs_parser.specs.declared.below.Tree.TheVariants.{Expr as ExprTree, Stmt as StmtTree, Stmts as StmtsTree}
use Rattle.qs_parser.specs.steps.Tokens.{◌>>=◌, Gives, Readers, Reads, renewed}
use Rattle.qs_parser.specs.steps.Knot.{below}

-- the tokens at a place and after it, by the next place
abbrev pub rest_at : List Token → ℕ → List Token
rest_at tokens at = drop at tokens

-- what was read, and the tokens after it
abbrev pub after_it : {T : Type 0} → List Token → T × ℕ → T × List Token
after_it tokens r = (r.0, drop r.1 tokens)

-- what was read, how many operators may still come, and the tokens after it
abbrev pub seen : {T : Type 0} → List Token → Read T → T × ℕ × List Token
seen tokens r = (r.item, r.left, drop r.at tokens)

-- an expression one construct deeper, and so on
abbrev pub deeper_expr : Option Readers → (left : ℕ) → List Token → Reads Expr
deeper_expr below left ts = do
  b ← below
  b.expr left ts

abbrev pub deeper_unary : Option Readers → (left : ℕ) → List Token → Reads Expr
deeper_unary below left ts = do
  b ← below
  b.unary left ts

abbrev pub deeper_stmt : Option Readers → (renew left : ℕ) → List Token → Reads Stmt
deeper_stmt below renew left ts = do
  b ← below
  b.stmt renew left ts

abbrev pub deeper_nested : Option Readers → (renew left : ℕ) → List Token → Reads Stmt
deeper_nested below renew left ts = do
  b ← below
  b.nested renew left ts

abbrev pub deeper_block : Option Readers → (renew left : ℕ) → List Token → Reads (List Stmt)
deeper_block below renew left ts = do
  b ← below
  b.block renew left ts

-- an expression one construct deeper, after which so many operators may come at least
abbrev pub deeper_whole : Option Readers → (renew left : ℕ) → List Token → Reads Expr
deeper_whole below renew left ts = do
  b ← below
  renewed renew (b.expr left ts)

-- what is read as this tree
abbrev pub as_tree : {A : Type 0} → (A → Tree) → Reads A → Reads Tree
as_tree tree None = None
as_tree tree (Some x) = Some (tree x.0, x.1, x.2)

-- what the readers give for what is asked
unfoldable pub asked : Readers → Ask → List Token → Reads Tree
asked b ask tokens = elim ask.wanted [
  | Expression ↦ as_tree ExprTree (b.expr ask.left (drop ask.at tokens))
  | Unary ↦ as_tree ExprTree (b.unary ask.left (drop ask.at tokens))
  | Statement ↦ as_tree StmtTree (b.stmt ask.renew ask.left (drop ask.at tokens))
  | Nested ↦ as_tree StmtTree (b.nested ask.renew ask.left (drop ask.at tokens))
  | Block ↦ as_tree StmtsTree (b.block ask.renew ask.left (drop ask.at tokens))
]

-- the same, by the readers one construct deeper
abbrev pub answered : Option Readers → Ask → List Token → Reads Tree
answered below ask tokens = do
  b ← below
  asked b ask tokens

-- Answers are what the readers so deep give.
abbrev pub IsExact : (Ask → Result (Read Tree) Stop → Type 0) → ℕ → List Token → Type 0
IsExact answers depth tokens =
    (b : Readers) → below depth ≡ Some b → (ask : Ask) (r : Result (Read Tree) Stop) → answers ask r → Gives (seen tokens) r (asked b ask tokens)

-- Answers are what this reader of one item gives.
abbrev pub ReadsAs : {T : Type 0} → (ℕ → ℕ → Result (Read T) Stop → Type 0) → List Token → (ℕ → List Token → Reads T) → Type 0
ReadsAs answers tokens item = (left at : ℕ) (r : Result (Read _) Stop) → answers left at r → Gives (seen tokens) r (item left (drop at tokens))

-- what a reader answered that was chosen by a word, where one was chosen
abbrev pub GivesIf : {X Y : Type 0} → (X → Y) → Option (Result X Stop) → Option (Option Y) → Type 0
GivesIf view None chosen = chosen ≡ None
GivesIf view (Some r) None = ⊥
GivesIf view (Some r) (Some read) = Gives view r read

-- whether something is read
abbrev pub is_read : {A : Type 0} → Option A → Bool
is_read None = false
is_read (Some x) = true
