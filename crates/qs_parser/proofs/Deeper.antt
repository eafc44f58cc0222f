-- What is asked one construct deeper, and what accounts do that begin there.
use Rattle.std.proofs.Common.{◌≡◌, ℕ, zero, suc, codes, drop, length, List, Option, Some, None, Result, refl, subst, ◌-◌, arith}
use Rattle.qs_values.specs.declared.span.Span.{Span}
use Rattle.qs_lexer.specs.declared.token.Token.{Token}
use Rattle.qs_tree.specs.declared.expr.Expr.{Expr}
use Rattle.qs_tree.specs.declared.statement.Range.TheVariants.{Set}
use Rattle.qs_parser.specs.declared.stop.Stop.{Stop}
use Rattle.qs_parser.specs.declared.below.Ask.{Ask}
use Rattle.qs_parser.specs.declared.below.Read.{Read}
use Rattle.qs_parser.specs.declared.below.Tree.{Tree}
use Rattle.qs_parser.specs.declared.below.Tree.TheVariants.{Expr as ExprTree, Stmt as StmtTree, Stmts as StmtsTree}
use Rattle.qs_parser.specs.declared.below.Wanted.TheVariants.{Expression, Unary, Statement, Nested, Block}
use Rattle.qs_parser.specs.steps.Tokens.{◌>>=◌, Gives, Readers, after_sign, commas, up_to_brace}
use Rattle.qs_parser.specs.steps.Statements.{block_at, nested_at, set_at, stmt_at}
use Rattle.qs_parser.specs.steps.Expressions.{expr_at, unary}
use Rattle.qs_parser.specs.steps.Asking.{IsExact, answered, as_tree, asked, deeper_block, deeper_expr, deeper_nested, deeper_stmt, deeper_unary, deeper_whole, seen}
use Rattle.qs_parser.specs.steps.Knot.{below, readers}

-- no answer where nothing may stand deeper
pub none_answered : (depth : ℕ) (ask : Ask) (tokens : List Token) → depth ≡ 0 → answered (below depth) ask tokens ≡ None
unfolding below
none_answered zero ask tokens e = refl
none_answered (suc d) ask tokens e = absurd (omega (arith, e))

-- an exact answer is the account's
pub some_answered : (answers : Ask → Result (Read Tree) Stop → Type 0) (depth : ℕ) (tokens : List Token) (ask : Ask) (r : Result (Read Tree) Stop) → IsExact answers depth tokens → ¬ (depth ≡ 0) → answers ask r → Gives (seen tokens) r (answered (below depth) ask tokens)
unfolding below
some_answered answers zero tokens ask r h n p = absurd (n refl)
some_answered answers (suc d) tokens ask r h n p = h (readers (below d)) refl ask r p

-- what is asked for is what is read one construct deeper
pub expr_asked : (b : Option Readers) (left at : ℕ) (tokens : List Token) → answered b (record { wanted = Expression; renew = 0; left = left; at = at }) tokens ≡ as_tree ExprTree (deeper_expr b left (drop at tokens))
unfolding asked
expr_asked None left at tokens = refl
expr_asked (Some b) left at tokens = refl

pub unary_asked : (b : Option Readers) (left at : ℕ) (tokens : List Token) → answered b (record { wanted = Unary; renew = 0; left = left; at = at }) tokens ≡ as_tree ExprTree (deeper_unary b left (drop at tokens))
unfolding asked
unary_asked None left at tokens = refl
unary_asked (Some b) left at tokens = refl

pub stmt_asked : (b : Option Readers) (renew left at : ℕ) (tokens : List Token) → answered b (record { wanted = Statement; renew = renew; left = left; at = at }) tokens ≡ as_tree StmtTree (deeper_stmt b renew left (drop at tokens))
unfolding asked
stmt_asked None renew left at tokens = refl
stmt_asked (Some b) renew left at tokens = refl

pub nested_asked : (b : Option Readers) (renew left at : ℕ) (tokens : List Token) → answered b (record { wanted = Nested; renew = renew; left = left; at = at }) tokens ≡ as_tree StmtTree (deeper_nested b renew left (drop at tokens))
unfolding asked
nested_asked None renew left at tokens = refl
nested_asked (Some b) renew left at tokens = refl

pub block_asked : (b : Option Readers) (renew left at : ℕ) (tokens : List Token) → answered b (record { wanted = Block; renew = renew; left = left; at = at }) tokens ≡ as_tree StmtsTree (deeper_block b renew left (drop at tokens))
unfolding asked
block_asked None renew left at tokens = refl
block_asked (Some b) renew left at tokens = refl

-- statements in braces, where something may stand deeper or not
pub block_none : (depth renew left : ℕ) (ts : List Token) → depth ≡ 0 → block_at (below depth) renew left ts ≡ None
unfolding below block_at
block_none zero renew left ts e = none_after (after_sign (codes "{") ts)
  where
    none_after : (r : Option (List Token)) → (r >>= λ (rest : List Token). None >>= λ (b : Readers). up_to_brace (length rest) (b.nested renew) left rest) ≡ None
    none_after None = refl
    none_after (Some rest) = refl
block_none (suc d) renew left ts e = absurd (omega (arith, e))

pub block_as : (depth renew left : ℕ) (ts rest : List Token) → ¬ (depth ≡ 0) → after_sign (codes "{") ts ≡ Some rest → block_at (below depth) renew left ts ≡ up_to_brace (length rest) (deeper_nested (below depth) renew) left rest
unfolding below block_at
block_as zero renew left ts rest n e = absurd (n refl)
block_as (suc d) renew left ts rest n e = rw e refl

-- the readers at a depth, by what is asked
pub knot_answered : (depth : ℕ) (tokens : List Token) (ask : Ask) (r : Result (Read Tree) Stop) → ¬ (depth ≡ 0) → Gives (seen tokens) r (asked (readers (below (depth - 1))) ask tokens) → Gives (seen tokens) r (answered (below depth) ask tokens)
unfolding below
knot_answered zero tokens ask r n h = absurd (n refl)
knot_answered (suc d) tokens ask r n h = let e : suc d - 1 ≡ d = omega arith in subst (λ m. Gives (seen tokens) r (asked (readers (below m)) ask tokens)) e h

pub asked_expr : (b : Option Readers) (ask : Ask) (tokens : List Token) → ask.wanted ≡ Expression → asked (readers b) ask tokens ≡ as_tree ExprTree (expr_at b ask.left (drop ask.at tokens))
unfolding asked readers
asked_expr b ask tokens e = rw e refl

pub asked_unary : (b : Option Readers) (ask : Ask) (tokens : List Token) → ask.wanted ≡ Unary → asked (readers b) ask tokens ≡ as_tree ExprTree (unary ask.left b ask.left (drop ask.at tokens))
unfolding asked readers
asked_unary b ask tokens e = rw e refl

pub asked_stmt : (b : Option Readers) (ask : Ask) (tokens : List Token) → ask.wanted ≡ Statement → asked (readers b) ask tokens ≡ as_tree StmtTree (stmt_at b ask.renew ask.left (drop ask.at tokens))
unfolding asked readers
asked_stmt b ask tokens e = rw e refl

pub asked_nested : (b : Option Readers) (ask : Ask) (tokens : List Token) → ask.wanted ≡ Nested → asked (readers b) ask tokens ≡ as_tree StmtTree (nested_at b ask.renew ask.left (drop ask.at tokens))
unfolding asked readers
asked_nested b ask tokens e = rw e refl

pub asked_block : (b : Option Readers) (ask : Ask) (tokens : List Token) → ask.wanted ≡ Block → asked (readers b) ask tokens ≡ as_tree StmtsTree (block_at b ask.renew ask.left (drop ask.at tokens))
unfolding asked readers
asked_block b ask tokens e = rw e refl

-- the set that a `for` goes through, where something may stand deeper or not
pub set_as : (b : Option Readers) (span : Span) (renew left : ℕ) (ts : List Token) → set_at b span renew left ts ≡ (commas (deeper_whole b renew) left ts >>= λ (es : List Expr × ℕ × List Token). after_sign (codes "}") es.2 >>= λ (after : List Token). Some (Set span es.0, es.1, after))
unfolding set_at
set_as None span renew left ts = refl
set_as (Some b) span renew left ts = refl
