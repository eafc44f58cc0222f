-- What a constant expression is made of (OpenQASM 3.0, constant expressions). This project's own.
use Rattle.std.specs.Prelude.{ℕ, List, Bool}
use Rattle.qs_values.specs.declared.span.Span.{Span}
use Rattle.qs_values.specs.declared.number.Frac.{Frac}
use Rattle.qs_values.specs.declared.number.Num.{Num}
use Rattle.qs_tree.specs.declared.operator.UnOp.{UnOp}
use Rattle.qs_tree.specs.declared.operator.BinOp.{BinOp}
use Rattle.qs_tree.specs.declared.expr.Expr.{Expr, Expr-F}
use Rattle.qs_tree.specs.declared.expr.ExprKind.{ExprKind}
use Rattle.qs_tree.specs.declared.expr.ExprKind.TheOpen.{ExprKind-F, Whole, Decimal, Time, Text, Truth, Name, Index, Physical, Call, Cast, DurationOf, Group, Number}
use Rattle.qs_tree.specs.declared.expr.ExprKind.TheOpen as layer
use Rattle.qs_tree.specs.declared.expr.ExprKind.TheFolds.{fold-ExprKind}

-- an expression by its parts, each at its first token where it can be refused there; what stands in a call, a cast or a `durationof` doesn't count
pub data Tree : Type 0 where
  Integer : (span : Span) → (value : ℕ) → Tree
  Fraction : (value : Frac) → Tree
  Given : (value : Num) → Tree
  Quoted : (span : Span) → (text : List ℕ) → Tree
  Truthful : (value : Bool) → Tree
  Named : (span : Span) → (name : List ℕ) → Tree
  Indexed : (span : Span) → (name : List ℕ) → (index : Tree) → Tree
  Enclosed : (inner : Tree) → Tree
  Unary : (span : Span) → (op : UnOp) → (operand : Tree) → Tree
  Binary : (span : Span) → (left : Tree) → (op : BinOp) → (right : Tree) → Tree
  Called : (span : Span) → (name : List ℕ) → Tree
  Ruleless : (span : Span) → Tree
  Timed : Tree

-- one layer of a tree, with the trees of the expressions in it in their places: what isn't an expression has none
abbrev pub Layer : (Type 0 → Type 0 → Type 0 → Type 0 → Type 0 → Type 0 → Type 0 → Type 0 → Type 0 → Type 0 → Type 0 → Type 0 → Type 0 → Type 0 → Type 0) → Type 0
Layer F = F (Span → Tree) (Unit {0}) (Unit {0}) (Unit {0}) (Unit {0}) (Unit {0}) (Unit {0}) (Unit {0}) (Unit {0}) Tree (Unit {0}) (Unit {0}) (Unit {0}) (Unit {0})

-- one layer of an expression at a place
abbrev pub kind_step : Layer ExprKind-F → Span → Tree
kind_step (Whole value) span = Integer span value
kind_step (Decimal value) span = Fraction value
kind_step (Time value unit) span = Timed
kind_step (Text text) span = Quoted span text
kind_step (Truth value) span = Truthful value
kind_step (Name name) span = Named span name
kind_step (Index name index) span = Indexed span name index
kind_step (Physical number) span = Ruleless span
kind_step (Call name args) span = Called span name
kind_step (Cast type operand) span = Ruleless span
kind_step (DurationOf body) span = Timed
kind_step (Group inner) span = Enclosed inner
kind_step (layer.Unary op operand) span = Unary span op operand
kind_step (layer.Binary left op right) span = Binary span left op right
kind_step (Number value) span = Given value

-- the tree of an expression is that of what it is, at its place
abbrev pub expr_step : Layer Expr-F → Tree
expr_step e = e.kind e.span

-- what isn't an expression has no tree
abbrev pub no_tree : {L : Type 0} → L → Unit {0}
no_tree layer = tt

-- the tree of what an expression is, at a place
abbrev pub tree_at : ExprKind → Span → Tree
tree_at = fold-ExprKind (Span → Tree) (Unit {0}) (Unit {0}) (Unit {0}) (Unit {0}) (Unit {0}) (Unit {0}) (Unit {0}) (Unit {0}) Tree (Unit {0}) (Unit {0}) (Unit {0}) (Unit {0}) kind_step no_tree no_tree no_tree no_tree no_tree no_tree no_tree no_tree expr_step no_tree no_tree no_tree no_tree

-- the tree of an expression
abbrev pub tree_of : Expr → Tree
tree_of e = tree_at e.kind e.span
