-- A tree with others put in for names: at a name that stands as an expression, before an index and at a place, in the statements of a `durationof` too. All else stays, spans too. This project's own.
use Rattle.std.specs.Prelude.{ℕ, List, Option, unwrap_or}
use Rattle.qs_tree.specs.declared.expr.ExprKind.{ExprKind, out-ExprKind, roll-ExprKind}
use Rattle.qs_tree.specs.declared.expr.ExprKind.TheVariants.{Name, Index}
use Rattle.qs_tree.specs.declared.expr.Expr.{Expr, Expr-F}
use Rattle.qs_tree.specs.declared.expr.TypeExpr.{TypeExpr, roll-TypeExpr}
use Rattle.qs_tree.specs.declared.gate.Call.{Call, roll-Call}
use Rattle.qs_tree.specs.declared.gate.Modifier.{Modifier, roll-Modifier}
use Rattle.qs_tree.specs.declared.operand.Operand.{Operand, roll-Operand}
use Rattle.qs_tree.specs.declared.operand.Place.{Place, Place-F, roll-Place}
use Rattle.qs_tree.specs.declared.operand.Value.{Value, roll-Value}
use Rattle.qs_tree.specs.declared.pulse.Item.{Item, roll-Item}
use Rattle.qs_tree.specs.declared.pulse.Param.{Param, roll-Param}
use Rattle.qs_tree.specs.declared.statement.Body.{Body, roll-Body}
use Rattle.qs_tree.specs.declared.statement.Range.{Range, roll-Range}
use Rattle.qs_tree.specs.declared.statement.Stmt.{Stmt, Stmt-F}
use Rattle.qs_tree.specs.declared.statement.StmtKind.{StmtKind, roll-StmtKind}
use Rattle.qs_tree.specs.declared.expr.ExprKind.TheOpen.{ExprKind-F}
use Rattle.qs_tree.specs.declared.expr.ExprKind.TheOpen as layer
use Rattle.qs_tree.specs.declared.expr.ExprKind.TheFolds.{fold-ExprKind, fold-Modifier, fold-Operand, fold-Value, fold-Item, fold-Param, fold-Body, fold-Range, fold-StmtKind, fold-Expr, fold-TypeExpr, fold-Call, fold-Place, fold-Stmt}

-- what is put in for a name: nothing where the name stays
abbrev pub PutIn : Type 0
PutIn = List ℕ → Option ExprKind

-- one layer of a tree, with its parts as they are after it
abbrev pub Layer : (Type 0 → Type 0 → Type 0 → Type 0 → Type 0 → Type 0 → Type 0 → Type 0 → Type 0 → Type 0 → Type 0 → Type 0 → Type 0 → Type 0 → Type 0) → Type 0
Layer F = F ExprKind Modifier Operand Value Item Param Body Range StmtKind Expr TypeExpr Call Place Stmt

-- what stands at a name
abbrev pub at_name : PutIn → List ℕ → ExprKind
at_name put name = unwrap_or (put name) (Name name)

-- the name that an expression is, and else a given one
abbrev pub layer_name_or : List ℕ → Layer ExprKind-F → List ℕ
layer_name_or name (layer.Name other) = other
layer_name_or name part = name

abbrev pub name_or : List ℕ → ExprKind → List ℕ
name_or name kind = layer_name_or name (out-ExprKind kind)

-- the name that stands before an index and at a place: another one where a name is put in, and else the same
abbrev pub renamed : PutIn → List ℕ → List ℕ
renamed put name = name_or name (at_name put name)

-- what an expression is
abbrev pub kind_step : PutIn → Layer ExprKind-F → ExprKind
kind_step put (layer.Name name) = at_name put name
kind_step put (layer.Index name index) = Index (renamed put name) index
kind_step put part = roll-ExprKind part

-- an expression, at its own place
abbrev pub expr_step : Layer Expr-F → Expr
expr_step part = record { span = part.span; kind = part.kind }

-- a place
abbrev pub place_step : PutIn → Layer Place-F → Place
place_step put part = roll-Place (record { name = record part.name { name = renamed put part.name.name }; index = part.index })

-- a statement, at its own place
abbrev pub stmt_step : Layer Stmt-F → Stmt
stmt_step part = record { span = part.span; kind = part.kind }

-- what an expression is
abbrev pub kind_substituted : PutIn → ExprKind → ExprKind
kind_substituted put = fold-ExprKind ExprKind Modifier Operand Value Item Param Body Range StmtKind Expr TypeExpr Call Place Stmt (kind_step put) roll-Modifier roll-Operand roll-Value roll-Item roll-Param roll-Body roll-Range roll-StmtKind expr_step roll-TypeExpr roll-Call (place_step put) stmt_step

-- a modifier
abbrev pub modifier_substituted : PutIn → Modifier → Modifier
modifier_substituted put = fold-Modifier ExprKind Modifier Operand Value Item Param Body Range StmtKind Expr TypeExpr Call Place Stmt (kind_step put) roll-Modifier roll-Operand roll-Value roll-Item roll-Param roll-Body roll-Range roll-StmtKind expr_step roll-TypeExpr roll-Call (place_step put) stmt_step

-- an operand
abbrev pub operand_substituted : PutIn → Operand → Operand
operand_substituted put = fold-Operand ExprKind Modifier Operand Value Item Param Body Range StmtKind Expr TypeExpr Call Place Stmt (kind_step put) roll-Modifier roll-Operand roll-Value roll-Item roll-Param roll-Body roll-Range roll-StmtKind expr_step roll-TypeExpr roll-Call (place_step put) stmt_step

-- what is assigned
abbrev pub value_substituted : PutIn → Value → Value
value_substituted put = fold-Value ExprKind Modifier Operand Value Item Param Body Range StmtKind Expr TypeExpr Call Place Stmt (kind_step put) roll-Modifier roll-Operand roll-Value roll-Item roll-Param roll-Body roll-Range roll-StmtKind expr_step roll-TypeExpr roll-Call (place_step put) stmt_step

-- an item of a calibration
abbrev pub item_substituted : PutIn → Item → Item
item_substituted put = fold-Item ExprKind Modifier Operand Value Item Param Body Range StmtKind Expr TypeExpr Call Place Stmt (kind_step put) roll-Modifier roll-Operand roll-Value roll-Item roll-Param roll-Body roll-Range roll-StmtKind expr_step roll-TypeExpr roll-Call (place_step put) stmt_step

-- a parameter of a calibration
abbrev pub param_substituted : PutIn → Param → Param
param_substituted put = fold-Param ExprKind Modifier Operand Value Item Param Body Range StmtKind Expr TypeExpr Call Place Stmt (kind_step put) roll-Modifier roll-Operand roll-Value roll-Item roll-Param roll-Body roll-Range roll-StmtKind expr_step roll-TypeExpr roll-Call (place_step put) stmt_step

-- a body
abbrev pub body_substituted : PutIn → Body → Body
body_substituted put = fold-Body ExprKind Modifier Operand Value Item Param Body Range StmtKind Expr TypeExpr Call Place Stmt (kind_step put) roll-Modifier roll-Operand roll-Value roll-Item roll-Param roll-Body roll-Range roll-StmtKind expr_step roll-TypeExpr roll-Call (place_step put) stmt_step

-- the values of a `for`
abbrev pub range_substituted : PutIn → Range → Range
range_substituted put = fold-Range ExprKind Modifier Operand Value Item Param Body Range StmtKind Expr TypeExpr Call Place Stmt (kind_step put) roll-Modifier roll-Operand roll-Value roll-Item roll-Param roll-Body roll-Range roll-StmtKind expr_step roll-TypeExpr roll-Call (place_step put) stmt_step

-- what a statement is
abbrev pub stmt_kind_substituted : PutIn → StmtKind → StmtKind
stmt_kind_substituted put = fold-StmtKind ExprKind Modifier Operand Value Item Param Body Range StmtKind Expr TypeExpr Call Place Stmt (kind_step put) roll-Modifier roll-Operand roll-Value roll-Item roll-Param roll-Body roll-Range roll-StmtKind expr_step roll-TypeExpr roll-Call (place_step put) stmt_step

-- an expression
abbrev pub substituted : PutIn → Expr → Expr
substituted put = fold-Expr ExprKind Modifier Operand Value Item Param Body Range StmtKind Expr TypeExpr Call Place Stmt (kind_step put) roll-Modifier roll-Operand roll-Value roll-Item roll-Param roll-Body roll-Range roll-StmtKind expr_step roll-TypeExpr roll-Call (place_step put) stmt_step

-- a type
abbrev pub type_substituted : PutIn → TypeExpr → TypeExpr
type_substituted put = fold-TypeExpr ExprKind Modifier Operand Value Item Param Body Range StmtKind Expr TypeExpr Call Place Stmt (kind_step put) roll-Modifier roll-Operand roll-Value roll-Item roll-Param roll-Body roll-Range roll-StmtKind expr_step roll-TypeExpr roll-Call (place_step put) stmt_step

-- a call of a gate
abbrev pub call_substituted : PutIn → Call → Call
call_substituted put = fold-Call ExprKind Modifier Operand Value Item Param Body Range StmtKind Expr TypeExpr Call Place Stmt (kind_step put) roll-Modifier roll-Operand roll-Value roll-Item roll-Param roll-Body roll-Range roll-StmtKind expr_step roll-TypeExpr roll-Call (place_step put) stmt_step

-- a place
abbrev pub place_substituted : PutIn → Place → Place
place_substituted put = fold-Place ExprKind Modifier Operand Value Item Param Body Range StmtKind Expr TypeExpr Call Place Stmt (kind_step put) roll-Modifier roll-Operand roll-Value roll-Item roll-Param roll-Body roll-Range roll-StmtKind expr_step roll-TypeExpr roll-Call (place_step put) stmt_step

-- a statement
abbrev pub stmt_substituted : PutIn → Stmt → Stmt
stmt_substituted put = fold-Stmt ExprKind Modifier Operand Value Item Param Body Range StmtKind Expr TypeExpr Call Place Stmt (kind_step put) roll-Modifier roll-Operand roll-Value roll-Item roll-Param roll-Body roll-Range roll-StmtKind expr_step roll-TypeExpr roll-Call (place_step put) stmt_step
