-- Whether an expression reads a variable: one of its names, in an index, an argument or a statement of a `durationof` too, is one. This project's own.
use Rattle.std.specs.Prelude.{ℕ, List, Bool, false, ◌||◌, Option, Some, None}
use Rattle.std.specs.List.{list_any}
use Rattle.std.specs.Option.{option_map}
use Rattle.qs_tree.specs.declared.expr.ExprKind.{ExprKind}
use Rattle.qs_tree.specs.declared.gate.Modifier.{Modifier}
use Rattle.qs_tree.specs.declared.operand.Operand.{Operand}
use Rattle.qs_tree.specs.declared.operand.Value.{Value}
use Rattle.qs_tree.specs.declared.pulse.Item.{Item}
use Rattle.qs_tree.specs.declared.pulse.Param.{Param}
use Rattle.qs_tree.specs.declared.statement.Body.{Body}
use Rattle.qs_tree.specs.declared.statement.Range.{Range}
use Rattle.qs_tree.specs.declared.statement.StmtKind.{StmtKind}
use Rattle.qs_tree.specs.declared.expr.Expr.{Expr, Expr-F}
use Rattle.qs_tree.specs.declared.expr.TypeExpr.{TypeExpr, TypeExpr-F}
use Rattle.qs_tree.specs.declared.gate.Call.{Call, Call-F}
use Rattle.qs_tree.specs.declared.operand.Place.{Place, Place-F}
use Rattle.qs_tree.specs.declared.statement.Stmt.{Stmt, Stmt-F}
use Rattle.qs_tree.specs.declared.expr.ExprKind.TheOpen.{ExprKind-F, Modifier-F, Operand-F, Value-F, Item-F, Param-F, Body-F, Range-F, StmtKind-F}
use Rattle.qs_tree.specs.declared.expr.ExprKind.TheOpen as layer
use Rattle.qs_tree.specs.declared.expr.ExprKind.TheFolds.{fold-ExprKind, fold-Modifier, fold-Operand, fold-Value, fold-Item, fold-Param, fold-Body, fold-Range, fold-StmtKind, fold-Expr, fold-TypeExpr, fold-Call, fold-Place, fold-Stmt}

-- whether one of several parts reads one
abbrev pub any_reads : List Bool → Bool
any_reads parts = list_any (λ part. part) parts

-- whether a part does that may be left out
abbrev pub reads_if_there : Option Bool → Bool
reads_if_there None = false
reads_if_there (Some part) = part

-- one layer of a tree, with what is known of its parts in their places
abbrev pub Layer : (Type 0 → Type 0 → Type 0 → Type 0 → Type 0 → Type 0 → Type 0 → Type 0 → Type 0 → Type 0 → Type 0 → Type 0 → Type 0 → Type 0 → Type 0) → Type 0
Layer F = F Bool Bool Bool Bool Bool Bool Bool Bool Bool Bool Bool Bool Bool Bool

-- whether a name is a variable's
abbrev pub IsVariable : Type 0
IsVariable = List ℕ → Bool

-- an expression: a name, or one with an index, is read
abbrev pub kind_step : IsVariable → Layer ExprKind-F → Bool
kind_step is_variable (layer.Whole x0) = false
kind_step is_variable (layer.Decimal x0) = false
kind_step is_variable (layer.Time x0 x1) = false
kind_step is_variable (layer.Text x0) = false
kind_step is_variable (layer.Truth x0) = false
kind_step is_variable (layer.Name x0) = is_variable x0
kind_step is_variable (layer.Index x0 x1) = is_variable x0 || x1
kind_step is_variable (layer.Physical x0) = false
kind_step is_variable (layer.Call x0 x1) = any_reads x1
kind_step is_variable (layer.Cast x0 x1) = x0 || x1
kind_step is_variable (layer.DurationOf x0) = any_reads x0
kind_step is_variable (layer.Group x0) = x0
kind_step is_variable (layer.Unary x0 x1) = x1
kind_step is_variable (layer.Binary x0 x1 x2) = x0 || x2
kind_step is_variable (layer.Number x0) = false

-- a modifier
abbrev pub modifier_step : Layer Modifier-F → Bool
modifier_step layer.Inv = false
modifier_step (layer.Pow x0) = x0
modifier_step (layer.Ctrl x0) = reads_if_there x0
modifier_step (layer.NegCtrl x0) = reads_if_there x0

-- an operand
abbrev pub operand_step : Layer Operand-F → Bool
operand_step (layer.Named x0) = x0
operand_step (layer.PhysicalQubit x0 x1) = false

-- what is assigned
abbrev pub value_step : Layer Value-F → Bool
value_step (layer.Expression x0) = x0
value_step (layer.Measurement x0) = x0

-- an item of a calibration
abbrev pub item_step : Layer Item-F → Bool
item_step (layer.Port x0 x1 x2) = false
item_step (layer.ExternFrame x0 x1) = false
item_step (layer.ExternWaveform x0 x1) = false
item_step (layer.Frame x0 x1 x2) = x2
item_step (layer.Return x0 x1) = x1
item_step (layer.Statement x0) = x0

-- a parameter of a calibration
abbrev pub param_step : Layer Param-F → Bool
param_step (layer.Free x0 x1) = x0
param_step (layer.Fixed x0) = x0

-- a body
abbrev pub body_step : Layer Body-F → Bool
body_step (layer.One x0) = x0
body_step (layer.Braces x0) = any_reads x0

-- the values of a `for`
abbrev pub range_step : Layer Range-F → Bool
range_step (layer.Interval x0 x1 x2 x3) = x1 || reads_if_there x2 || x3
range_step (layer.Set x0 x1) = any_reads x1

-- a statement
abbrev pub stmt_kind_step : Layer StmtKind-F → Bool
stmt_kind_step (layer.Include x0) = false
stmt_kind_step (layer.DefcalGrammar x0) = false
stmt_kind_step (layer.Qubit x0 x1) = reads_if_there x0
stmt_kind_step (layer.Input x0 x1) = x0
stmt_kind_step (layer.Output x0 x1) = x0
stmt_kind_step (layer.Gate x0 x1 x2 x3) = any_reads x3
stmt_kind_step (layer.Cal x0) = any_reads x0
stmt_kind_step (layer.Defcal x0 x1 x2 x3 x4) = reads_if_there (option_map any_reads x1) || any_reads x2 || any_reads x4
stmt_kind_step (layer.Init x0 x1 x2 x3) = x1 || x3
stmt_kind_step (layer.Declare x0 x1) = x0
stmt_kind_step (layer.Stretch x0) = false
stmt_kind_step (layer.GateCall x0) = x0
stmt_kind_step (layer.Assign x0 x1) = x0 || x1
stmt_kind_step (layer.Update x0 x1 x2) = x0 || x2
stmt_kind_step (layer.Measure x0 x1) = x0 || reads_if_there x1
stmt_kind_step (layer.Reset x0) = x0
stmt_kind_step (layer.Barrier x0) = any_reads x0
stmt_kind_step (layer.Delay x0 x1) = x0 || any_reads x1
stmt_kind_step (layer.Box x0 x1) = reads_if_there x0 || any_reads x1
stmt_kind_step (layer.If x0 x1 x2) = x0 || x1 || reads_if_there x2
stmt_kind_step (layer.While x0 x1) = x0 || x1
stmt_kind_step (layer.For x0 x1 x2 x3) = x0 || x2 || x3
stmt_kind_step layer.Break = false
stmt_kind_step layer.Continue = false
stmt_kind_step layer.End = false

-- an expression at its place
abbrev pub expr_step : Layer Expr-F → Bool
expr_step part = part.kind

-- a type
abbrev pub type_step : Layer TypeExpr-F → Bool
type_step part = reads_if_there part.width

-- a call of a gate
abbrev pub call_step : Layer Call-F → Bool
call_step part = any_reads part.modifiers || reads_if_there (option_map any_reads part.args) || any_reads part.operands

-- a place: what is assigned to is not read, and its index is
abbrev pub place_step : Layer Place-F → Bool
place_step part = reads_if_there part.index

-- a statement at its place
abbrev pub stmt_step : Layer Stmt-F → Bool
stmt_step part = part.kind

-- whether an expression reads one
abbrev pub kind_reads : IsVariable → ExprKind → Bool
kind_reads is_variable = fold-ExprKind Bool Bool Bool Bool Bool Bool Bool Bool Bool Bool Bool Bool Bool Bool (kind_step is_variable) modifier_step operand_step value_step item_step param_step body_step range_step stmt_kind_step expr_step type_step call_step place_step stmt_step

-- whether a modifier reads one
abbrev pub modifier_reads : IsVariable → Modifier → Bool
modifier_reads is_variable = fold-Modifier Bool Bool Bool Bool Bool Bool Bool Bool Bool Bool Bool Bool Bool Bool (kind_step is_variable) modifier_step operand_step value_step item_step param_step body_step range_step stmt_kind_step expr_step type_step call_step place_step stmt_step

-- whether an operand reads one
abbrev pub operand_reads : IsVariable → Operand → Bool
operand_reads is_variable = fold-Operand Bool Bool Bool Bool Bool Bool Bool Bool Bool Bool Bool Bool Bool Bool (kind_step is_variable) modifier_step operand_step value_step item_step param_step body_step range_step stmt_kind_step expr_step type_step call_step place_step stmt_step

-- whether what is assigned reads one
abbrev pub value_reads : IsVariable → Value → Bool
value_reads is_variable = fold-Value Bool Bool Bool Bool Bool Bool Bool Bool Bool Bool Bool Bool Bool Bool (kind_step is_variable) modifier_step operand_step value_step item_step param_step body_step range_step stmt_kind_step expr_step type_step call_step place_step stmt_step

-- whether an item of a calibration reads one
abbrev pub item_reads : IsVariable → Item → Bool
item_reads is_variable = fold-Item Bool Bool Bool Bool Bool Bool Bool Bool Bool Bool Bool Bool Bool Bool (kind_step is_variable) modifier_step operand_step value_step item_step param_step body_step range_step stmt_kind_step expr_step type_step call_step place_step stmt_step

-- whether a parameter of a calibration reads one
abbrev pub param_reads : IsVariable → Param → Bool
param_reads is_variable = fold-Param Bool Bool Bool Bool Bool Bool Bool Bool Bool Bool Bool Bool Bool Bool (kind_step is_variable) modifier_step operand_step value_step item_step param_step body_step range_step stmt_kind_step expr_step type_step call_step place_step stmt_step

-- whether a body reads one
abbrev pub body_reads : IsVariable → Body → Bool
body_reads is_variable = fold-Body Bool Bool Bool Bool Bool Bool Bool Bool Bool Bool Bool Bool Bool Bool (kind_step is_variable) modifier_step operand_step value_step item_step param_step body_step range_step stmt_kind_step expr_step type_step call_step place_step stmt_step

-- whether the values of a `for` reads one
abbrev pub range_reads : IsVariable → Range → Bool
range_reads is_variable = fold-Range Bool Bool Bool Bool Bool Bool Bool Bool Bool Bool Bool Bool Bool Bool (kind_step is_variable) modifier_step operand_step value_step item_step param_step body_step range_step stmt_kind_step expr_step type_step call_step place_step stmt_step

-- whether a statement reads one
abbrev pub stmt_kind_reads : IsVariable → StmtKind → Bool
stmt_kind_reads is_variable = fold-StmtKind Bool Bool Bool Bool Bool Bool Bool Bool Bool Bool Bool Bool Bool Bool (kind_step is_variable) modifier_step operand_step value_step item_step param_step body_step range_step stmt_kind_step expr_step type_step call_step place_step stmt_step

-- whether an expression at its place reads one
abbrev pub expr_reads : IsVariable → Expr → Bool
expr_reads is_variable = fold-Expr Bool Bool Bool Bool Bool Bool Bool Bool Bool Bool Bool Bool Bool Bool (kind_step is_variable) modifier_step operand_step value_step item_step param_step body_step range_step stmt_kind_step expr_step type_step call_step place_step stmt_step

-- whether a type reads one
abbrev pub type_reads : IsVariable → TypeExpr → Bool
type_reads is_variable = fold-TypeExpr Bool Bool Bool Bool Bool Bool Bool Bool Bool Bool Bool Bool Bool Bool (kind_step is_variable) modifier_step operand_step value_step item_step param_step body_step range_step stmt_kind_step expr_step type_step call_step place_step stmt_step

-- whether a call of a gate reads one
abbrev pub call_reads : IsVariable → Call → Bool
call_reads is_variable = fold-Call Bool Bool Bool Bool Bool Bool Bool Bool Bool Bool Bool Bool Bool Bool (kind_step is_variable) modifier_step operand_step value_step item_step param_step body_step range_step stmt_kind_step expr_step type_step call_step place_step stmt_step

-- whether a place reads one
abbrev pub place_reads : IsVariable → Place → Bool
place_reads is_variable = fold-Place Bool Bool Bool Bool Bool Bool Bool Bool Bool Bool Bool Bool Bool Bool (kind_step is_variable) modifier_step operand_step value_step item_step param_step body_step range_step stmt_kind_step expr_step type_step call_step place_step stmt_step

-- whether a statement at its place reads one
abbrev pub stmt_reads : IsVariable → Stmt → Bool
stmt_reads is_variable = fold-Stmt Bool Bool Bool Bool Bool Bool Bool Bool Bool Bool Bool Bool Bool Bool (kind_step is_variable) modifier_step operand_step value_step item_step param_step body_step range_step stmt_kind_step expr_step type_step call_step place_step stmt_step
