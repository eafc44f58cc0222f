-- Where nothing is put in, all stays.
use Rattle.std.proofs.Common.{◌≡◌, List, [], ◌∷◌, map, Option, Some, None, refl, sym, ap, subst, ◌∙◌}
use Rattle.qs_tree.specs.declared.expr.ExprKind.{ExprKind, roll-ExprKind}
use Rattle.qs_tree.specs.declared.gate.Modifier.{Modifier, roll-Modifier}
use Rattle.qs_tree.specs.declared.operand.Operand.{Operand, roll-Operand}
use Rattle.qs_tree.specs.declared.operand.Value.{Value, roll-Value}
use Rattle.qs_tree.specs.declared.pulse.Item.{Item, roll-Item}
use Rattle.qs_tree.specs.declared.pulse.Param.{Param, roll-Param}
use Rattle.qs_tree.specs.declared.statement.Body.{Body, roll-Body}
use Rattle.qs_tree.specs.declared.statement.Range.{Range, roll-Range}
use Rattle.qs_tree.specs.declared.statement.StmtKind.{StmtKind, roll-StmtKind}
use Rattle.qs_tree.specs.declared.expr.Expr.{Expr, Expr-F, roll-Expr}
use Rattle.qs_tree.specs.declared.expr.TypeExpr.{TypeExpr, TypeExpr-F, roll-TypeExpr}
use Rattle.qs_tree.specs.declared.gate.Call.{Call, Call-F, roll-Call}
use Rattle.qs_tree.specs.declared.operand.Place.{Place, Place-F, roll-Place}
use Rattle.qs_tree.specs.declared.statement.Stmt.{Stmt, Stmt-F, roll-Stmt}
use Rattle.qs_tree.specs.declared.expr.ExprKind.TheOpen.{ExprKind-F, Modifier-F, Operand-F, Value-F, Item-F, Param-F, Body-F, Range-F, StmtKind-F}
use Rattle.qs_tree.specs.declared.expr.ExprKind.TheOpen as layer
use Rattle.qs_tree.specs.declared.expr.ExprKind.TheVariants.{Index, rolls-Name, rolls-Index}
use Rattle.qs_tree.specs.declared.expr.ExprKind.TheFolds.{map-ExprKind, map-Modifier, map-Operand, map-Value, map-Item, map-Param, map-Body, map-Range, map-StmtKind, map-Expr, map-TypeExpr, map-Call, map-Place, map-Stmt, fold-roll-ExprKind, fold-roll-Modifier, fold-roll-Operand, fold-roll-Value, fold-roll-Item, fold-roll-Param, fold-roll-Body, fold-roll-Range, fold-roll-StmtKind, fold-roll-Expr, fold-roll-TypeExpr, fold-roll-Call, fold-roll-Place, fold-roll-Stmt, ind-ExprKind, ind-Expr}
use Rattle.qs_tree.specs.Replacements.{put_nothing}
use Rattle.qs_tree.proofs.SubstitutionLemmas.{renamed_nothing}
use Rattle.qs_tree.specs.Substitution.{kind_step, expr_step, place_step, stmt_step, kind_substituted, modifier_substituted, operand_substituted, value_substituted, item_substituted, param_substituted, body_substituted, range_substituted, stmt_kind_substituted, substituted, type_substituted, call_substituted, place_substituted, stmt_substituted}

-- what stays as it is
abbrev Kept : {A : Type 0} → (A → A) → Type 0
Kept {A} f = (a : A) × (f a ≡ a)

each_same : {A : Type 0} {f : A → A} (xs : List (Kept f)) → map f (map (λ e. e.0) xs) ≡ map (λ e. e.0) xs
each_same [] = refl
each_same (x ∷ xs) = λ i. x.1 i ∷ each_same xs i

-- one layer of a tree whose parts stay, and these parts alone
abbrev KeptLayer : (Type 0 → Type 0 → Type 0 → Type 0 → Type 0 → Type 0 → Type 0 → Type 0 → Type 0 → Type 0 → Type 0 → Type 0 → Type 0 → Type 0 → Type 0) → Type 0
KeptLayer F = F (Kept (kind_substituted put_nothing)) (Kept (modifier_substituted put_nothing)) (Kept (operand_substituted put_nothing)) (Kept (value_substituted put_nothing)) (Kept (item_substituted put_nothing)) (Kept (param_substituted put_nothing)) (Kept (body_substituted put_nothing)) (Kept (range_substituted put_nothing)) (Kept (stmt_kind_substituted put_nothing)) (Kept (substituted put_nothing)) (Kept (type_substituted put_nothing)) (Kept (call_substituted put_nothing)) (Kept (place_substituted put_nothing)) (Kept (stmt_substituted put_nothing))

abbrev Layer : (Type 0 → Type 0 → Type 0 → Type 0 → Type 0 → Type 0 → Type 0 → Type 0 → Type 0 → Type 0 → Type 0 → Type 0 → Type 0 → Type 0 → Type 0) → Type 0
Layer F = F ExprKind Modifier Operand Value Item Param Body Range StmtKind Expr TypeExpr Call Place Stmt

-- ExprKind
abbrev parts_of_kind : KeptLayer ExprKind-F → Layer ExprKind-F
parts_of_kind = map-ExprKind (Kept (kind_substituted put_nothing)) (Kept (modifier_substituted put_nothing)) (Kept (operand_substituted put_nothing)) (Kept (value_substituted put_nothing)) (Kept (item_substituted put_nothing)) (Kept (param_substituted put_nothing)) (Kept (body_substituted put_nothing)) (Kept (range_substituted put_nothing)) (Kept (stmt_kind_substituted put_nothing)) (Kept (substituted put_nothing)) (Kept (type_substituted put_nothing)) (Kept (call_substituted put_nothing)) (Kept (place_substituted put_nothing)) (Kept (stmt_substituted put_nothing)) ExprKind Modifier Operand Value Item Param Body Range StmtKind Expr TypeExpr Call Place Stmt (λ e. e.0) (λ e. e.0) (λ e. e.0) (λ e. e.0) (λ e. e.0) (λ e. e.0) (λ e. e.0) (λ e. e.0) (λ e. e.0) (λ e. e.0) (λ e. e.0) (λ e. e.0) (λ e. e.0) (λ e. e.0)

abbrev all_of_kind : Layer ExprKind-F → Layer ExprKind-F
all_of_kind = map-ExprKind ExprKind Modifier Operand Value Item Param Body Range StmtKind Expr TypeExpr Call Place Stmt ExprKind Modifier Operand Value Item Param Body Range StmtKind Expr TypeExpr Call Place Stmt (kind_substituted put_nothing) (modifier_substituted put_nothing) (operand_substituted put_nothing) (value_substituted put_nothing) (item_substituted put_nothing) (param_substituted put_nothing) (body_substituted put_nothing) (range_substituted put_nothing) (stmt_kind_substituted put_nothing) (substituted put_nothing) (type_substituted put_nothing) (call_substituted put_nothing) (place_substituted put_nothing) (stmt_substituted put_nothing)

same_kind : (x : KeptLayer ExprKind-F) → all_of_kind (parts_of_kind x) ≡ parts_of_kind x
same_kind (layer.Whole x0) = refl
same_kind (layer.Decimal x0) = refl
same_kind (layer.Time x0 x1) = refl
same_kind (layer.Text x0) = refl
same_kind (layer.Truth x0) = refl
same_kind (layer.Name x0) = refl
same_kind (layer.Index x0 x1) = λ i. layer.Index x0 (x1.1 i)
same_kind (layer.Physical x0) = refl
same_kind (layer.Call x0 x1) = λ i. layer.Call x0 (each_same x1 i)
same_kind (layer.Cast x0 x1) = λ i. layer.Cast (x0.1 i) (x1.1 i)
same_kind (layer.DurationOf x0) = λ i. layer.DurationOf (each_same x0 i)
same_kind (layer.Group x0) = λ i. layer.Group (x0.1 i)
same_kind (layer.Unary x0 x1) = λ i. layer.Unary x0 (x1.1 i)
same_kind (layer.Binary x0 x1 x2) = λ i. layer.Binary (x0.1 i) x1 (x2.1 i)
same_kind (layer.Number x0) = refl

-- Modifier
abbrev parts_of_modifier : KeptLayer Modifier-F → Layer Modifier-F
parts_of_modifier = map-Modifier (Kept (kind_substituted put_nothing)) (Kept (modifier_substituted put_nothing)) (Kept (operand_substituted put_nothing)) (Kept (value_substituted put_nothing)) (Kept (item_substituted put_nothing)) (Kept (param_substituted put_nothing)) (Kept (body_substituted put_nothing)) (Kept (range_substituted put_nothing)) (Kept (stmt_kind_substituted put_nothing)) (Kept (substituted put_nothing)) (Kept (type_substituted put_nothing)) (Kept (call_substituted put_nothing)) (Kept (place_substituted put_nothing)) (Kept (stmt_substituted put_nothing)) ExprKind Modifier Operand Value Item Param Body Range StmtKind Expr TypeExpr Call Place Stmt (λ e. e.0) (λ e. e.0) (λ e. e.0) (λ e. e.0) (λ e. e.0) (λ e. e.0) (λ e. e.0) (λ e. e.0) (λ e. e.0) (λ e. e.0) (λ e. e.0) (λ e. e.0) (λ e. e.0) (λ e. e.0)

abbrev all_of_modifier : Layer Modifier-F → Layer Modifier-F
all_of_modifier = map-Modifier ExprKind Modifier Operand Value Item Param Body Range StmtKind Expr TypeExpr Call Place Stmt ExprKind Modifier Operand Value Item Param Body Range StmtKind Expr TypeExpr Call Place Stmt (kind_substituted put_nothing) (modifier_substituted put_nothing) (operand_substituted put_nothing) (value_substituted put_nothing) (item_substituted put_nothing) (param_substituted put_nothing) (body_substituted put_nothing) (range_substituted put_nothing) (stmt_kind_substituted put_nothing) (substituted put_nothing) (type_substituted put_nothing) (call_substituted put_nothing) (place_substituted put_nothing) (stmt_substituted put_nothing)

same_modifier : (x : KeptLayer Modifier-F) → all_of_modifier (parts_of_modifier x) ≡ parts_of_modifier x
same_modifier layer.Inv = refl
same_modifier (layer.Pow x0) = λ i. layer.Pow (x0.1 i)
same_modifier (layer.Ctrl None) = refl
same_modifier (layer.Ctrl (Some x0)) = λ i. layer.Ctrl (Some (x0.1 i))
same_modifier (layer.NegCtrl None) = refl
same_modifier (layer.NegCtrl (Some x0)) = λ i. layer.NegCtrl (Some (x0.1 i))

-- Operand
abbrev parts_of_operand : KeptLayer Operand-F → Layer Operand-F
parts_of_operand = map-Operand (Kept (kind_substituted put_nothing)) (Kept (modifier_substituted put_nothing)) (Kept (operand_substituted put_nothing)) (Kept (value_substituted put_nothing)) (Kept (item_substituted put_nothing)) (Kept (param_substituted put_nothing)) (Kept (body_substituted put_nothing)) (Kept (range_substituted put_nothing)) (Kept (stmt_kind_substituted put_nothing)) (Kept (substituted put_nothing)) (Kept (type_substituted put_nothing)) (Kept (call_substituted put_nothing)) (Kept (place_substituted put_nothing)) (Kept (stmt_substituted put_nothing)) ExprKind Modifier Operand Value Item Param Body Range StmtKind Expr TypeExpr Call Place Stmt (λ e. e.0) (λ e. e.0) (λ e. e.0) (λ e. e.0) (λ e. e.0) (λ e. e.0) (λ e. e.0) (λ e. e.0) (λ e. e.0) (λ e. e.0) (λ e. e.0) (λ e. e.0) (λ e. e.0) (λ e. e.0)

abbrev all_of_operand : Layer Operand-F → Layer Operand-F
all_of_operand = map-Operand ExprKind Modifier Operand Value Item Param Body Range StmtKind Expr TypeExpr Call Place Stmt ExprKind Modifier Operand Value Item Param Body Range StmtKind Expr TypeExpr Call Place Stmt (kind_substituted put_nothing) (modifier_substituted put_nothing) (operand_substituted put_nothing) (value_substituted put_nothing) (item_substituted put_nothing) (param_substituted put_nothing) (body_substituted put_nothing) (range_substituted put_nothing) (stmt_kind_substituted put_nothing) (substituted put_nothing) (type_substituted put_nothing) (call_substituted put_nothing) (place_substituted put_nothing) (stmt_substituted put_nothing)

same_operand : (x : KeptLayer Operand-F) → all_of_operand (parts_of_operand x) ≡ parts_of_operand x
same_operand (layer.Named x0) = λ i. layer.Named (x0.1 i)
same_operand (layer.PhysicalQubit x0 x1) = refl

-- Value
abbrev parts_of_value : KeptLayer Value-F → Layer Value-F
parts_of_value = map-Value (Kept (kind_substituted put_nothing)) (Kept (modifier_substituted put_nothing)) (Kept (operand_substituted put_nothing)) (Kept (value_substituted put_nothing)) (Kept (item_substituted put_nothing)) (Kept (param_substituted put_nothing)) (Kept (body_substituted put_nothing)) (Kept (range_substituted put_nothing)) (Kept (stmt_kind_substituted put_nothing)) (Kept (substituted put_nothing)) (Kept (type_substituted put_nothing)) (Kept (call_substituted put_nothing)) (Kept (place_substituted put_nothing)) (Kept (stmt_substituted put_nothing)) ExprKind Modifier Operand Value Item Param Body Range StmtKind Expr TypeExpr Call Place Stmt (λ e. e.0) (λ e. e.0) (λ e. e.0) (λ e. e.0) (λ e. e.0) (λ e. e.0) (λ e. e.0) (λ e. e.0) (λ e. e.0) (λ e. e.0) (λ e. e.0) (λ e. e.0) (λ e. e.0) (λ e. e.0)

abbrev all_of_value : Layer Value-F → Layer Value-F
all_of_value = map-Value ExprKind Modifier Operand Value Item Param Body Range StmtKind Expr TypeExpr Call Place Stmt ExprKind Modifier Operand Value Item Param Body Range StmtKind Expr TypeExpr Call Place Stmt (kind_substituted put_nothing) (modifier_substituted put_nothing) (operand_substituted put_nothing) (value_substituted put_nothing) (item_substituted put_nothing) (param_substituted put_nothing) (body_substituted put_nothing) (range_substituted put_nothing) (stmt_kind_substituted put_nothing) (substituted put_nothing) (type_substituted put_nothing) (call_substituted put_nothing) (place_substituted put_nothing) (stmt_substituted put_nothing)

same_value : (x : KeptLayer Value-F) → all_of_value (parts_of_value x) ≡ parts_of_value x
same_value (layer.Expression x0) = λ i. layer.Expression (x0.1 i)
same_value (layer.Measurement x0) = λ i. layer.Measurement (x0.1 i)

-- Item
abbrev parts_of_item : KeptLayer Item-F → Layer Item-F
parts_of_item = map-Item (Kept (kind_substituted put_nothing)) (Kept (modifier_substituted put_nothing)) (Kept (operand_substituted put_nothing)) (Kept (value_substituted put_nothing)) (Kept (item_substituted put_nothing)) (Kept (param_substituted put_nothing)) (Kept (body_substituted put_nothing)) (Kept (range_substituted put_nothing)) (Kept (stmt_kind_substituted put_nothing)) (Kept (substituted put_nothing)) (Kept (type_substituted put_nothing)) (Kept (call_substituted put_nothing)) (Kept (place_substituted put_nothing)) (Kept (stmt_substituted put_nothing)) ExprKind Modifier Operand Value Item Param Body Range StmtKind Expr TypeExpr Call Place Stmt (λ e. e.0) (λ e. e.0) (λ e. e.0) (λ e. e.0) (λ e. e.0) (λ e. e.0) (λ e. e.0) (λ e. e.0) (λ e. e.0) (λ e. e.0) (λ e. e.0) (λ e. e.0) (λ e. e.0) (λ e. e.0)

abbrev all_of_item : Layer Item-F → Layer Item-F
all_of_item = map-Item ExprKind Modifier Operand Value Item Param Body Range StmtKind Expr TypeExpr Call Place Stmt ExprKind Modifier Operand Value Item Param Body Range StmtKind Expr TypeExpr Call Place Stmt (kind_substituted put_nothing) (modifier_substituted put_nothing) (operand_substituted put_nothing) (value_substituted put_nothing) (item_substituted put_nothing) (param_substituted put_nothing) (body_substituted put_nothing) (range_substituted put_nothing) (stmt_kind_substituted put_nothing) (substituted put_nothing) (type_substituted put_nothing) (call_substituted put_nothing) (place_substituted put_nothing) (stmt_substituted put_nothing)

same_item : (x : KeptLayer Item-F) → all_of_item (parts_of_item x) ≡ parts_of_item x
same_item (layer.Port x0 x1 x2) = refl
same_item (layer.ExternFrame x0 x1) = refl
same_item (layer.ExternWaveform x0 x1) = refl
same_item (layer.Frame x0 x1 x2) = λ i. layer.Frame x0 x1 (x2.1 i)
same_item (layer.Return x0 x1) = λ i. layer.Return x0 (x1.1 i)
same_item (layer.Statement x0) = λ i. layer.Statement (x0.1 i)

-- Param
abbrev parts_of_param : KeptLayer Param-F → Layer Param-F
parts_of_param = map-Param (Kept (kind_substituted put_nothing)) (Kept (modifier_substituted put_nothing)) (Kept (operand_substituted put_nothing)) (Kept (value_substituted put_nothing)) (Kept (item_substituted put_nothing)) (Kept (param_substituted put_nothing)) (Kept (body_substituted put_nothing)) (Kept (range_substituted put_nothing)) (Kept (stmt_kind_substituted put_nothing)) (Kept (substituted put_nothing)) (Kept (type_substituted put_nothing)) (Kept (call_substituted put_nothing)) (Kept (place_substituted put_nothing)) (Kept (stmt_substituted put_nothing)) ExprKind Modifier Operand Value Item Param Body Range StmtKind Expr TypeExpr Call Place Stmt (λ e. e.0) (λ e. e.0) (λ e. e.0) (λ e. e.0) (λ e. e.0) (λ e. e.0) (λ e. e.0) (λ e. e.0) (λ e. e.0) (λ e. e.0) (λ e. e.0) (λ e. e.0) (λ e. e.0) (λ e. e.0)

abbrev all_of_param : Layer Param-F → Layer Param-F
all_of_param = map-Param ExprKind Modifier Operand Value Item Param Body Range StmtKind Expr TypeExpr Call Place Stmt ExprKind Modifier Operand Value Item Param Body Range StmtKind Expr TypeExpr Call Place Stmt (kind_substituted put_nothing) (modifier_substituted put_nothing) (operand_substituted put_nothing) (value_substituted put_nothing) (item_substituted put_nothing) (param_substituted put_nothing) (body_substituted put_nothing) (range_substituted put_nothing) (stmt_kind_substituted put_nothing) (substituted put_nothing) (type_substituted put_nothing) (call_substituted put_nothing) (place_substituted put_nothing) (stmt_substituted put_nothing)

same_param : (x : KeptLayer Param-F) → all_of_param (parts_of_param x) ≡ parts_of_param x
same_param (layer.Free x0 x1) = λ i. layer.Free (x0.1 i) x1
same_param (layer.Fixed x0) = λ i. layer.Fixed (x0.1 i)

-- Body
abbrev parts_of_body : KeptLayer Body-F → Layer Body-F
parts_of_body = map-Body (Kept (kind_substituted put_nothing)) (Kept (modifier_substituted put_nothing)) (Kept (operand_substituted put_nothing)) (Kept (value_substituted put_nothing)) (Kept (item_substituted put_nothing)) (Kept (param_substituted put_nothing)) (Kept (body_substituted put_nothing)) (Kept (range_substituted put_nothing)) (Kept (stmt_kind_substituted put_nothing)) (Kept (substituted put_nothing)) (Kept (type_substituted put_nothing)) (Kept (call_substituted put_nothing)) (Kept (place_substituted put_nothing)) (Kept (stmt_substituted put_nothing)) ExprKind Modifier Operand Value Item Param Body Range StmtKind Expr TypeExpr Call Place Stmt (λ e. e.0) (λ e. e.0) (λ e. e.0) (λ e. e.0) (λ e. e.0) (λ e. e.0) (λ e. e.0) (λ e. e.0) (λ e. e.0) (λ e. e.0) (λ e. e.0) (λ e. e.0) (λ e. e.0) (λ e. e.0)

abbrev all_of_body : Layer Body-F → Layer Body-F
all_of_body = map-Body ExprKind Modifier Operand Value Item Param Body Range StmtKind Expr TypeExpr Call Place Stmt ExprKind Modifier Operand Value Item Param Body Range StmtKind Expr TypeExpr Call Place Stmt (kind_substituted put_nothing) (modifier_substituted put_nothing) (operand_substituted put_nothing) (value_substituted put_nothing) (item_substituted put_nothing) (param_substituted put_nothing) (body_substituted put_nothing) (range_substituted put_nothing) (stmt_kind_substituted put_nothing) (substituted put_nothing) (type_substituted put_nothing) (call_substituted put_nothing) (place_substituted put_nothing) (stmt_substituted put_nothing)

same_body : (x : KeptLayer Body-F) → all_of_body (parts_of_body x) ≡ parts_of_body x
same_body (layer.One x0) = λ i. layer.One (x0.1 i)
same_body (layer.Braces x0) = λ i. layer.Braces (each_same x0 i)

-- Range
abbrev parts_of_range : KeptLayer Range-F → Layer Range-F
parts_of_range = map-Range (Kept (kind_substituted put_nothing)) (Kept (modifier_substituted put_nothing)) (Kept (operand_substituted put_nothing)) (Kept (value_substituted put_nothing)) (Kept (item_substituted put_nothing)) (Kept (param_substituted put_nothing)) (Kept (body_substituted put_nothing)) (Kept (range_substituted put_nothing)) (Kept (stmt_kind_substituted put_nothing)) (Kept (substituted put_nothing)) (Kept (type_substituted put_nothing)) (Kept (call_substituted put_nothing)) (Kept (place_substituted put_nothing)) (Kept (stmt_substituted put_nothing)) ExprKind Modifier Operand Value Item Param Body Range StmtKind Expr TypeExpr Call Place Stmt (λ e. e.0) (λ e. e.0) (λ e. e.0) (λ e. e.0) (λ e. e.0) (λ e. e.0) (λ e. e.0) (λ e. e.0) (λ e. e.0) (λ e. e.0) (λ e. e.0) (λ e. e.0) (λ e. e.0) (λ e. e.0)

abbrev all_of_range : Layer Range-F → Layer Range-F
all_of_range = map-Range ExprKind Modifier Operand Value Item Param Body Range StmtKind Expr TypeExpr Call Place Stmt ExprKind Modifier Operand Value Item Param Body Range StmtKind Expr TypeExpr Call Place Stmt (kind_substituted put_nothing) (modifier_substituted put_nothing) (operand_substituted put_nothing) (value_substituted put_nothing) (item_substituted put_nothing) (param_substituted put_nothing) (body_substituted put_nothing) (range_substituted put_nothing) (stmt_kind_substituted put_nothing) (substituted put_nothing) (type_substituted put_nothing) (call_substituted put_nothing) (place_substituted put_nothing) (stmt_substituted put_nothing)

same_range : (x : KeptLayer Range-F) → all_of_range (parts_of_range x) ≡ parts_of_range x
same_range (layer.Interval x0 x1 None x3) = λ i. layer.Interval x0 (x1.1 i) None (x3.1 i)
same_range (layer.Interval x0 x1 (Some x2) x3) = λ i. layer.Interval x0 (x1.1 i) (Some (x2.1 i)) (x3.1 i)
same_range (layer.Set x0 x1) = λ i. layer.Set x0 (each_same x1 i)

-- StmtKind
abbrev parts_of_stmt_kind : KeptLayer StmtKind-F → Layer StmtKind-F
parts_of_stmt_kind = map-StmtKind (Kept (kind_substituted put_nothing)) (Kept (modifier_substituted put_nothing)) (Kept (operand_substituted put_nothing)) (Kept (value_substituted put_nothing)) (Kept (item_substituted put_nothing)) (Kept (param_substituted put_nothing)) (Kept (body_substituted put_nothing)) (Kept (range_substituted put_nothing)) (Kept (stmt_kind_substituted put_nothing)) (Kept (substituted put_nothing)) (Kept (type_substituted put_nothing)) (Kept (call_substituted put_nothing)) (Kept (place_substituted put_nothing)) (Kept (stmt_substituted put_nothing)) ExprKind Modifier Operand Value Item Param Body Range StmtKind Expr TypeExpr Call Place Stmt (λ e. e.0) (λ e. e.0) (λ e. e.0) (λ e. e.0) (λ e. e.0) (λ e. e.0) (λ e. e.0) (λ e. e.0) (λ e. e.0) (λ e. e.0) (λ e. e.0) (λ e. e.0) (λ e. e.0) (λ e. e.0)

abbrev all_of_stmt_kind : Layer StmtKind-F → Layer StmtKind-F
all_of_stmt_kind = map-StmtKind ExprKind Modifier Operand Value Item Param Body Range StmtKind Expr TypeExpr Call Place Stmt ExprKind Modifier Operand Value Item Param Body Range StmtKind Expr TypeExpr Call Place Stmt (kind_substituted put_nothing) (modifier_substituted put_nothing) (operand_substituted put_nothing) (value_substituted put_nothing) (item_substituted put_nothing) (param_substituted put_nothing) (body_substituted put_nothing) (range_substituted put_nothing) (stmt_kind_substituted put_nothing) (substituted put_nothing) (type_substituted put_nothing) (call_substituted put_nothing) (place_substituted put_nothing) (stmt_substituted put_nothing)

same_stmt_kind : (x : KeptLayer StmtKind-F) → all_of_stmt_kind (parts_of_stmt_kind x) ≡ parts_of_stmt_kind x
same_stmt_kind (layer.Include x0) = refl
same_stmt_kind (layer.DefcalGrammar x0) = refl
same_stmt_kind (layer.Qubit None x1) = refl
same_stmt_kind (layer.Qubit (Some x0) x1) = λ i. layer.Qubit (Some (x0.1 i)) x1
same_stmt_kind (layer.Input x0 x1) = λ i. layer.Input (x0.1 i) x1
same_stmt_kind (layer.Output x0 x1) = λ i. layer.Output (x0.1 i) x1
same_stmt_kind (layer.Gate x0 x1 x2 x3) = λ i. layer.Gate x0 x1 x2 (each_same x3 i)
same_stmt_kind (layer.Cal x0) = λ i. layer.Cal (each_same x0 i)
same_stmt_kind (layer.Defcal x0 None x2 x3 x4) = λ i. layer.Defcal x0 None (each_same x2 i) x3 (each_same x4 i)
same_stmt_kind (layer.Defcal x0 (Some x1) x2 x3 x4) = λ i. layer.Defcal x0 (Some (each_same x1 i)) (each_same x2 i) x3 (each_same x4 i)
same_stmt_kind (layer.Init x0 x1 x2 x3) = λ i. layer.Init x0 (x1.1 i) x2 (x3.1 i)
same_stmt_kind (layer.Declare x0 x1) = λ i. layer.Declare (x0.1 i) x1
same_stmt_kind (layer.Stretch x0) = refl
same_stmt_kind (layer.GateCall x0) = λ i. layer.GateCall (x0.1 i)
same_stmt_kind (layer.Assign x0 x1) = λ i. layer.Assign (x0.1 i) (x1.1 i)
same_stmt_kind (layer.Update x0 x1 x2) = λ i. layer.Update (x0.1 i) x1 (x2.1 i)
same_stmt_kind (layer.Measure x0 None) = λ i. layer.Measure (x0.1 i) None
same_stmt_kind (layer.Measure x0 (Some x1)) = λ i. layer.Measure (x0.1 i) (Some (x1.1 i))
same_stmt_kind (layer.Reset x0) = λ i. layer.Reset (x0.1 i)
same_stmt_kind (layer.Barrier x0) = λ i. layer.Barrier (each_same x0 i)
same_stmt_kind (layer.Delay x0 x1) = λ i. layer.Delay (x0.1 i) (each_same x1 i)
same_stmt_kind (layer.Box None x1) = λ i. layer.Box None (each_same x1 i)
same_stmt_kind (layer.Box (Some x0) x1) = λ i. layer.Box (Some (x0.1 i)) (each_same x1 i)
same_stmt_kind (layer.If x0 x1 None) = λ i. layer.If (x0.1 i) (x1.1 i) None
same_stmt_kind (layer.If x0 x1 (Some x2)) = λ i. layer.If (x0.1 i) (x1.1 i) (Some (x2.1 i))
same_stmt_kind (layer.While x0 x1) = λ i. layer.While (x0.1 i) (x1.1 i)
same_stmt_kind (layer.For x0 x1 x2 x3) = λ i. layer.For (x0.1 i) x1 (x2.1 i) (x3.1 i)
same_stmt_kind layer.Break = refl
same_stmt_kind layer.Continue = refl
same_stmt_kind layer.End = refl

-- Expr
abbrev parts_of_expr : KeptLayer Expr-F → Layer Expr-F
parts_of_expr = map-Expr (Kept (kind_substituted put_nothing)) (Kept (modifier_substituted put_nothing)) (Kept (operand_substituted put_nothing)) (Kept (value_substituted put_nothing)) (Kept (item_substituted put_nothing)) (Kept (param_substituted put_nothing)) (Kept (body_substituted put_nothing)) (Kept (range_substituted put_nothing)) (Kept (stmt_kind_substituted put_nothing)) (Kept (substituted put_nothing)) (Kept (type_substituted put_nothing)) (Kept (call_substituted put_nothing)) (Kept (place_substituted put_nothing)) (Kept (stmt_substituted put_nothing)) ExprKind Modifier Operand Value Item Param Body Range StmtKind Expr TypeExpr Call Place Stmt (λ e. e.0) (λ e. e.0) (λ e. e.0) (λ e. e.0) (λ e. e.0) (λ e. e.0) (λ e. e.0) (λ e. e.0) (λ e. e.0) (λ e. e.0) (λ e. e.0) (λ e. e.0) (λ e. e.0) (λ e. e.0)

abbrev all_of_expr : Layer Expr-F → Layer Expr-F
all_of_expr = map-Expr ExprKind Modifier Operand Value Item Param Body Range StmtKind Expr TypeExpr Call Place Stmt ExprKind Modifier Operand Value Item Param Body Range StmtKind Expr TypeExpr Call Place Stmt (kind_substituted put_nothing) (modifier_substituted put_nothing) (operand_substituted put_nothing) (value_substituted put_nothing) (item_substituted put_nothing) (param_substituted put_nothing) (body_substituted put_nothing) (range_substituted put_nothing) (stmt_kind_substituted put_nothing) (substituted put_nothing) (type_substituted put_nothing) (call_substituted put_nothing) (place_substituted put_nothing) (stmt_substituted put_nothing)

same_expr : (x : KeptLayer Expr-F) → all_of_expr (parts_of_expr x) ≡ parts_of_expr x
same_expr x = λ i. record { span = x.span; kind = x.kind.1 i }

-- TypeExpr
abbrev parts_of_type : KeptLayer TypeExpr-F → Layer TypeExpr-F
parts_of_type = map-TypeExpr (Kept (kind_substituted put_nothing)) (Kept (modifier_substituted put_nothing)) (Kept (operand_substituted put_nothing)) (Kept (value_substituted put_nothing)) (Kept (item_substituted put_nothing)) (Kept (param_substituted put_nothing)) (Kept (body_substituted put_nothing)) (Kept (range_substituted put_nothing)) (Kept (stmt_kind_substituted put_nothing)) (Kept (substituted put_nothing)) (Kept (type_substituted put_nothing)) (Kept (call_substituted put_nothing)) (Kept (place_substituted put_nothing)) (Kept (stmt_substituted put_nothing)) ExprKind Modifier Operand Value Item Param Body Range StmtKind Expr TypeExpr Call Place Stmt (λ e. e.0) (λ e. e.0) (λ e. e.0) (λ e. e.0) (λ e. e.0) (λ e. e.0) (λ e. e.0) (λ e. e.0) (λ e. e.0) (λ e. e.0) (λ e. e.0) (λ e. e.0) (λ e. e.0) (λ e. e.0)

abbrev all_of_type : Layer TypeExpr-F → Layer TypeExpr-F
all_of_type = map-TypeExpr ExprKind Modifier Operand Value Item Param Body Range StmtKind Expr TypeExpr Call Place Stmt ExprKind Modifier Operand Value Item Param Body Range StmtKind Expr TypeExpr Call Place Stmt (kind_substituted put_nothing) (modifier_substituted put_nothing) (operand_substituted put_nothing) (value_substituted put_nothing) (item_substituted put_nothing) (param_substituted put_nothing) (body_substituted put_nothing) (range_substituted put_nothing) (stmt_kind_substituted put_nothing) (substituted put_nothing) (type_substituted put_nothing) (call_substituted put_nothing) (place_substituted put_nothing) (stmt_substituted put_nothing)

same_width : (x : KeptLayer TypeExpr-F) (width : Option (Kept (substituted put_nothing))) → all_of_type (parts_of_type (record x { width = width })) ≡ parts_of_type (record x { width = width })
same_width x None = refl
same_width x (Some width) = λ i. record { span = x.span; word = x.word; width = Some (width.1 i) }

same_type : (x : KeptLayer TypeExpr-F) → all_of_type (parts_of_type x) ≡ parts_of_type x
same_type x = same_width x x.width

-- Call
abbrev parts_of_call : KeptLayer Call-F → Layer Call-F
parts_of_call = map-Call (Kept (kind_substituted put_nothing)) (Kept (modifier_substituted put_nothing)) (Kept (operand_substituted put_nothing)) (Kept (value_substituted put_nothing)) (Kept (item_substituted put_nothing)) (Kept (param_substituted put_nothing)) (Kept (body_substituted put_nothing)) (Kept (range_substituted put_nothing)) (Kept (stmt_kind_substituted put_nothing)) (Kept (substituted put_nothing)) (Kept (type_substituted put_nothing)) (Kept (call_substituted put_nothing)) (Kept (place_substituted put_nothing)) (Kept (stmt_substituted put_nothing)) ExprKind Modifier Operand Value Item Param Body Range StmtKind Expr TypeExpr Call Place Stmt (λ e. e.0) (λ e. e.0) (λ e. e.0) (λ e. e.0) (λ e. e.0) (λ e. e.0) (λ e. e.0) (λ e. e.0) (λ e. e.0) (λ e. e.0) (λ e. e.0) (λ e. e.0) (λ e. e.0) (λ e. e.0)

abbrev all_of_call : Layer Call-F → Layer Call-F
all_of_call = map-Call ExprKind Modifier Operand Value Item Param Body Range StmtKind Expr TypeExpr Call Place Stmt ExprKind Modifier Operand Value Item Param Body Range StmtKind Expr TypeExpr Call Place Stmt (kind_substituted put_nothing) (modifier_substituted put_nothing) (operand_substituted put_nothing) (value_substituted put_nothing) (item_substituted put_nothing) (param_substituted put_nothing) (body_substituted put_nothing) (range_substituted put_nothing) (stmt_kind_substituted put_nothing) (substituted put_nothing) (type_substituted put_nothing) (call_substituted put_nothing) (place_substituted put_nothing) (stmt_substituted put_nothing)

same_args : (x : KeptLayer Call-F) (args : Option (List (Kept (substituted put_nothing)))) → all_of_call (parts_of_call (record x { args = args })) ≡ parts_of_call (record x { args = args })
same_args x None = λ i. record { modifiers = each_same x.modifiers i; name = x.name; args = None; operands = each_same x.operands i }
same_args x (Some args) = λ i. record { modifiers = each_same x.modifiers i; name = x.name; args = Some (each_same args i); operands = each_same x.operands i }

same_call : (x : KeptLayer Call-F) → all_of_call (parts_of_call x) ≡ parts_of_call x
same_call x = same_args x x.args

-- Place
abbrev parts_of_place : KeptLayer Place-F → Layer Place-F
parts_of_place = map-Place (Kept (kind_substituted put_nothing)) (Kept (modifier_substituted put_nothing)) (Kept (operand_substituted put_nothing)) (Kept (value_substituted put_nothing)) (Kept (item_substituted put_nothing)) (Kept (param_substituted put_nothing)) (Kept (body_substituted put_nothing)) (Kept (range_substituted put_nothing)) (Kept (stmt_kind_substituted put_nothing)) (Kept (substituted put_nothing)) (Kept (type_substituted put_nothing)) (Kept (call_substituted put_nothing)) (Kept (place_substituted put_nothing)) (Kept (stmt_substituted put_nothing)) ExprKind Modifier Operand Value Item Param Body Range StmtKind Expr TypeExpr Call Place Stmt (λ e. e.0) (λ e. e.0) (λ e. e.0) (λ e. e.0) (λ e. e.0) (λ e. e.0) (λ e. e.0) (λ e. e.0) (λ e. e.0) (λ e. e.0) (λ e. e.0) (λ e. e.0) (λ e. e.0) (λ e. e.0)

abbrev all_of_place : Layer Place-F → Layer Place-F
all_of_place = map-Place ExprKind Modifier Operand Value Item Param Body Range StmtKind Expr TypeExpr Call Place Stmt ExprKind Modifier Operand Value Item Param Body Range StmtKind Expr TypeExpr Call Place Stmt (kind_substituted put_nothing) (modifier_substituted put_nothing) (operand_substituted put_nothing) (value_substituted put_nothing) (item_substituted put_nothing) (param_substituted put_nothing) (body_substituted put_nothing) (range_substituted put_nothing) (stmt_kind_substituted put_nothing) (substituted put_nothing) (type_substituted put_nothing) (call_substituted put_nothing) (place_substituted put_nothing) (stmt_substituted put_nothing)

same_index : (x : KeptLayer Place-F) (index : Option (Kept (substituted put_nothing))) → all_of_place (parts_of_place (record x { index = index })) ≡ parts_of_place (record x { index = index })
same_index x None = refl
same_index x (Some index) = λ i. record { name = x.name; index = Some (index.1 i) }

same_place : (x : KeptLayer Place-F) → all_of_place (parts_of_place x) ≡ parts_of_place x
same_place x = same_index x x.index

-- Stmt
abbrev parts_of_stmt : KeptLayer Stmt-F → Layer Stmt-F
parts_of_stmt = map-Stmt (Kept (kind_substituted put_nothing)) (Kept (modifier_substituted put_nothing)) (Kept (operand_substituted put_nothing)) (Kept (value_substituted put_nothing)) (Kept (item_substituted put_nothing)) (Kept (param_substituted put_nothing)) (Kept (body_substituted put_nothing)) (Kept (range_substituted put_nothing)) (Kept (stmt_kind_substituted put_nothing)) (Kept (substituted put_nothing)) (Kept (type_substituted put_nothing)) (Kept (call_substituted put_nothing)) (Kept (place_substituted put_nothing)) (Kept (stmt_substituted put_nothing)) ExprKind Modifier Operand Value Item Param Body Range StmtKind Expr TypeExpr Call Place Stmt (λ e. e.0) (λ e. e.0) (λ e. e.0) (λ e. e.0) (λ e. e.0) (λ e. e.0) (λ e. e.0) (λ e. e.0) (λ e. e.0) (λ e. e.0) (λ e. e.0) (λ e. e.0) (λ e. e.0) (λ e. e.0)

abbrev all_of_stmt : Layer Stmt-F → Layer Stmt-F
all_of_stmt = map-Stmt ExprKind Modifier Operand Value Item Param Body Range StmtKind Expr TypeExpr Call Place Stmt ExprKind Modifier Operand Value Item Param Body Range StmtKind Expr TypeExpr Call Place Stmt (kind_substituted put_nothing) (modifier_substituted put_nothing) (operand_substituted put_nothing) (value_substituted put_nothing) (item_substituted put_nothing) (param_substituted put_nothing) (body_substituted put_nothing) (range_substituted put_nothing) (stmt_kind_substituted put_nothing) (substituted put_nothing) (type_substituted put_nothing) (call_substituted put_nothing) (place_substituted put_nothing) (stmt_substituted put_nothing)

same_stmt : (x : KeptLayer Stmt-F) → all_of_stmt (parts_of_stmt x) ≡ parts_of_stmt x
same_stmt x = λ i. record { span = x.span; kind = x.kind.1 i }

-- ---- a step that puts nothing in makes the layer again

step_kind : (x : Layer ExprKind-F) → kind_step put_nothing x ≡ roll-ExprKind x
step_kind (layer.Whole x0) = refl
step_kind (layer.Decimal x0) = refl
step_kind (layer.Time x0 x1) = refl
step_kind (layer.Text x0) = refl
step_kind (layer.Truth x0) = refl
step_kind (layer.Name x0) = sym (rolls-Name x0)
step_kind (layer.Index x0 x1) = ap (λ name. Index name x1) (renamed_nothing x0) ∙ sym (rolls-Index x0 x1)
step_kind (layer.Physical x0) = refl
step_kind (layer.Call x0 x1) = refl
step_kind (layer.Cast x0 x1) = refl
step_kind (layer.DurationOf x0) = refl
step_kind (layer.Group x0) = refl
step_kind (layer.Unary x0 x1) = refl
step_kind (layer.Binary x0 x1 x2) = refl
step_kind (layer.Number x0) = refl

step_place : (x : Layer Place-F) → place_step put_nothing x ≡ roll-Place x
step_place x = ap (λ name. roll-Place (record { name = record x.name { name = name }; index = x.index })) (renamed_nothing x.name.name)

-- ---- a tree stays where its parts do

stays_kind : (y : KeptLayer ExprKind-F) → kind_substituted put_nothing (roll-ExprKind (parts_of_kind y)) ≡ roll-ExprKind (parts_of_kind y)
stays_kind y = fold-roll-ExprKind ExprKind Modifier Operand Value Item Param Body Range StmtKind Expr TypeExpr Call Place Stmt (kind_step put_nothing) roll-Modifier roll-Operand roll-Value roll-Item roll-Param roll-Body roll-Range roll-StmtKind expr_step roll-TypeExpr roll-Call (place_step put_nothing) stmt_step (parts_of_kind y) ∙ step_kind (all_of_kind (parts_of_kind y)) ∙ ap roll-ExprKind (same_kind y)

stays_modifier : (y : KeptLayer Modifier-F) → modifier_substituted put_nothing (roll-Modifier (parts_of_modifier y)) ≡ roll-Modifier (parts_of_modifier y)
stays_modifier y = fold-roll-Modifier ExprKind Modifier Operand Value Item Param Body Range StmtKind Expr TypeExpr Call Place Stmt (kind_step put_nothing) roll-Modifier roll-Operand roll-Value roll-Item roll-Param roll-Body roll-Range roll-StmtKind expr_step roll-TypeExpr roll-Call (place_step put_nothing) stmt_step (parts_of_modifier y) ∙ ap roll-Modifier (same_modifier y)

stays_operand : (y : KeptLayer Operand-F) → operand_substituted put_nothing (roll-Operand (parts_of_operand y)) ≡ roll-Operand (parts_of_operand y)
stays_operand y = fold-roll-Operand ExprKind Modifier Operand Value Item Param Body Range StmtKind Expr TypeExpr Call Place Stmt (kind_step put_nothing) roll-Modifier roll-Operand roll-Value roll-Item roll-Param roll-Body roll-Range roll-StmtKind expr_step roll-TypeExpr roll-Call (place_step put_nothing) stmt_step (parts_of_operand y) ∙ ap roll-Operand (same_operand y)

stays_value : (y : KeptLayer Value-F) → value_substituted put_nothing (roll-Value (parts_of_value y)) ≡ roll-Value (parts_of_value y)
stays_value y = fold-roll-Value ExprKind Modifier Operand Value Item Param Body Range StmtKind Expr TypeExpr Call Place Stmt (kind_step put_nothing) roll-Modifier roll-Operand roll-Value roll-Item roll-Param roll-Body roll-Range roll-StmtKind expr_step roll-TypeExpr roll-Call (place_step put_nothing) stmt_step (parts_of_value y) ∙ ap roll-Value (same_value y)

stays_item : (y : KeptLayer Item-F) → item_substituted put_nothing (roll-Item (parts_of_item y)) ≡ roll-Item (parts_of_item y)
stays_item y = fold-roll-Item ExprKind Modifier Operand Value Item Param Body Range StmtKind Expr TypeExpr Call Place Stmt (kind_step put_nothing) roll-Modifier roll-Operand roll-Value roll-Item roll-Param roll-Body roll-Range roll-StmtKind expr_step roll-TypeExpr roll-Call (place_step put_nothing) stmt_step (parts_of_item y) ∙ ap roll-Item (same_item y)

stays_param : (y : KeptLayer Param-F) → param_substituted put_nothing (roll-Param (parts_of_param y)) ≡ roll-Param (parts_of_param y)
stays_param y = fold-roll-Param ExprKind Modifier Operand Value Item Param Body Range StmtKind Expr TypeExpr Call Place Stmt (kind_step put_nothing) roll-Modifier roll-Operand roll-Value roll-Item roll-Param roll-Body roll-Range roll-StmtKind expr_step roll-TypeExpr roll-Call (place_step put_nothing) stmt_step (parts_of_param y) ∙ ap roll-Param (same_param y)

stays_body : (y : KeptLayer Body-F) → body_substituted put_nothing (roll-Body (parts_of_body y)) ≡ roll-Body (parts_of_body y)
stays_body y = fold-roll-Body ExprKind Modifier Operand Value Item Param Body Range StmtKind Expr TypeExpr Call Place Stmt (kind_step put_nothing) roll-Modifier roll-Operand roll-Value roll-Item roll-Param roll-Body roll-Range roll-StmtKind expr_step roll-TypeExpr roll-Call (place_step put_nothing) stmt_step (parts_of_body y) ∙ ap roll-Body (same_body y)

stays_range : (y : KeptLayer Range-F) → range_substituted put_nothing (roll-Range (parts_of_range y)) ≡ roll-Range (parts_of_range y)
stays_range y = fold-roll-Range ExprKind Modifier Operand Value Item Param Body Range StmtKind Expr TypeExpr Call Place Stmt (kind_step put_nothing) roll-Modifier roll-Operand roll-Value roll-Item roll-Param roll-Body roll-Range roll-StmtKind expr_step roll-TypeExpr roll-Call (place_step put_nothing) stmt_step (parts_of_range y) ∙ ap roll-Range (same_range y)

stays_stmt_kind : (y : KeptLayer StmtKind-F) → stmt_kind_substituted put_nothing (roll-StmtKind (parts_of_stmt_kind y)) ≡ roll-StmtKind (parts_of_stmt_kind y)
stays_stmt_kind y = fold-roll-StmtKind ExprKind Modifier Operand Value Item Param Body Range StmtKind Expr TypeExpr Call Place Stmt (kind_step put_nothing) roll-Modifier roll-Operand roll-Value roll-Item roll-Param roll-Body roll-Range roll-StmtKind expr_step roll-TypeExpr roll-Call (place_step put_nothing) stmt_step (parts_of_stmt_kind y) ∙ ap roll-StmtKind (same_stmt_kind y)

stays_expr : (y : KeptLayer Expr-F) → substituted put_nothing (roll-Expr (parts_of_expr y)) ≡ roll-Expr (parts_of_expr y)
stays_expr y = fold-roll-Expr ExprKind Modifier Operand Value Item Param Body Range StmtKind Expr TypeExpr Call Place Stmt (kind_step put_nothing) roll-Modifier roll-Operand roll-Value roll-Item roll-Param roll-Body roll-Range roll-StmtKind expr_step roll-TypeExpr roll-Call (place_step put_nothing) stmt_step (parts_of_expr y) ∙ ap roll-Expr (same_expr y)

stays_type : (y : KeptLayer TypeExpr-F) → type_substituted put_nothing (roll-TypeExpr (parts_of_type y)) ≡ roll-TypeExpr (parts_of_type y)
stays_type y = fold-roll-TypeExpr ExprKind Modifier Operand Value Item Param Body Range StmtKind Expr TypeExpr Call Place Stmt (kind_step put_nothing) roll-Modifier roll-Operand roll-Value roll-Item roll-Param roll-Body roll-Range roll-StmtKind expr_step roll-TypeExpr roll-Call (place_step put_nothing) stmt_step (parts_of_type y) ∙ ap roll-TypeExpr (same_type y)

stays_call : (y : KeptLayer Call-F) → call_substituted put_nothing (roll-Call (parts_of_call y)) ≡ roll-Call (parts_of_call y)
stays_call y = fold-roll-Call ExprKind Modifier Operand Value Item Param Body Range StmtKind Expr TypeExpr Call Place Stmt (kind_step put_nothing) roll-Modifier roll-Operand roll-Value roll-Item roll-Param roll-Body roll-Range roll-StmtKind expr_step roll-TypeExpr roll-Call (place_step put_nothing) stmt_step (parts_of_call y) ∙ ap roll-Call (same_call y)

stays_place : (y : KeptLayer Place-F) → place_substituted put_nothing (roll-Place (parts_of_place y)) ≡ roll-Place (parts_of_place y)
stays_place y = fold-roll-Place ExprKind Modifier Operand Value Item Param Body Range StmtKind Expr TypeExpr Call Place Stmt (kind_step put_nothing) roll-Modifier roll-Operand roll-Value roll-Item roll-Param roll-Body roll-Range roll-StmtKind expr_step roll-TypeExpr roll-Call (place_step put_nothing) stmt_step (parts_of_place y) ∙ step_place (all_of_place (parts_of_place y)) ∙ ap roll-Place (same_place y)

stays_stmt : (y : KeptLayer Stmt-F) → stmt_substituted put_nothing (roll-Stmt (parts_of_stmt y)) ≡ roll-Stmt (parts_of_stmt y)
stays_stmt y = fold-roll-Stmt ExprKind Modifier Operand Value Item Param Body Range StmtKind Expr TypeExpr Call Place Stmt (kind_step put_nothing) roll-Modifier roll-Operand roll-Value roll-Item roll-Param roll-Body roll-Range roll-StmtKind expr_step roll-TypeExpr roll-Call (place_step put_nothing) stmt_step (parts_of_stmt y) ∙ ap roll-Stmt (same_stmt y)

-- an expression that nothing is put into stays
pub kept : (e : Expr) → substituted put_nothing e ≡ e
kept = ind-Expr (λ t. kind_substituted put_nothing t ≡ t) (λ t. modifier_substituted put_nothing t ≡ t) (λ t. operand_substituted put_nothing t ≡ t) (λ t. value_substituted put_nothing t ≡ t) (λ t. item_substituted put_nothing t ≡ t) (λ t. param_substituted put_nothing t ≡ t) (λ t. body_substituted put_nothing t ≡ t) (λ t. range_substituted put_nothing t ≡ t) (λ t. stmt_kind_substituted put_nothing t ≡ t) (λ t. substituted put_nothing t ≡ t) (λ t. type_substituted put_nothing t ≡ t) (λ t. call_substituted put_nothing t ≡ t) (λ t. place_substituted put_nothing t ≡ t) (λ t. stmt_substituted put_nothing t ≡ t) (λ x y is. subst (λ z. kind_substituted put_nothing (roll-ExprKind z) ≡ roll-ExprKind z) is (stays_kind y)) (λ x y is. subst (λ z. modifier_substituted put_nothing (roll-Modifier z) ≡ roll-Modifier z) is (stays_modifier y)) (λ x y is. subst (λ z. operand_substituted put_nothing (roll-Operand z) ≡ roll-Operand z) is (stays_operand y)) (λ x y is. subst (λ z. value_substituted put_nothing (roll-Value z) ≡ roll-Value z) is (stays_value y)) (λ x y is. subst (λ z. item_substituted put_nothing (roll-Item z) ≡ roll-Item z) is (stays_item y)) (λ x y is. subst (λ z. param_substituted put_nothing (roll-Param z) ≡ roll-Param z) is (stays_param y)) (λ x y is. subst (λ z. body_substituted put_nothing (roll-Body z) ≡ roll-Body z) is (stays_body y)) (λ x y is. subst (λ z. range_substituted put_nothing (roll-Range z) ≡ roll-Range z) is (stays_range y)) (λ x y is. subst (λ z. stmt_kind_substituted put_nothing (roll-StmtKind z) ≡ roll-StmtKind z) is (stays_stmt_kind y)) (λ x y is. subst (λ z. substituted put_nothing (roll-Expr z) ≡ roll-Expr z) is (stays_expr y)) (λ x y is. subst (λ z. type_substituted put_nothing (roll-TypeExpr z) ≡ roll-TypeExpr z) is (stays_type y)) (λ x y is. subst (λ z. call_substituted put_nothing (roll-Call z) ≡ roll-Call z) is (stays_call y)) (λ x y is. subst (λ z. place_substituted put_nothing (roll-Place z) ≡ roll-Place z) is (stays_place y)) (λ x y is. subst (λ z. stmt_substituted put_nothing (roll-Stmt z) ≡ roll-Stmt z) is (stays_stmt y))

-- what it is stays too
pub kind_kept : (k : ExprKind) → kind_substituted put_nothing k ≡ k
kind_kept = ind-ExprKind (λ t. kind_substituted put_nothing t ≡ t) (λ t. modifier_substituted put_nothing t ≡ t) (λ t. operand_substituted put_nothing t ≡ t) (λ t. value_substituted put_nothing t ≡ t) (λ t. item_substituted put_nothing t ≡ t) (λ t. param_substituted put_nothing t ≡ t) (λ t. body_substituted put_nothing t ≡ t) (λ t. range_substituted put_nothing t ≡ t) (λ t. stmt_kind_substituted put_nothing t ≡ t) (λ t. substituted put_nothing t ≡ t) (λ t. type_substituted put_nothing t ≡ t) (λ t. call_substituted put_nothing t ≡ t) (λ t. place_substituted put_nothing t ≡ t) (λ t. stmt_substituted put_nothing t ≡ t) (λ x y is. subst (λ z. kind_substituted put_nothing (roll-ExprKind z) ≡ roll-ExprKind z) is (stays_kind y)) (λ x y is. subst (λ z. modifier_substituted put_nothing (roll-Modifier z) ≡ roll-Modifier z) is (stays_modifier y)) (λ x y is. subst (λ z. operand_substituted put_nothing (roll-Operand z) ≡ roll-Operand z) is (stays_operand y)) (λ x y is. subst (λ z. value_substituted put_nothing (roll-Value z) ≡ roll-Value z) is (stays_value y)) (λ x y is. subst (λ z. item_substituted put_nothing (roll-Item z) ≡ roll-Item z) is (stays_item y)) (λ x y is. subst (λ z. param_substituted put_nothing (roll-Param z) ≡ roll-Param z) is (stays_param y)) (λ x y is. subst (λ z. body_substituted put_nothing (roll-Body z) ≡ roll-Body z) is (stays_body y)) (λ x y is. subst (λ z. range_substituted put_nothing (roll-Range z) ≡ roll-Range z) is (stays_range y)) (λ x y is. subst (λ z. stmt_kind_substituted put_nothing (roll-StmtKind z) ≡ roll-StmtKind z) is (stays_stmt_kind y)) (λ x y is. subst (λ z. substituted put_nothing (roll-Expr z) ≡ roll-Expr z) is (stays_expr y)) (λ x y is. subst (λ z. type_substituted put_nothing (roll-TypeExpr z) ≡ roll-TypeExpr z) is (stays_type y)) (λ x y is. subst (λ z. call_substituted put_nothing (roll-Call z) ≡ roll-Call z) is (stays_call y)) (λ x y is. subst (λ z. place_substituted put_nothing (roll-Place z) ≡ roll-Place z) is (stays_place y)) (λ x y is. subst (λ z. stmt_substituted put_nothing (roll-Stmt z) ≡ roll-Stmt z) is (stays_stmt y))
