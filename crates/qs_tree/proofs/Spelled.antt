-- What each kind of a tree is spelled by: the pieces of its parts in their places.
use Rattle.std.proofs.Common.{◌≡◌, ℕ, List, ◌++◌, Bool, map, option_map, Option, Some, None, sym, ap, ◌∙◌}
use Rattle.qs_values.specs.declared.number.Frac.{Frac}
use Rattle.qs_values.specs.declared.number.Num.{Num}
use Rattle.qs_values.specs.declared.span.Span.{Span}
use Rattle.qs_lexer.specs.declared.token.Unit.{Unit as TimeUnit}
use Rattle.qs_tree.specs.declared.assign.AssignOp.{AssignOp}
use Rattle.qs_tree.specs.declared.operator.UnOp.{UnOp}
use Rattle.qs_tree.specs.declared.operator.BinOp.{BinOp}
use Rattle.qs_tree.specs.declared.name.Ident.{Ident}
use Rattle.qs_tree.specs.declared.expr.TypeWord.{TypeWord}
use Rattle.qs_tree.specs.declared.pulse.CalName.{CalName}
use Rattle.qs_tree.specs.declared.expr.Expr.{Expr}
use Rattle.qs_tree.specs.declared.expr.TypeExpr.{TypeExpr, roll-TypeExpr}
use Rattle.qs_tree.specs.declared.gate.Call.{Call as Called, roll-Call}
use Rattle.qs_tree.specs.declared.gate.Modifier.{Modifier}
use Rattle.qs_tree.specs.declared.operand.Place.{Place, roll-Place}
use Rattle.qs_tree.specs.declared.operand.Operand.{Operand}
use Rattle.qs_tree.specs.declared.operand.Value.{Value}
use Rattle.qs_tree.specs.declared.pulse.Param.{Param}
use Rattle.qs_tree.specs.declared.pulse.Item.{Item}
use Rattle.qs_tree.specs.declared.statement.Stmt.{Stmt}
use Rattle.qs_tree.specs.declared.statement.Body.{Body}
use Rattle.qs_tree.specs.declared.statement.Range.{Range}
use Rattle.qs_tree.specs.declared.expr.ExprKind.TheOpen as layer
use Rattle.qs_tree.specs.declared.expr.ExprKind.TheVariants.{Whole, Decimal, Time, Text, Truth, Name, Index, Physical, Call, Cast, DurationOf, Group, Unary, Binary, Number, rolls-Whole, rolls-Decimal, rolls-Time, rolls-Text, rolls-Truth, rolls-Name, rolls-Index, rolls-Physical, rolls-Call, rolls-Cast, rolls-DurationOf, rolls-Group, rolls-Unary, rolls-Binary, rolls-Number}
use Rattle.qs_tree.specs.declared.gate.Modifier.TheVariants.{Inv, Pow, Ctrl, NegCtrl, rolls-Inv, rolls-Pow, rolls-Ctrl, rolls-NegCtrl}
use Rattle.qs_tree.specs.declared.operand.Operand.TheVariants.{Named, PhysicalQubit, rolls-Named, rolls-PhysicalQubit}
use Rattle.qs_tree.specs.declared.operand.Value.TheVariants.{Expression, Measurement, rolls-Expression, rolls-Measurement}
use Rattle.qs_tree.specs.declared.pulse.Item.TheVariants.{Port, ExternFrame, ExternWaveform, Frame, Return, Statement, rolls-Port, rolls-ExternFrame, rolls-ExternWaveform, rolls-Frame, rolls-Return, rolls-Statement}
use Rattle.qs_tree.specs.declared.pulse.Param.TheVariants.{Free, Fixed, rolls-Free, rolls-Fixed}
use Rattle.qs_tree.specs.declared.statement.Body.TheVariants.{One, Braces, rolls-One, rolls-Braces}
use Rattle.qs_tree.specs.declared.statement.Range.TheVariants.{Interval, Set, rolls-Interval, rolls-Set}
use Rattle.qs_tree.specs.declared.statement.StmtKind.TheVariants.{Include, DefcalGrammar, Qubit as QubitStmt, Input, Output, Gate, Cal, Defcal, Init, Declare, Stretch, GateCall, Assign, Update, Measure, Reset, Barrier, Delay, Box, If, While, For, Break, Continue, End, rolls-Include, rolls-DefcalGrammar, rolls-Qubit, rolls-Input, rolls-Output, rolls-Gate, rolls-Cal, rolls-Defcal, rolls-Init, rolls-Declare, rolls-Stretch, rolls-GateCall, rolls-Assign, rolls-Update, rolls-Measure, rolls-Reset, rolls-Barrier, rolls-Delay, rolls-Box, rolls-If, rolls-While, rolls-For, rolls-Break, rolls-Continue, rolls-End}
use Rattle.qs_tree.specs.declared.expr.ExprKind.TheFolds.{fold-roll-ExprKind, fold-roll-Modifier, fold-roll-Operand, fold-roll-Value, fold-roll-Item, fold-roll-Param, fold-roll-Body, fold-roll-Range, fold-roll-StmtKind, fold_out-Expr, fold_out-Stmt, fold-roll-Place, fold-roll-TypeExpr, fold-roll-Call}
use Rattle.qs_tree.specs.Spelling.{Piece, at_place, joined, name, word, word_of_type, if_there, in_round, in_square, with_commas, body_step, call_step, expr_step, item_step, kind_step, modifier_step, operand_step, param_step, place_step, range_step, spell, spell_body, spell_call, spell_item, spell_kind, spell_modifier, spell_operand, spell_param, spell_place, spell_range, spell_stmt, spell_stmt_kind, spell_type, spell_value, stmt_kind_step, stmt_step, type_step, value_step}

-- ---- what an expression is

pub spell-Whole : (value : ℕ) → spell_kind (Whole value) ≡ kind_step (layer.Whole value)
spell-Whole value =
    ap spell_kind (sym (rolls-Whole value)) ∙ fold-roll-ExprKind (List Piece) (List Piece) (List Piece) (List Piece) (List Piece) (List Piece) (List Piece) (List Piece) (List Piece) (List Piece) (List Piece) (List Piece) (List Piece) (List Piece) kind_step modifier_step operand_step value_step item_step param_step body_step range_step stmt_kind_step expr_step type_step call_step place_step stmt_step (layer.Whole value)

pub spell-Decimal : (value : Frac) → spell_kind (Decimal value) ≡ kind_step (layer.Decimal value)
spell-Decimal value =
    ap spell_kind (sym (rolls-Decimal value)) ∙ fold-roll-ExprKind (List Piece) (List Piece) (List Piece) (List Piece) (List Piece) (List Piece) (List Piece) (List Piece) (List Piece) (List Piece) (List Piece) (List Piece) (List Piece) (List Piece) kind_step modifier_step operand_step value_step item_step param_step body_step range_step stmt_kind_step expr_step type_step call_step place_step stmt_step (layer.Decimal value)

pub spell-Time : (value : Frac) (unit : TimeUnit) → spell_kind (Time value unit) ≡ kind_step (layer.Time value unit)
spell-Time value unit =
    ap spell_kind (sym (rolls-Time value unit)) ∙ fold-roll-ExprKind (List Piece) (List Piece) (List Piece) (List Piece) (List Piece) (List Piece) (List Piece) (List Piece) (List Piece) (List Piece) (List Piece) (List Piece) (List Piece) (List Piece) kind_step modifier_step operand_step value_step item_step param_step body_step range_step stmt_kind_step expr_step type_step call_step place_step stmt_step (layer.Time value unit)

pub spell-Text : (text : List ℕ) → spell_kind (Text text) ≡ kind_step (layer.Text text)
spell-Text text =
    ap spell_kind (sym (rolls-Text text)) ∙ fold-roll-ExprKind (List Piece) (List Piece) (List Piece) (List Piece) (List Piece) (List Piece) (List Piece) (List Piece) (List Piece) (List Piece) (List Piece) (List Piece) (List Piece) (List Piece) kind_step modifier_step operand_step value_step item_step param_step body_step range_step stmt_kind_step expr_step type_step call_step place_step stmt_step (layer.Text text)

pub spell-Truth : (value : Bool) → spell_kind (Truth value) ≡ kind_step (layer.Truth value)
spell-Truth value =
    ap spell_kind (sym (rolls-Truth value)) ∙ fold-roll-ExprKind (List Piece) (List Piece) (List Piece) (List Piece) (List Piece) (List Piece) (List Piece) (List Piece) (List Piece) (List Piece) (List Piece) (List Piece) (List Piece) (List Piece) kind_step modifier_step operand_step value_step item_step param_step body_step range_step stmt_kind_step expr_step type_step call_step place_step stmt_step (layer.Truth value)

pub spell-Name : (n : List ℕ) → spell_kind (Name n) ≡ kind_step (layer.Name n)
spell-Name n =
    ap spell_kind (sym (rolls-Name n)) ∙ fold-roll-ExprKind (List Piece) (List Piece) (List Piece) (List Piece) (List Piece) (List Piece) (List Piece) (List Piece) (List Piece) (List Piece) (List Piece) (List Piece) (List Piece) (List Piece) kind_step modifier_step operand_step value_step item_step param_step body_step range_step stmt_kind_step expr_step type_step call_step place_step stmt_step (layer.Name n)

pub spell-Index : (n : List ℕ) (index : Expr) → spell_kind (Index n index) ≡ kind_step (layer.Index n (spell index))
spell-Index n index =
    ap spell_kind (sym (rolls-Index n index)) ∙ fold-roll-ExprKind (List Piece) (List Piece) (List Piece) (List Piece) (List Piece) (List Piece) (List Piece) (List Piece) (List Piece) (List Piece) (List Piece) (List Piece) (List Piece) (List Piece) kind_step modifier_step operand_step value_step item_step param_step body_step range_step stmt_kind_step expr_step type_step call_step place_step stmt_step (layer.Index n index)

pub spell-Physical : (number : ℕ) → spell_kind (Physical number) ≡ kind_step (layer.Physical number)
spell-Physical number =
    ap spell_kind (sym (rolls-Physical number)) ∙ fold-roll-ExprKind (List Piece) (List Piece) (List Piece) (List Piece) (List Piece) (List Piece) (List Piece) (List Piece) (List Piece) (List Piece) (List Piece) (List Piece) (List Piece) (List Piece) kind_step modifier_step operand_step value_step item_step param_step body_step range_step stmt_kind_step expr_step type_step call_step place_step stmt_step (layer.Physical number)

pub spell-Call : (n : List ℕ) (args : List Expr) → spell_kind (Call n args) ≡ kind_step (layer.Call n (map spell args))
spell-Call n args =
    ap spell_kind (sym (rolls-Call n args)) ∙ fold-roll-ExprKind (List Piece) (List Piece) (List Piece) (List Piece) (List Piece) (List Piece) (List Piece) (List Piece) (List Piece) (List Piece) (List Piece) (List Piece) (List Piece) (List Piece) kind_step modifier_step operand_step value_step item_step param_step body_step range_step stmt_kind_step expr_step type_step call_step place_step stmt_step (layer.Call n args)

pub spell-Cast : (type : TypeExpr) (operand : Expr) → spell_kind (Cast type operand) ≡ kind_step (layer.Cast (spell_type type) (spell operand))
spell-Cast type operand =
    ap spell_kind (sym (rolls-Cast type operand)) ∙ fold-roll-ExprKind (List Piece) (List Piece) (List Piece) (List Piece) (List Piece) (List Piece) (List Piece) (List Piece) (List Piece) (List Piece) (List Piece) (List Piece) (List Piece) (List Piece) kind_step modifier_step operand_step value_step item_step param_step body_step range_step stmt_kind_step expr_step type_step call_step place_step stmt_step (layer.Cast type operand)

pub spell-DurationOf : (body : List Stmt) → spell_kind (DurationOf body) ≡ kind_step (layer.DurationOf (map spell_stmt body))
spell-DurationOf body =
    ap spell_kind (sym (rolls-DurationOf body)) ∙ fold-roll-ExprKind (List Piece) (List Piece) (List Piece) (List Piece) (List Piece) (List Piece) (List Piece) (List Piece) (List Piece) (List Piece) (List Piece) (List Piece) (List Piece) (List Piece) kind_step modifier_step operand_step value_step item_step param_step body_step range_step stmt_kind_step expr_step type_step call_step place_step stmt_step (layer.DurationOf body)

pub spell-Group : (inner : Expr) → spell_kind (Group inner) ≡ kind_step (layer.Group (spell inner))
spell-Group inner =
    ap spell_kind (sym (rolls-Group inner)) ∙ fold-roll-ExprKind (List Piece) (List Piece) (List Piece) (List Piece) (List Piece) (List Piece) (List Piece) (List Piece) (List Piece) (List Piece) (List Piece) (List Piece) (List Piece) (List Piece) kind_step modifier_step operand_step value_step item_step param_step body_step range_step stmt_kind_step expr_step type_step call_step place_step stmt_step (layer.Group inner)

pub spell-Unary : (op : UnOp) (operand : Expr) → spell_kind (Unary op operand) ≡ kind_step (layer.Unary op (spell operand))
spell-Unary op operand =
    ap spell_kind (sym (rolls-Unary op operand)) ∙ fold-roll-ExprKind (List Piece) (List Piece) (List Piece) (List Piece) (List Piece) (List Piece) (List Piece) (List Piece) (List Piece) (List Piece) (List Piece) (List Piece) (List Piece) (List Piece) kind_step modifier_step operand_step value_step item_step param_step body_step range_step stmt_kind_step expr_step type_step call_step place_step stmt_step (layer.Unary op operand)

pub spell-Binary : (left : Expr) (op : BinOp) (right : Expr) → spell_kind (Binary left op right) ≡ kind_step (layer.Binary (spell left) op (spell right))
spell-Binary left op right =
    ap spell_kind (sym (rolls-Binary left op right)) ∙ fold-roll-ExprKind (List Piece) (List Piece) (List Piece) (List Piece) (List Piece) (List Piece) (List Piece) (List Piece) (List Piece) (List Piece) (List Piece) (List Piece) (List Piece) (List Piece) kind_step modifier_step operand_step value_step item_step param_step body_step range_step stmt_kind_step expr_step type_step call_step place_step stmt_step (layer.Binary left op right)

pub spell-Number : (value : Num) → spell_kind (Number value) ≡ kind_step (layer.Number value)
spell-Number value =
    ap spell_kind (sym (rolls-Number value)) ∙ fold-roll-ExprKind (List Piece) (List Piece) (List Piece) (List Piece) (List Piece) (List Piece) (List Piece) (List Piece) (List Piece) (List Piece) (List Piece) (List Piece) (List Piece) (List Piece) kind_step modifier_step operand_step value_step item_step param_step body_step range_step stmt_kind_step expr_step type_step call_step place_step stmt_step (layer.Number value)

-- ---- a modifier

pub spell-Inv : spell_modifier Inv ≡ modifier_step layer.Inv
spell-Inv =
    ap spell_modifier (sym rolls-Inv) ∙ fold-roll-Modifier (List Piece) (List Piece) (List Piece) (List Piece) (List Piece) (List Piece) (List Piece) (List Piece) (List Piece) (List Piece) (List Piece) (List Piece) (List Piece) (List Piece) kind_step modifier_step operand_step value_step item_step param_step body_step range_step stmt_kind_step expr_step type_step call_step place_step stmt_step layer.Inv

pub spell-Pow : (exponent : Expr) → spell_modifier (Pow exponent) ≡ modifier_step (layer.Pow (spell exponent))
spell-Pow exponent =
    ap spell_modifier (sym (rolls-Pow exponent)) ∙ fold-roll-Modifier (List Piece) (List Piece) (List Piece) (List Piece) (List Piece) (List Piece) (List Piece) (List Piece) (List Piece) (List Piece) (List Piece) (List Piece) (List Piece) (List Piece) kind_step modifier_step operand_step value_step item_step param_step body_step range_step stmt_kind_step expr_step type_step call_step place_step stmt_step (layer.Pow exponent)

pub spell-Ctrl : (count : Option Expr) → spell_modifier (Ctrl count) ≡ modifier_step (layer.Ctrl (option_map spell count))
spell-Ctrl None =
    ap spell_modifier (sym (rolls-Ctrl None)) ∙ fold-roll-Modifier (List Piece) (List Piece) (List Piece) (List Piece) (List Piece) (List Piece) (List Piece) (List Piece) (List Piece) (List Piece) (List Piece) (List Piece) (List Piece) (List Piece) kind_step modifier_step operand_step value_step item_step param_step body_step range_step stmt_kind_step expr_step type_step call_step place_step stmt_step (layer.Ctrl None)
spell-Ctrl (Some count) =
    ap spell_modifier (sym (rolls-Ctrl (Some count))) ∙ fold-roll-Modifier (List Piece) (List Piece) (List Piece) (List Piece) (List Piece) (List Piece) (List Piece) (List Piece) (List Piece) (List Piece) (List Piece) (List Piece) (List Piece) (List Piece) kind_step modifier_step operand_step value_step item_step param_step body_step range_step stmt_kind_step expr_step type_step call_step place_step stmt_step (layer.Ctrl (Some count))

pub spell-NegCtrl : (count : Option Expr) → spell_modifier (NegCtrl count) ≡ modifier_step (layer.NegCtrl (option_map spell count))
spell-NegCtrl None =
    ap spell_modifier (sym (rolls-NegCtrl None)) ∙ fold-roll-Modifier (List Piece) (List Piece) (List Piece) (List Piece) (List Piece) (List Piece) (List Piece) (List Piece) (List Piece) (List Piece) (List Piece) (List Piece) (List Piece) (List Piece) kind_step modifier_step operand_step value_step item_step param_step body_step range_step stmt_kind_step expr_step type_step call_step place_step stmt_step (layer.NegCtrl None)
spell-NegCtrl (Some count) =
    ap spell_modifier (sym (rolls-NegCtrl (Some count))) ∙ fold-roll-Modifier (List Piece) (List Piece) (List Piece) (List Piece) (List Piece) (List Piece) (List Piece) (List Piece) (List Piece) (List Piece) (List Piece) (List Piece) (List Piece) (List Piece) kind_step modifier_step operand_step value_step item_step param_step body_step range_step stmt_kind_step expr_step type_step call_step place_step stmt_step (layer.NegCtrl (Some count))

-- ---- an operand

pub spell-Named : (p : Place) → spell_operand (Named p) ≡ operand_step (layer.Named (spell_place p))
spell-Named p =
    ap spell_operand (sym (rolls-Named p)) ∙ fold-roll-Operand (List Piece) (List Piece) (List Piece) (List Piece) (List Piece) (List Piece) (List Piece) (List Piece) (List Piece) (List Piece) (List Piece) (List Piece) (List Piece) (List Piece) kind_step modifier_step operand_step value_step item_step param_step body_step range_step stmt_kind_step expr_step type_step call_step place_step stmt_step (layer.Named p)

pub spell-PhysicalQubit : (span : Span) (number : ℕ) → spell_operand (PhysicalQubit span number) ≡ operand_step (layer.PhysicalQubit span number)
spell-PhysicalQubit span number =
    ap spell_operand (sym (rolls-PhysicalQubit span number)) ∙ fold-roll-Operand (List Piece) (List Piece) (List Piece) (List Piece) (List Piece) (List Piece) (List Piece) (List Piece) (List Piece) (List Piece) (List Piece) (List Piece) (List Piece) (List Piece) kind_step modifier_step operand_step value_step item_step param_step body_step range_step stmt_kind_step expr_step type_step call_step place_step stmt_step (layer.PhysicalQubit span number)

-- ---- a value

pub spell-Expression : (e : Expr) → spell_value (Expression e) ≡ value_step (layer.Expression (spell e))
spell-Expression e =
    ap spell_value (sym (rolls-Expression e)) ∙ fold-roll-Value (List Piece) (List Piece) (List Piece) (List Piece) (List Piece) (List Piece) (List Piece) (List Piece) (List Piece) (List Piece) (List Piece) (List Piece) (List Piece) (List Piece) kind_step modifier_step operand_step value_step item_step param_step body_step range_step stmt_kind_step expr_step type_step call_step place_step stmt_step (layer.Expression e)

pub spell-Measurement : (o : Operand) → spell_value (Measurement o) ≡ value_step (layer.Measurement (spell_operand o))
spell-Measurement o =
    ap spell_value (sym (rolls-Measurement o)) ∙ fold-roll-Value (List Piece) (List Piece) (List Piece) (List Piece) (List Piece) (List Piece) (List Piece) (List Piece) (List Piece) (List Piece) (List Piece) (List Piece) (List Piece) (List Piece) kind_step modifier_step operand_step value_step item_step param_step body_step range_step stmt_kind_step expr_step type_step call_step place_step stmt_step (layer.Measurement o)

-- ---- an item of a calibration

pub spell-Port : (span : Span) (extern : Bool) (n : Ident) → spell_item (Port span extern n) ≡ item_step (layer.Port span extern n)
spell-Port span extern n =
    ap spell_item (sym (rolls-Port span extern n)) ∙ fold-roll-Item (List Piece) (List Piece) (List Piece) (List Piece) (List Piece) (List Piece) (List Piece) (List Piece) (List Piece) (List Piece) (List Piece) (List Piece) (List Piece) (List Piece) kind_step modifier_step operand_step value_step item_step param_step body_step range_step stmt_kind_step expr_step type_step call_step place_step stmt_step (layer.Port span extern n)

pub spell-ExternFrame : (span : Span) (n : Ident) → spell_item (ExternFrame span n) ≡ item_step (layer.ExternFrame span n)
spell-ExternFrame span n =
    ap spell_item (sym (rolls-ExternFrame span n)) ∙ fold-roll-Item (List Piece) (List Piece) (List Piece) (List Piece) (List Piece) (List Piece) (List Piece) (List Piece) (List Piece) (List Piece) (List Piece) (List Piece) (List Piece) (List Piece) kind_step modifier_step operand_step value_step item_step param_step body_step range_step stmt_kind_step expr_step type_step call_step place_step stmt_step (layer.ExternFrame span n)

pub spell-ExternWaveform : (span : Span) (n : Ident) → spell_item (ExternWaveform span n) ≡ item_step (layer.ExternWaveform span n)
spell-ExternWaveform span n =
    ap spell_item (sym (rolls-ExternWaveform span n)) ∙ fold-roll-Item (List Piece) (List Piece) (List Piece) (List Piece) (List Piece) (List Piece) (List Piece) (List Piece) (List Piece) (List Piece) (List Piece) (List Piece) (List Piece) (List Piece) kind_step modifier_step operand_step value_step item_step param_step body_step range_step stmt_kind_step expr_step type_step call_step place_step stmt_step (layer.ExternWaveform span n)

pub spell-Frame : (span : Span) (n : Ident) (e : Expr) → spell_item (Frame span n e) ≡ item_step (layer.Frame span n (spell e))
spell-Frame span n e =
    ap spell_item (sym (rolls-Frame span n e)) ∙ fold-roll-Item (List Piece) (List Piece) (List Piece) (List Piece) (List Piece) (List Piece) (List Piece) (List Piece) (List Piece) (List Piece) (List Piece) (List Piece) (List Piece) (List Piece) kind_step modifier_step operand_step value_step item_step param_step body_step range_step stmt_kind_step expr_step type_step call_step place_step stmt_step (layer.Frame span n e)

pub spell-Return : (span : Span) (e : Expr) → spell_item (Return span e) ≡ item_step (layer.Return span (spell e))
spell-Return span e =
    ap spell_item (sym (rolls-Return span e)) ∙ fold-roll-Item (List Piece) (List Piece) (List Piece) (List Piece) (List Piece) (List Piece) (List Piece) (List Piece) (List Piece) (List Piece) (List Piece) (List Piece) (List Piece) (List Piece) kind_step modifier_step operand_step value_step item_step param_step body_step range_step stmt_kind_step expr_step type_step call_step place_step stmt_step (layer.Return span e)

pub spell-Statement : (s : Stmt) → spell_item (Statement s) ≡ item_step (layer.Statement (spell_stmt s))
spell-Statement s =
    ap spell_item (sym (rolls-Statement s)) ∙ fold-roll-Item (List Piece) (List Piece) (List Piece) (List Piece) (List Piece) (List Piece) (List Piece) (List Piece) (List Piece) (List Piece) (List Piece) (List Piece) (List Piece) (List Piece) kind_step modifier_step operand_step value_step item_step param_step body_step range_step stmt_kind_step expr_step type_step call_step place_step stmt_step (layer.Statement s)

-- ---- a parameter of a calibration

pub spell-Free : (type : TypeExpr) (n : Ident) → spell_param (Free type n) ≡ param_step (layer.Free (spell_type type) n)
spell-Free type n =
    ap spell_param (sym (rolls-Free type n)) ∙ fold-roll-Param (List Piece) (List Piece) (List Piece) (List Piece) (List Piece) (List Piece) (List Piece) (List Piece) (List Piece) (List Piece) (List Piece) (List Piece) (List Piece) (List Piece) kind_step modifier_step operand_step value_step item_step param_step body_step range_step stmt_kind_step expr_step type_step call_step place_step stmt_step (layer.Free type n)

pub spell-Fixed : (e : Expr) → spell_param (Fixed e) ≡ param_step (layer.Fixed (spell e))
spell-Fixed e =
    ap spell_param (sym (rolls-Fixed e)) ∙ fold-roll-Param (List Piece) (List Piece) (List Piece) (List Piece) (List Piece) (List Piece) (List Piece) (List Piece) (List Piece) (List Piece) (List Piece) (List Piece) (List Piece) (List Piece) kind_step modifier_step operand_step value_step item_step param_step body_step range_step stmt_kind_step expr_step type_step call_step place_step stmt_step (layer.Fixed e)

-- ---- a body

pub spell-One : (s : Stmt) → spell_body (One s) ≡ body_step (layer.One (spell_stmt s))
spell-One s =
    ap spell_body (sym (rolls-One s)) ∙ fold-roll-Body (List Piece) (List Piece) (List Piece) (List Piece) (List Piece) (List Piece) (List Piece) (List Piece) (List Piece) (List Piece) (List Piece) (List Piece) (List Piece) (List Piece) kind_step modifier_step operand_step value_step item_step param_step body_step range_step stmt_kind_step expr_step type_step call_step place_step stmt_step (layer.One s)

pub spell-Braces : (ss : List Stmt) → spell_body (Braces ss) ≡ body_step (layer.Braces (map spell_stmt ss))
spell-Braces ss =
    ap spell_body (sym (rolls-Braces ss)) ∙ fold-roll-Body (List Piece) (List Piece) (List Piece) (List Piece) (List Piece) (List Piece) (List Piece) (List Piece) (List Piece) (List Piece) (List Piece) (List Piece) (List Piece) (List Piece) kind_step modifier_step operand_step value_step item_step param_step body_step range_step stmt_kind_step expr_step type_step call_step place_step stmt_step (layer.Braces ss)

-- ---- a range

pub spell-Interval : (span : Span) (first : Expr) (step : Option Expr) (last : Expr) → spell_range (Interval span first step last) ≡ range_step (layer.Interval span (spell first) (option_map spell step) (spell last))
spell-Interval span first None last =
    ap spell_range (sym (rolls-Interval span first None last)) ∙ fold-roll-Range (List Piece) (List Piece) (List Piece) (List Piece) (List Piece) (List Piece) (List Piece) (List Piece) (List Piece) (List Piece) (List Piece) (List Piece) (List Piece) (List Piece) kind_step modifier_step operand_step value_step item_step param_step body_step range_step stmt_kind_step expr_step type_step call_step place_step stmt_step (layer.Interval span first None last)
spell-Interval span first (Some step) last =
    ap spell_range (sym (rolls-Interval span first (Some step) last)) ∙ fold-roll-Range (List Piece) (List Piece) (List Piece) (List Piece) (List Piece) (List Piece) (List Piece) (List Piece) (List Piece) (List Piece) (List Piece) (List Piece) (List Piece) (List Piece) kind_step modifier_step operand_step value_step item_step param_step body_step range_step stmt_kind_step expr_step type_step call_step place_step stmt_step (layer.Interval span first (Some step) last)

pub spell-Set : (span : Span) (members : List Expr) → spell_range (Set span members) ≡ range_step (layer.Set span (map spell members))
spell-Set span members =
    ap spell_range (sym (rolls-Set span members)) ∙ fold-roll-Range (List Piece) (List Piece) (List Piece) (List Piece) (List Piece) (List Piece) (List Piece) (List Piece) (List Piece) (List Piece) (List Piece) (List Piece) (List Piece) (List Piece) kind_step modifier_step operand_step value_step item_step param_step body_step range_step stmt_kind_step expr_step type_step call_step place_step stmt_step (layer.Set span members)

-- ---- what a statement is

pub spell-Include : (text : List ℕ) → spell_stmt_kind (Include text) ≡ stmt_kind_step (layer.Include text)
spell-Include text =
    ap spell_stmt_kind (sym (rolls-Include text)) ∙ fold-roll-StmtKind (List Piece) (List Piece) (List Piece) (List Piece) (List Piece) (List Piece) (List Piece) (List Piece) (List Piece) (List Piece) (List Piece) (List Piece) (List Piece) (List Piece) kind_step modifier_step operand_step value_step item_step param_step body_step range_step stmt_kind_step expr_step type_step call_step place_step stmt_step (layer.Include text)

pub spell-DefcalGrammar : (text : List ℕ) → spell_stmt_kind (DefcalGrammar text) ≡ stmt_kind_step (layer.DefcalGrammar text)
spell-DefcalGrammar text =
    ap spell_stmt_kind (sym (rolls-DefcalGrammar text)) ∙ fold-roll-StmtKind (List Piece) (List Piece) (List Piece) (List Piece) (List Piece) (List Piece) (List Piece) (List Piece) (List Piece) (List Piece) (List Piece) (List Piece) (List Piece) (List Piece) kind_step modifier_step operand_step value_step item_step param_step body_step range_step stmt_kind_step expr_step type_step call_step place_step stmt_step (layer.DefcalGrammar text)

pub spell-Qubit : (size : Option Expr) (n : Ident) → spell_stmt_kind (QubitStmt size n) ≡ stmt_kind_step (layer.Qubit (option_map spell size) n)
spell-Qubit None n =
    ap spell_stmt_kind (sym (rolls-Qubit None n)) ∙ fold-roll-StmtKind (List Piece) (List Piece) (List Piece) (List Piece) (List Piece) (List Piece) (List Piece) (List Piece) (List Piece) (List Piece) (List Piece) (List Piece) (List Piece) (List Piece) kind_step modifier_step operand_step value_step item_step param_step body_step range_step stmt_kind_step expr_step type_step call_step place_step stmt_step (layer.Qubit None n)
spell-Qubit (Some size) n =
    ap spell_stmt_kind (sym (rolls-Qubit (Some size) n)) ∙ fold-roll-StmtKind (List Piece) (List Piece) (List Piece) (List Piece) (List Piece) (List Piece) (List Piece) (List Piece) (List Piece) (List Piece) (List Piece) (List Piece) (List Piece) (List Piece) kind_step modifier_step operand_step value_step item_step param_step body_step range_step stmt_kind_step expr_step type_step call_step place_step stmt_step (layer.Qubit (Some size) n)

pub spell-Input : (type : TypeExpr) (n : Ident) → spell_stmt_kind (Input type n) ≡ stmt_kind_step (layer.Input (spell_type type) n)
spell-Input type n =
    ap spell_stmt_kind (sym (rolls-Input type n)) ∙ fold-roll-StmtKind (List Piece) (List Piece) (List Piece) (List Piece) (List Piece) (List Piece) (List Piece) (List Piece) (List Piece) (List Piece) (List Piece) (List Piece) (List Piece) (List Piece) kind_step modifier_step operand_step value_step item_step param_step body_step range_step stmt_kind_step expr_step type_step call_step place_step stmt_step (layer.Input type n)

pub spell-Output : (type : TypeExpr) (n : Ident) → spell_stmt_kind (Output type n) ≡ stmt_kind_step (layer.Output (spell_type type) n)
spell-Output type n =
    ap spell_stmt_kind (sym (rolls-Output type n)) ∙ fold-roll-StmtKind (List Piece) (List Piece) (List Piece) (List Piece) (List Piece) (List Piece) (List Piece) (List Piece) (List Piece) (List Piece) (List Piece) (List Piece) (List Piece) (List Piece) kind_step modifier_step operand_step value_step item_step param_step body_step range_step stmt_kind_step expr_step type_step call_step place_step stmt_step (layer.Output type n)

pub spell-Gate : (n : Ident) (params : Option (List Ident)) (qubits : List Ident) (calls : List Stmt) → spell_stmt_kind (Gate n params qubits calls) ≡ stmt_kind_step (layer.Gate n params qubits (map spell_stmt calls))
spell-Gate n params qubits calls =
    ap spell_stmt_kind (sym (rolls-Gate n params qubits calls)) ∙ fold-roll-StmtKind (List Piece) (List Piece) (List Piece) (List Piece) (List Piece) (List Piece) (List Piece) (List Piece) (List Piece) (List Piece) (List Piece) (List Piece) (List Piece) (List Piece) kind_step modifier_step operand_step value_step item_step param_step body_step range_step stmt_kind_step expr_step type_step call_step place_step stmt_step (layer.Gate n params qubits calls)

pub spell-Cal : (items : List Item) → spell_stmt_kind (Cal items) ≡ stmt_kind_step (layer.Cal (map spell_item items))
spell-Cal items =
    ap spell_stmt_kind (sym (rolls-Cal items)) ∙ fold-roll-StmtKind (List Piece) (List Piece) (List Piece) (List Piece) (List Piece) (List Piece) (List Piece) (List Piece) (List Piece) (List Piece) (List Piece) (List Piece) (List Piece) (List Piece) kind_step modifier_step operand_step value_step item_step param_step body_step range_step stmt_kind_step expr_step type_step call_step place_step stmt_step (layer.Cal items)

pub spell-Defcal : (n : CalName) (params : Option (List Param)) (operands : List Operand) (gives : Bool) (items : List Item) → spell_stmt_kind (Defcal n params operands gives items) ≡ stmt_kind_step (layer.Defcal n (option_map (map spell_param) params) (map spell_operand operands) gives (map spell_item items))
spell-Defcal n None operands gives items =
    ap spell_stmt_kind (sym (rolls-Defcal n None operands gives items)) ∙ fold-roll-StmtKind (List Piece) (List Piece) (List Piece) (List Piece) (List Piece) (List Piece) (List Piece) (List Piece) (List Piece) (List Piece) (List Piece) (List Piece) (List Piece) (List Piece) kind_step modifier_step operand_step value_step item_step param_step body_step range_step stmt_kind_step expr_step type_step call_step place_step stmt_step (layer.Defcal n None operands gives items)
spell-Defcal n (Some params) operands gives items =
    ap spell_stmt_kind (sym (rolls-Defcal n (Some params) operands gives items)) ∙ fold-roll-StmtKind (List Piece) (List Piece) (List Piece) (List Piece) (List Piece) (List Piece) (List Piece) (List Piece) (List Piece) (List Piece) (List Piece) (List Piece) (List Piece) (List Piece) kind_step modifier_step operand_step value_step item_step param_step body_step range_step stmt_kind_step expr_step type_step call_step place_step stmt_step (layer.Defcal n (Some params) operands gives items)

pub spell-Init : (is_const : Bool) (type : TypeExpr) (n : Ident) (v : Value) → spell_stmt_kind (Init is_const type n v) ≡ stmt_kind_step (layer.Init is_const (spell_type type) n (spell_value v))
spell-Init is_const type n v =
    ap spell_stmt_kind (sym (rolls-Init is_const type n v)) ∙ fold-roll-StmtKind (List Piece) (List Piece) (List Piece) (List Piece) (List Piece) (List Piece) (List Piece) (List Piece) (List Piece) (List Piece) (List Piece) (List Piece) (List Piece) (List Piece) kind_step modifier_step operand_step value_step item_step param_step body_step range_step stmt_kind_step expr_step type_step call_step place_step stmt_step (layer.Init is_const type n v)

pub spell-Declare : (type : TypeExpr) (n : Ident) → spell_stmt_kind (Declare type n) ≡ stmt_kind_step (layer.Declare (spell_type type) n)
spell-Declare type n =
    ap spell_stmt_kind (sym (rolls-Declare type n)) ∙ fold-roll-StmtKind (List Piece) (List Piece) (List Piece) (List Piece) (List Piece) (List Piece) (List Piece) (List Piece) (List Piece) (List Piece) (List Piece) (List Piece) (List Piece) (List Piece) kind_step modifier_step operand_step value_step item_step param_step body_step range_step stmt_kind_step expr_step type_step call_step place_step stmt_step (layer.Declare type n)

pub spell-Stretch : (n : Ident) → spell_stmt_kind (Stretch n) ≡ stmt_kind_step (layer.Stretch n)
spell-Stretch n =
    ap spell_stmt_kind (sym (rolls-Stretch n)) ∙ fold-roll-StmtKind (List Piece) (List Piece) (List Piece) (List Piece) (List Piece) (List Piece) (List Piece) (List Piece) (List Piece) (List Piece) (List Piece) (List Piece) (List Piece) (List Piece) kind_step modifier_step operand_step value_step item_step param_step body_step range_step stmt_kind_step expr_step type_step call_step place_step stmt_step (layer.Stretch n)

pub spell-GateCall : (c : Called) → spell_stmt_kind (GateCall c) ≡ stmt_kind_step (layer.GateCall (spell_call c))
spell-GateCall c =
    ap spell_stmt_kind (sym (rolls-GateCall c)) ∙ fold-roll-StmtKind (List Piece) (List Piece) (List Piece) (List Piece) (List Piece) (List Piece) (List Piece) (List Piece) (List Piece) (List Piece) (List Piece) (List Piece) (List Piece) (List Piece) kind_step modifier_step operand_step value_step item_step param_step body_step range_step stmt_kind_step expr_step type_step call_step place_step stmt_step (layer.GateCall c)

pub spell-Assign : (p : Place) (v : Value) → spell_stmt_kind (Assign p v) ≡ stmt_kind_step (layer.Assign (spell_place p) (spell_value v))
spell-Assign p v =
    ap spell_stmt_kind (sym (rolls-Assign p v)) ∙ fold-roll-StmtKind (List Piece) (List Piece) (List Piece) (List Piece) (List Piece) (List Piece) (List Piece) (List Piece) (List Piece) (List Piece) (List Piece) (List Piece) (List Piece) (List Piece) kind_step modifier_step operand_step value_step item_step param_step body_step range_step stmt_kind_step expr_step type_step call_step place_step stmt_step (layer.Assign p v)

pub spell-Update : (p : Place) (op : AssignOp) (e : Expr) → spell_stmt_kind (Update p op e) ≡ stmt_kind_step (layer.Update (spell_place p) op (spell e))
spell-Update p op e =
    ap spell_stmt_kind (sym (rolls-Update p op e)) ∙ fold-roll-StmtKind (List Piece) (List Piece) (List Piece) (List Piece) (List Piece) (List Piece) (List Piece) (List Piece) (List Piece) (List Piece) (List Piece) (List Piece) (List Piece) (List Piece) kind_step modifier_step operand_step value_step item_step param_step body_step range_step stmt_kind_step expr_step type_step call_step place_step stmt_step (layer.Update p op e)

pub spell-Measure : (o : Operand) (to : Option Place) → spell_stmt_kind (Measure o to) ≡ stmt_kind_step (layer.Measure (spell_operand o) (option_map spell_place to))
spell-Measure o None =
    ap spell_stmt_kind (sym (rolls-Measure o None)) ∙ fold-roll-StmtKind (List Piece) (List Piece) (List Piece) (List Piece) (List Piece) (List Piece) (List Piece) (List Piece) (List Piece) (List Piece) (List Piece) (List Piece) (List Piece) (List Piece) kind_step modifier_step operand_step value_step item_step param_step body_step range_step stmt_kind_step expr_step type_step call_step place_step stmt_step (layer.Measure o None)
spell-Measure o (Some to) =
    ap spell_stmt_kind (sym (rolls-Measure o (Some to))) ∙ fold-roll-StmtKind (List Piece) (List Piece) (List Piece) (List Piece) (List Piece) (List Piece) (List Piece) (List Piece) (List Piece) (List Piece) (List Piece) (List Piece) (List Piece) (List Piece) kind_step modifier_step operand_step value_step item_step param_step body_step range_step stmt_kind_step expr_step type_step call_step place_step stmt_step (layer.Measure o (Some to))

pub spell-Reset : (o : Operand) → spell_stmt_kind (Reset o) ≡ stmt_kind_step (layer.Reset (spell_operand o))
spell-Reset o =
    ap spell_stmt_kind (sym (rolls-Reset o)) ∙ fold-roll-StmtKind (List Piece) (List Piece) (List Piece) (List Piece) (List Piece) (List Piece) (List Piece) (List Piece) (List Piece) (List Piece) (List Piece) (List Piece) (List Piece) (List Piece) kind_step modifier_step operand_step value_step item_step param_step body_step range_step stmt_kind_step expr_step type_step call_step place_step stmt_step (layer.Reset o)

pub spell-Barrier : (operands : List Operand) → spell_stmt_kind (Barrier operands) ≡ stmt_kind_step (layer.Barrier (map spell_operand operands))
spell-Barrier operands =
    ap spell_stmt_kind (sym (rolls-Barrier operands)) ∙ fold-roll-StmtKind (List Piece) (List Piece) (List Piece) (List Piece) (List Piece) (List Piece) (List Piece) (List Piece) (List Piece) (List Piece) (List Piece) (List Piece) (List Piece) (List Piece) kind_step modifier_step operand_step value_step item_step param_step body_step range_step stmt_kind_step expr_step type_step call_step place_step stmt_step (layer.Barrier operands)

pub spell-Delay : (time : Expr) (operands : List Operand) → spell_stmt_kind (Delay time operands) ≡ stmt_kind_step (layer.Delay (spell time) (map spell_operand operands))
spell-Delay time operands =
    ap spell_stmt_kind (sym (rolls-Delay time operands)) ∙ fold-roll-StmtKind (List Piece) (List Piece) (List Piece) (List Piece) (List Piece) (List Piece) (List Piece) (List Piece) (List Piece) (List Piece) (List Piece) (List Piece) (List Piece) (List Piece) kind_step modifier_step operand_step value_step item_step param_step body_step range_step stmt_kind_step expr_step type_step call_step place_step stmt_step (layer.Delay time operands)

pub spell-Box : (time : Option Expr) (statements : List Stmt) → spell_stmt_kind (Box time statements) ≡ stmt_kind_step (layer.Box (option_map spell time) (map spell_stmt statements))
spell-Box None statements =
    ap spell_stmt_kind (sym (rolls-Box None statements)) ∙ fold-roll-StmtKind (List Piece) (List Piece) (List Piece) (List Piece) (List Piece) (List Piece) (List Piece) (List Piece) (List Piece) (List Piece) (List Piece) (List Piece) (List Piece) (List Piece) kind_step modifier_step operand_step value_step item_step param_step body_step range_step stmt_kind_step expr_step type_step call_step place_step stmt_step (layer.Box None statements)
spell-Box (Some time) statements =
    ap spell_stmt_kind (sym (rolls-Box (Some time) statements)) ∙ fold-roll-StmtKind (List Piece) (List Piece) (List Piece) (List Piece) (List Piece) (List Piece) (List Piece) (List Piece) (List Piece) (List Piece) (List Piece) (List Piece) (List Piece) (List Piece) kind_step modifier_step operand_step value_step item_step param_step body_step range_step stmt_kind_step expr_step type_step call_step place_step stmt_step (layer.Box (Some time) statements)

pub spell-If : (test : Expr) (b : Body) (other : Option Body) → spell_stmt_kind (If test b other) ≡ stmt_kind_step (layer.If (spell test) (spell_body b) (option_map spell_body other))
spell-If test b None =
    ap spell_stmt_kind (sym (rolls-If test b None)) ∙ fold-roll-StmtKind (List Piece) (List Piece) (List Piece) (List Piece) (List Piece) (List Piece) (List Piece) (List Piece) (List Piece) (List Piece) (List Piece) (List Piece) (List Piece) (List Piece) kind_step modifier_step operand_step value_step item_step param_step body_step range_step stmt_kind_step expr_step type_step call_step place_step stmt_step (layer.If test b None)
spell-If test b (Some other) =
    ap spell_stmt_kind (sym (rolls-If test b (Some other))) ∙ fold-roll-StmtKind (List Piece) (List Piece) (List Piece) (List Piece) (List Piece) (List Piece) (List Piece) (List Piece) (List Piece) (List Piece) (List Piece) (List Piece) (List Piece) (List Piece) kind_step modifier_step operand_step value_step item_step param_step body_step range_step stmt_kind_step expr_step type_step call_step place_step stmt_step (layer.If test b (Some other))

pub spell-While : (test : Expr) (b : Body) → spell_stmt_kind (While test b) ≡ stmt_kind_step (layer.While (spell test) (spell_body b))
spell-While test b =
    ap spell_stmt_kind (sym (rolls-While test b)) ∙ fold-roll-StmtKind (List Piece) (List Piece) (List Piece) (List Piece) (List Piece) (List Piece) (List Piece) (List Piece) (List Piece) (List Piece) (List Piece) (List Piece) (List Piece) (List Piece) kind_step modifier_step operand_step value_step item_step param_step body_step range_step stmt_kind_step expr_step type_step call_step place_step stmt_step (layer.While test b)

pub spell-For : (type : TypeExpr) (n : Ident) (r : Range) (b : Body) → spell_stmt_kind (For type n r b) ≡ stmt_kind_step (layer.For (spell_type type) n (spell_range r) (spell_body b))
spell-For type n r b =
    ap spell_stmt_kind (sym (rolls-For type n r b)) ∙ fold-roll-StmtKind (List Piece) (List Piece) (List Piece) (List Piece) (List Piece) (List Piece) (List Piece) (List Piece) (List Piece) (List Piece) (List Piece) (List Piece) (List Piece) (List Piece) kind_step modifier_step operand_step value_step item_step param_step body_step range_step stmt_kind_step expr_step type_step call_step place_step stmt_step (layer.For type n r b)

pub spell-Break : spell_stmt_kind Break ≡ stmt_kind_step layer.Break
spell-Break =
    ap spell_stmt_kind (sym rolls-Break) ∙ fold-roll-StmtKind (List Piece) (List Piece) (List Piece) (List Piece) (List Piece) (List Piece) (List Piece) (List Piece) (List Piece) (List Piece) (List Piece) (List Piece) (List Piece) (List Piece) kind_step modifier_step operand_step value_step item_step param_step body_step range_step stmt_kind_step expr_step type_step call_step place_step stmt_step layer.Break

pub spell-Continue : spell_stmt_kind Continue ≡ stmt_kind_step layer.Continue
spell-Continue =
    ap spell_stmt_kind (sym rolls-Continue) ∙ fold-roll-StmtKind (List Piece) (List Piece) (List Piece) (List Piece) (List Piece) (List Piece) (List Piece) (List Piece) (List Piece) (List Piece) (List Piece) (List Piece) (List Piece) (List Piece) kind_step modifier_step operand_step value_step item_step param_step body_step range_step stmt_kind_step expr_step type_step call_step place_step stmt_step layer.Continue

pub spell-End : spell_stmt_kind End ≡ stmt_kind_step layer.End
spell-End =
    ap spell_stmt_kind (sym rolls-End) ∙ fold-roll-StmtKind (List Piece) (List Piece) (List Piece) (List Piece) (List Piece) (List Piece) (List Piece) (List Piece) (List Piece) (List Piece) (List Piece) (List Piece) (List Piece) (List Piece) kind_step modifier_step operand_step value_step item_step param_step body_step range_step stmt_kind_step expr_step type_step call_step place_step stmt_step layer.End

-- ---- what begins at a place

pub spell-Expr : (e : Expr) → spell e ≡ at_place e.span (spell_kind e.kind)
spell-Expr e = fold_out-Expr (List Piece) (List Piece) (List Piece) (List Piece) (List Piece) (List Piece) (List Piece) (List Piece) (List Piece) (List Piece) (List Piece) (List Piece) (List Piece) (List Piece) kind_step modifier_step operand_step value_step item_step param_step body_step range_step stmt_kind_step expr_step type_step call_step place_step stmt_step e

pub spell-Stmt : (s : Stmt) → spell_stmt s ≡ at_place s.span (spell_stmt_kind s.kind)
spell-Stmt s = fold_out-Stmt (List Piece) (List Piece) (List Piece) (List Piece) (List Piece) (List Piece) (List Piece) (List Piece) (List Piece) (List Piece) (List Piece) (List Piece) (List Piece) (List Piece) kind_step modifier_step operand_step value_step item_step param_step body_step range_step stmt_kind_step expr_step type_step call_step place_step stmt_step s

pub spell-Place : (name_of : Ident) (index : Option Expr) → spell_place (roll-Place (record { name = name_of; index = index })) ≡ name name_of ++ if_there in_square (option_map spell index)
spell-Place name_of None = fold-roll-Place (List Piece) (List Piece) (List Piece) (List Piece) (List Piece) (List Piece) (List Piece) (List Piece) (List Piece) (List Piece) (List Piece) (List Piece) (List Piece) (List Piece) kind_step modifier_step operand_step value_step item_step param_step body_step range_step stmt_kind_step expr_step type_step call_step place_step stmt_step (record { name = name_of; index = None })
spell-Place name_of (Some index) = fold-roll-Place (List Piece) (List Piece) (List Piece) (List Piece) (List Piece) (List Piece) (List Piece) (List Piece) (List Piece) (List Piece) (List Piece) (List Piece) (List Piece) (List Piece) kind_step modifier_step operand_step value_step item_step param_step body_step range_step stmt_kind_step expr_step type_step call_step place_step stmt_step (record { name = name_of; index = Some index })

pub spell-TypeExpr : (span : Span) (type : TypeWord) (width : Option Expr) → spell_type (roll-TypeExpr (record { span = span; word = type; width = width })) ≡ at_place span (word (word_of_type type) ++ if_there in_square (option_map spell width))
spell-TypeExpr span type None = fold-roll-TypeExpr (List Piece) (List Piece) (List Piece) (List Piece) (List Piece) (List Piece) (List Piece) (List Piece) (List Piece) (List Piece) (List Piece) (List Piece) (List Piece) (List Piece) kind_step modifier_step operand_step value_step item_step param_step body_step range_step stmt_kind_step expr_step type_step call_step place_step stmt_step (record { span = span; word = type; width = None })
spell-TypeExpr span type (Some width) = fold-roll-TypeExpr (List Piece) (List Piece) (List Piece) (List Piece) (List Piece) (List Piece) (List Piece) (List Piece) (List Piece) (List Piece) (List Piece) (List Piece) (List Piece) (List Piece) kind_step modifier_step operand_step value_step item_step param_step body_step range_step stmt_kind_step expr_step type_step call_step place_step stmt_step (record { span = span; word = type; width = Some width })

pub spell-Called : (modifiers : List Modifier) (name_of : Ident) (args : Option (List Expr)) (operands : List Operand) → spell_call (roll-Call (record { modifiers = modifiers; name = name_of; args = args; operands = operands })) ≡ joined (map spell_modifier modifiers) ++ name name_of ++ if_there (λ es. in_round (with_commas es)) (option_map (map spell) args) ++ with_commas (map spell_operand operands)
spell-Called modifiers name_of None operands = fold-roll-Call (List Piece) (List Piece) (List Piece) (List Piece) (List Piece) (List Piece) (List Piece) (List Piece) (List Piece) (List Piece) (List Piece) (List Piece) (List Piece) (List Piece) kind_step modifier_step operand_step value_step item_step param_step body_step range_step stmt_kind_step expr_step type_step call_step place_step stmt_step (record { modifiers = modifiers; name = name_of; args = None; operands = operands })
spell-Called modifiers name_of (Some args) operands = fold-roll-Call (List Piece) (List Piece) (List Piece) (List Piece) (List Piece) (List Piece) (List Piece) (List Piece) (List Piece) (List Piece) (List Piece) (List Piece) (List Piece) (List Piece) kind_step modifier_step operand_step value_step item_step param_step body_step range_step stmt_kind_step expr_step type_step call_step place_step stmt_step (record { modifiers = modifiers; name = name_of; args = Some args; operands = operands })
