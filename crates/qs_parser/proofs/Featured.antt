-- The features of each kind of a tree, by those of its parts.
use Rattle.std.proofs.Common.{◌≡◌, ℕ, List, Bool, map, option_map, Option, Some, None, sym, ap, ◌∙◌}
use Rattle.qs_values.specs.declared.number.Frac.{Frac}
use Rattle.qs_values.specs.declared.number.Num.{Num}
use Rattle.qs_values.specs.declared.span.Span.{Span}
use Rattle.qs_lexer.specs.declared.token.Unit.{Unit as TimeUnit}
use Rattle.qs_tree.specs.declared.assign.AssignOp.{AssignOp}
use Rattle.qs_tree.specs.declared.operator.UnOp.{UnOp}
use Rattle.qs_tree.specs.declared.operator.BinOp.{BinOp}
use Rattle.qs_tree.specs.declared.name.Ident.{Ident}
use Rattle.qs_tree.specs.declared.expr.TypeWord.{TypeWord}
use Rattle.qs_tree.specs.declared.pulse.CalName.{CalName}
use Rattle.qs_tree.specs.declared.expr.Expr.{Expr}
use Rattle.qs_tree.specs.declared.expr.TypeExpr.{TypeExpr, roll-TypeExpr}
use Rattle.qs_tree.specs.declared.gate.Call.{Call as Called, roll-Call}
use Rattle.qs_tree.specs.declared.gate.Modifier.{Modifier}
use Rattle.qs_tree.specs.declared.operand.Place.{Place, roll-Place}
use Rattle.qs_tree.specs.declared.operand.Operand.{Operand}
use Rattle.qs_tree.specs.declared.operand.Value.{Value}
use Rattle.qs_tree.specs.declared.pulse.Param.{Param}
use Rattle.qs_tree.specs.declared.pulse.Item.{Item}
use Rattle.qs_tree.specs.declared.statement.Stmt.{Stmt}
use Rattle.qs_tree.specs.declared.statement.Body.{Body}
use Rattle.qs_tree.specs.declared.statement.Range.{Range}
use Rattle.qs_tree.specs.declared.expr.ExprKind.TheOpen as layer
use Rattle.qs_tree.specs.declared.expr.ExprKind.TheVariants.{Whole, Decimal, Time, Text, Truth, Name, Index, Physical, Call, Cast, DurationOf, Group, Unary, Binary, Number, rolls-Whole, rolls-Decimal, rolls-Time, rolls-Text, rolls-Truth, rolls-Name, rolls-Index, rolls-Physical, rolls-Call, rolls-Cast, rolls-DurationOf, rolls-Group, rolls-Unary, rolls-Binary, rolls-Number}
use Rattle.qs_tree.specs.declared.gate.Modifier.TheVariants.{Inv, Pow, Ctrl, NegCtrl, rolls-Inv, rolls-Pow, rolls-Ctrl, rolls-NegCtrl}
use Rattle.qs_tree.specs.declared.operand.Operand.TheVariants.{Named, PhysicalQubit, rolls-Named, rolls-PhysicalQubit}
use Rattle.qs_tree.specs.declared.operand.Value.TheVariants.{Expression, Measurement, rolls-Expression, rolls-Measurement}
use Rattle.qs_tree.specs.declared.pulse.Item.TheVariants.{Port, ExternFrame, ExternWaveform, Frame, Return, Statement, rolls-Port, rolls-ExternFrame, rolls-ExternWaveform, rolls-Frame, rolls-Return, rolls-Statement}
use Rattle.qs_tree.specs.declared.pulse.Param.TheVariants.{Free, Fixed, rolls-Free, rolls-Fixed}
use Rattle.qs_tree.specs.declared.statement.Body.TheVariants.{One, Braces, rolls-One, rolls-Braces}
use Rattle.qs_tree.specs.declared.statement.Range.TheVariants.{Interval, Set, rolls-Interval, rolls-Set}
use Rattle.qs_tree.specs.declared.statement.StmtKind.TheVariants.{Include, DefcalGrammar, Qubit as QubitStmt, Input, Output, Gate, Cal, Defcal, Init, Declare, Stretch, GateCall, Assign, Update, Measure, Reset, Barrier, Delay, Box, If, While, For, Break, Continue, End, rolls-Include, rolls-DefcalGrammar, rolls-Qubit, rolls-Input, rolls-Output, rolls-Gate, rolls-Cal, rolls-Defcal, rolls-Init, rolls-Declare, rolls-Stretch, rolls-GateCall, rolls-Assign, rolls-Update, rolls-Measure, rolls-Reset, rolls-Barrier, rolls-Delay, rolls-Box, rolls-If, rolls-While, rolls-For, rolls-Break, rolls-Continue, rolls-End}
use Rattle.qs_tree.specs.declared.expr.ExprKind.TheFolds.{fold-roll-ExprKind, fold-roll-Modifier, fold-roll-Operand, fold-roll-Value, fold-roll-Item, fold-roll-Param, fold-roll-Body, fold-roll-Range, fold-roll-StmtKind, fold_out-Expr, fold_out-Stmt, fold-roll-Place, fold-roll-TypeExpr, fold-roll-Call}
use Rattle.qs_tree.specs.WellFormed.{Features, body_features, call_features, expr_features, item_features, kind_features, modifier_features, operand_features, param_features, place_features, range_features, stmt_features, stmt_kind_features, type_features, value_features, of_body, of_call, of_expr, of_item, of_kind, of_modifier, of_operand, of_param, of_place, of_range, of_stmt, of_stmt_kind, of_type, of_value}

-- ---- what an expression is

pub features-Whole : (value : ℕ) → of_kind (Whole value) ≡ kind_features (layer.Whole value)
features-Whole value =
    ap of_kind (sym (rolls-Whole value)) ∙ fold-roll-ExprKind Features Features Features Features Features Features Features Features Features Features Features Features Features Features kind_features modifier_features operand_features value_features item_features param_features body_features range_features stmt_kind_features expr_features type_features call_features place_features stmt_features (layer.Whole value)

pub features-Decimal : (value : Frac) → of_kind (Decimal value) ≡ kind_features (layer.Decimal value)
features-Decimal value =
    ap of_kind (sym (rolls-Decimal value)) ∙ fold-roll-ExprKind Features Features Features Features Features Features Features Features Features Features Features Features Features Features kind_features modifier_features operand_features value_features item_features param_features body_features range_features stmt_kind_features expr_features type_features call_features place_features stmt_features (layer.Decimal value)

pub features-Time : (value : Frac) (unit : TimeUnit) → of_kind (Time value unit) ≡ kind_features (layer.Time value unit)
features-Time value unit =
    ap of_kind (sym (rolls-Time value unit)) ∙ fold-roll-ExprKind Features Features Features Features Features Features Features Features Features Features Features Features Features Features kind_features modifier_features operand_features value_features item_features param_features body_features range_features stmt_kind_features expr_features type_features call_features place_features stmt_features (layer.Time value unit)

pub features-Text : (text : List ℕ) → of_kind (Text text) ≡ kind_features (layer.Text text)
features-Text text =
    ap of_kind (sym (rolls-Text text)) ∙ fold-roll-ExprKind Features Features Features Features Features Features Features Features Features Features Features Features Features Features kind_features modifier_features operand_features value_features item_features param_features body_features range_features stmt_kind_features expr_features type_features call_features place_features stmt_features (layer.Text text)

pub features-Truth : (value : Bool) → of_kind (Truth value) ≡ kind_features (layer.Truth value)
features-Truth value =
    ap of_kind (sym (rolls-Truth value)) ∙ fold-roll-ExprKind Features Features Features Features Features Features Features Features Features Features Features Features Features Features kind_features modifier_features operand_features value_features item_features param_features body_features range_features stmt_kind_features expr_features type_features call_features place_features stmt_features (layer.Truth value)

pub features-Name : (n : List ℕ) → of_kind (Name n) ≡ kind_features (layer.Name n)
features-Name n =
    ap of_kind (sym (rolls-Name n)) ∙ fold-roll-ExprKind Features Features Features Features Features Features Features Features Features Features Features Features Features Features kind_features modifier_features operand_features value_features item_features param_features body_features range_features stmt_kind_features expr_features type_features call_features place_features stmt_features (layer.Name n)

pub features-Index : (n : List ℕ) (index : Expr) → of_kind (Index n index) ≡ kind_features (layer.Index n (of_expr index))
features-Index n index =
    ap of_kind (sym (rolls-Index n index)) ∙ fold-roll-ExprKind Features Features Features Features Features Features Features Features Features Features Features Features Features Features kind_features modifier_features operand_features value_features item_features param_features body_features range_features stmt_kind_features expr_features type_features call_features place_features stmt_features (layer.Index n index)

pub features-Physical : (number : ℕ) → of_kind (Physical number) ≡ kind_features (layer.Physical number)
features-Physical number =
    ap of_kind (sym (rolls-Physical number)) ∙ fold-roll-ExprKind Features Features Features Features Features Features Features Features Features Features Features Features Features Features kind_features modifier_features operand_features value_features item_features param_features body_features range_features stmt_kind_features expr_features type_features call_features place_features stmt_features (layer.Physical number)

pub features-Call : (n : List ℕ) (args : List Expr) → of_kind (Call n args) ≡ kind_features (layer.Call n (map of_expr args))
features-Call n args =
    ap of_kind (sym (rolls-Call n args)) ∙ fold-roll-ExprKind Features Features Features Features Features Features Features Features Features Features Features Features Features Features kind_features modifier_features operand_features value_features item_features param_features body_features range_features stmt_kind_features expr_features type_features call_features place_features stmt_features (layer.Call n args)

pub features-Cast : (type : TypeExpr) (operand : Expr) → of_kind (Cast type operand) ≡ kind_features (layer.Cast (of_type type) (of_expr operand))
features-Cast type operand =
    ap of_kind (sym (rolls-Cast type operand)) ∙ fold-roll-ExprKind Features Features Features Features Features Features Features Features Features Features Features Features Features Features kind_features modifier_features operand_features value_features item_features param_features body_features range_features stmt_kind_features expr_features type_features call_features place_features stmt_features (layer.Cast type operand)

pub features-DurationOf : (body : List Stmt) → of_kind (DurationOf body) ≡ kind_features (layer.DurationOf (map of_stmt body))
features-DurationOf body =
    ap of_kind (sym (rolls-DurationOf body)) ∙ fold-roll-ExprKind Features Features Features Features Features Features Features Features Features Features Features Features Features Features kind_features modifier_features operand_features value_features item_features param_features body_features range_features stmt_kind_features expr_features type_features call_features place_features stmt_features (layer.DurationOf body)

pub features-Group : (inner : Expr) → of_kind (Group inner) ≡ kind_features (layer.Group (of_expr inner))
features-Group inner =
    ap of_kind (sym (rolls-Group inner)) ∙ fold-roll-ExprKind Features Features Features Features Features Features Features Features Features Features Features Features Features Features kind_features modifier_features operand_features value_features item_features param_features body_features range_features stmt_kind_features expr_features type_features call_features place_features stmt_features (layer.Group inner)

pub features-Unary : (op : UnOp) (operand : Expr) → of_kind (Unary op operand) ≡ kind_features (layer.Unary op (of_expr operand))
features-Unary op operand =
    ap of_kind (sym (rolls-Unary op operand)) ∙ fold-roll-ExprKind Features Features Features Features Features Features Features Features Features Features Features Features Features Features kind_features modifier_features operand_features value_features item_features param_features body_features range_features stmt_kind_features expr_features type_features call_features place_features stmt_features (layer.Unary op operand)

pub features-Binary : (left : Expr) (op : BinOp) (right : Expr) → of_kind (Binary left op right) ≡ kind_features (layer.Binary (of_expr left) op (of_expr right))
features-Binary left op right =
    ap of_kind (sym (rolls-Binary left op right)) ∙ fold-roll-ExprKind Features Features Features Features Features Features Features Features Features Features Features Features Features Features kind_features modifier_features operand_features value_features item_features param_features body_features range_features stmt_kind_features expr_features type_features call_features place_features stmt_features (layer.Binary left op right)

pub features-Number : (value : Num) → of_kind (Number value) ≡ kind_features (layer.Number value)
features-Number value =
    ap of_kind (sym (rolls-Number value)) ∙ fold-roll-ExprKind Features Features Features Features Features Features Features Features Features Features Features Features Features Features kind_features modifier_features operand_features value_features item_features param_features body_features range_features stmt_kind_features expr_features type_features call_features place_features stmt_features (layer.Number value)

-- ---- a modifier

pub features-Inv : of_modifier Inv ≡ modifier_features layer.Inv
features-Inv =
    ap of_modifier (sym rolls-Inv) ∙ fold-roll-Modifier Features Features Features Features Features Features Features Features Features Features Features Features Features Features kind_features modifier_features operand_features value_features item_features param_features body_features range_features stmt_kind_features expr_features type_features call_features place_features stmt_features layer.Inv

pub features-Pow : (exponent : Expr) → of_modifier (Pow exponent) ≡ modifier_features (layer.Pow (of_expr exponent))
features-Pow exponent =
    ap of_modifier (sym (rolls-Pow exponent)) ∙ fold-roll-Modifier Features Features Features Features Features Features Features Features Features Features Features Features Features Features kind_features modifier_features operand_features value_features item_features param_features body_features range_features stmt_kind_features expr_features type_features call_features place_features stmt_features (layer.Pow exponent)

pub features-Ctrl : (count : Option Expr) → of_modifier (Ctrl count) ≡ modifier_features (layer.Ctrl (option_map of_expr count))
features-Ctrl None =
    ap of_modifier (sym (rolls-Ctrl None)) ∙ fold-roll-Modifier Features Features Features Features Features Features Features Features Features Features Features Features Features Features kind_features modifier_features operand_features value_features item_features param_features body_features range_features stmt_kind_features expr_features type_features call_features place_features stmt_features (layer.Ctrl None)
features-Ctrl (Some count) =
    ap of_modifier (sym (rolls-Ctrl (Some count))) ∙ fold-roll-Modifier Features Features Features Features Features Features Features Features Features Features Features Features Features Features kind_features modifier_features operand_features value_features item_features param_features body_features range_features stmt_kind_features expr_features type_features call_features place_features stmt_features (layer.Ctrl (Some count))

pub features-NegCtrl : (count : Option Expr) → of_modifier (NegCtrl count) ≡ modifier_features (layer.NegCtrl (option_map of_expr count))
features-NegCtrl None =
    ap of_modifier (sym (rolls-NegCtrl None)) ∙ fold-roll-Modifier Features Features Features Features Features Features Features Features Features Features Features Features Features Features kind_features modifier_features operand_features value_features item_features param_features body_features range_features stmt_kind_features expr_features type_features call_features place_features stmt_features (layer.NegCtrl None)
features-NegCtrl (Some count) =
    ap of_modifier (sym (rolls-NegCtrl (Some count))) ∙ fold-roll-Modifier Features Features Features Features Features Features Features Features Features Features Features Features Features Features kind_features modifier_features operand_features value_features item_features param_features body_features range_features stmt_kind_features expr_features type_features call_features place_features stmt_features (layer.NegCtrl (Some count))

-- ---- an operand

pub features-Named : (p : Place) → of_operand (Named p) ≡ operand_features (layer.Named (of_place p))
features-Named p =
    ap of_operand (sym (rolls-Named p)) ∙ fold-roll-Operand Features Features Features Features Features Features Features Features Features Features Features Features Features Features kind_features modifier_features operand_features value_features item_features param_features body_features range_features stmt_kind_features expr_features type_features call_features place_features stmt_features (layer.Named p)

pub features-PhysicalQubit : (span : Span) (number : ℕ) → of_operand (PhysicalQubit span number) ≡ operand_features (layer.PhysicalQubit span number)
features-PhysicalQubit span number =
    ap of_operand (sym (rolls-PhysicalQubit span number)) ∙ fold-roll-Operand Features Features Features Features Features Features Features Features Features Features Features Features Features Features kind_features modifier_features operand_features value_features item_features param_features body_features range_features stmt_kind_features expr_features type_features call_features place_features stmt_features (layer.PhysicalQubit span number)

-- ---- a value

pub features-Expression : (e : Expr) → of_value (Expression e) ≡ value_features (layer.Expression (of_expr e))
features-Expression e =
    ap of_value (sym (rolls-Expression e)) ∙ fold-roll-Value Features Features Features Features Features Features Features Features Features Features Features Features Features Features kind_features modifier_features operand_features value_features item_features param_features body_features range_features stmt_kind_features expr_features type_features call_features place_features stmt_features (layer.Expression e)

pub features-Measurement : (o : Operand) → of_value (Measurement o) ≡ value_features (layer.Measurement (of_operand o))
features-Measurement o =
    ap of_value (sym (rolls-Measurement o)) ∙ fold-roll-Value Features Features Features Features Features Features Features Features Features Features Features Features Features Features kind_features modifier_features operand_features value_features item_features param_features body_features range_features stmt_kind_features expr_features type_features call_features place_features stmt_features (layer.Measurement o)

-- ---- an item of a calibration

pub features-Port : (span : Span) (extern : Bool) (n : Ident) → of_item (Port span extern n) ≡ item_features (layer.Port span extern n)
features-Port span extern n =
    ap of_item (sym (rolls-Port span extern n)) ∙ fold-roll-Item Features Features Features Features Features Features Features Features Features Features Features Features Features Features kind_features modifier_features operand_features value_features item_features param_features body_features range_features stmt_kind_features expr_features type_features call_features place_features stmt_features (layer.Port span extern n)

pub features-ExternFrame : (span : Span) (n : Ident) → of_item (ExternFrame span n) ≡ item_features (layer.ExternFrame span n)
features-ExternFrame span n =
    ap of_item (sym (rolls-ExternFrame span n)) ∙ fold-roll-Item Features Features Features Features Features Features Features Features Features Features Features Features Features Features kind_features modifier_features operand_features value_features item_features param_features body_features range_features stmt_kind_features expr_features type_features call_features place_features stmt_features (layer.ExternFrame span n)

pub features-ExternWaveform : (span : Span) (n : Ident) → of_item (ExternWaveform span n) ≡ item_features (layer.ExternWaveform span n)
features-ExternWaveform span n =
    ap of_item (sym (rolls-ExternWaveform span n)) ∙ fold-roll-Item Features Features Features Features Features Features Features Features Features Features Features Features Features Features kind_features modifier_features operand_features value_features item_features param_features body_features range_features stmt_kind_features expr_features type_features call_features place_features stmt_features (layer.ExternWaveform span n)

pub features-Frame : (span : Span) (n : Ident) (e : Expr) → of_item (Frame span n e) ≡ item_features (layer.Frame span n (of_expr e))
features-Frame span n e =
    ap of_item (sym (rolls-Frame span n e)) ∙ fold-roll-Item Features Features Features Features Features Features Features Features Features Features Features Features Features Features kind_features modifier_features operand_features value_features item_features param_features body_features range_features stmt_kind_features expr_features type_features call_features place_features stmt_features (layer.Frame span n e)

pub features-Return : (span : Span) (e : Expr) → of_item (Return span e) ≡ item_features (layer.Return span (of_expr e))
features-Return span e =
    ap of_item (sym (rolls-Return span e)) ∙ fold-roll-Item Features Features Features Features Features Features Features Features Features Features Features Features Features Features kind_features modifier_features operand_features value_features item_features param_features body_features range_features stmt_kind_features expr_features type_features call_features place_features stmt_features (layer.Return span e)

pub features-Statement : (s : Stmt) → of_item (Statement s) ≡ item_features (layer.Statement (of_stmt s))
features-Statement s =
    ap of_item (sym (rolls-Statement s)) ∙ fold-roll-Item Features Features Features Features Features Features Features Features Features Features Features Features Features Features kind_features modifier_features operand_features value_features item_features param_features body_features range_features stmt_kind_features expr_features type_features call_features place_features stmt_features (layer.Statement s)

-- ---- a parameter of a calibration

pub features-Free : (type : TypeExpr) (n : Ident) → of_param (Free type n) ≡ param_features (layer.Free (of_type type) n)
features-Free type n =
    ap of_param (sym (rolls-Free type n)) ∙ fold-roll-Param Features Features Features Features Features Features Features Features Features Features Features Features Features Features kind_features modifier_features operand_features value_features item_features param_features body_features range_features stmt_kind_features expr_features type_features call_features place_features stmt_features (layer.Free type n)

pub features-Fixed : (e : Expr) → of_param (Fixed e) ≡ param_features (layer.Fixed (of_expr e))
features-Fixed e =
    ap of_param (sym (rolls-Fixed e)) ∙ fold-roll-Param Features Features Features Features Features Features Features Features Features Features Features Features Features Features kind_features modifier_features operand_features value_features item_features param_features body_features range_features stmt_kind_features expr_features type_features call_features place_features stmt_features (layer.Fixed e)

-- ---- a body

pub features-One : (s : Stmt) → of_body (One s) ≡ body_features (layer.One (of_stmt s))
features-One s =
    ap of_body (sym (rolls-One s)) ∙ fold-roll-Body Features Features Features Features Features Features Features Features Features Features Features Features Features Features kind_features modifier_features operand_features value_features item_features param_features body_features range_features stmt_kind_features expr_features type_features call_features place_features stmt_features (layer.One s)

pub features-Braces : (ss : List Stmt) → of_body (Braces ss) ≡ body_features (layer.Braces (map of_stmt ss))
features-Braces ss =
    ap of_body (sym (rolls-Braces ss)) ∙ fold-roll-Body Features Features Features Features Features Features Features Features Features Features Features Features Features Features kind_features modifier_features operand_features value_features item_features param_features body_features range_features stmt_kind_features expr_features type_features call_features place_features stmt_features (layer.Braces ss)

-- ---- a range

pub features-Interval : (span : Span) (first : Expr) (step : Option Expr) (last : Expr) → of_range (Interval span first step last) ≡ range_features (layer.Interval span (of_expr first) (option_map of_expr step) (of_expr last))
features-Interval span first None last =
    ap of_range (sym (rolls-Interval span first None last)) ∙ fold-roll-Range Features Features Features Features Features Features Features Features Features Features Features Features Features Features kind_features modifier_features operand_features value_features item_features param_features body_features range_features stmt_kind_features expr_features type_features call_features place_features stmt_features (layer.Interval span first None last)
features-Interval span first (Some step) last =
    ap of_range (sym (rolls-Interval span first (Some step) last)) ∙ fold-roll-Range Features Features Features Features Features Features Features Features Features Features Features Features Features Features kind_features modifier_features operand_features value_features item_features param_features body_features range_features stmt_kind_features expr_features type_features call_features place_features stmt_features (layer.Interval span first (Some step) last)

pub features-Set : (span : Span) (members : List Expr) → of_range (Set span members) ≡ range_features (layer.Set span (map of_expr members))
features-Set span members =
    ap of_range (sym (rolls-Set span members)) ∙ fold-roll-Range Features Features Features Features Features Features Features Features Features Features Features Features Features Features kind_features modifier_features operand_features value_features item_features param_features body_features range_features stmt_kind_features expr_features type_features call_features place_features stmt_features (layer.Set span members)

-- ---- what a statement is

pub features-Include : (text : List ℕ) → of_stmt_kind (Include text) ≡ stmt_kind_features (layer.Include text)
features-Include text =
    ap of_stmt_kind (sym (rolls-Include text)) ∙ fold-roll-StmtKind Features Features Features Features Features Features Features Features Features Features Features Features Features Features kind_features modifier_features operand_features value_features item_features param_features body_features range_features stmt_kind_features expr_features type_features call_features place_features stmt_features (layer.Include text)

pub features-DefcalGrammar : (text : List ℕ) → of_stmt_kind (DefcalGrammar text) ≡ stmt_kind_features (layer.DefcalGrammar text)
features-DefcalGrammar text =
    ap of_stmt_kind (sym (rolls-DefcalGrammar text)) ∙ fold-roll-StmtKind Features Features Features Features Features Features Features Features Features Features Features Features Features Features kind_features modifier_features operand_features value_features item_features param_features body_features range_features stmt_kind_features expr_features type_features call_features place_features stmt_features (layer.DefcalGrammar text)

pub features-Qubit : (size : Option Expr) (n : Ident) → of_stmt_kind (QubitStmt size n) ≡ stmt_kind_features (layer.Qubit (option_map of_expr size) n)
features-Qubit None n =
    ap of_stmt_kind (sym (rolls-Qubit None n)) ∙ fold-roll-StmtKind Features Features Features Features Features Features Features Features Features Features Features Features Features Features kind_features modifier_features operand_features value_features item_features param_features body_features range_features stmt_kind_features expr_features type_features call_features place_features stmt_features (layer.Qubit None n)
features-Qubit (Some size) n =
    ap of_stmt_kind (sym (rolls-Qubit (Some size) n)) ∙ fold-roll-StmtKind Features Features Features Features Features Features Features Features Features Features Features Features Features Features kind_features modifier_features operand_features value_features item_features param_features body_features range_features stmt_kind_features expr_features type_features call_features place_features stmt_features (layer.Qubit (Some size) n)

pub features-Input : (type : TypeExpr) (n : Ident) → of_stmt_kind (Input type n) ≡ stmt_kind_features (layer.Input (of_type type) n)
features-Input type n =
    ap of_stmt_kind (sym (rolls-Input type n)) ∙ fold-roll-StmtKind Features Features Features Features Features Features Features Features Features Features Features Features Features Features kind_features modifier_features operand_features value_features item_features param_features body_features range_features stmt_kind_features expr_features type_features call_features place_features stmt_features (layer.Input type n)

pub features-Output : (type : TypeExpr) (n : Ident) → of_stmt_kind (Output type n) ≡ stmt_kind_features (layer.Output (of_type type) n)
features-Output type n =
    ap of_stmt_kind (sym (rolls-Output type n)) ∙ fold-roll-StmtKind Features Features Features Features Features Features Features Features Features Features Features Features Features Features kind_features modifier_features operand_features value_features item_features param_features body_features range_features stmt_kind_features expr_features type_features call_features place_features stmt_features (layer.Output type n)

pub features-Gate : (n : Ident) (params : Option (List Ident)) (qubits : List Ident) (calls : List Stmt) → of_stmt_kind (Gate n params qubits calls) ≡ stmt_kind_features (layer.Gate n params qubits (map of_stmt calls))
features-Gate n params qubits calls =
    ap of_stmt_kind (sym (rolls-Gate n params qubits calls)) ∙ fold-roll-StmtKind Features Features Features Features Features Features Features Features Features Features Features Features Features Features kind_features modifier_features operand_features value_features item_features param_features body_features range_features stmt_kind_features expr_features type_features call_features place_features stmt_features (layer.Gate n params qubits calls)

pub features-Cal : (items : List Item) → of_stmt_kind (Cal items) ≡ stmt_kind_features (layer.Cal (map of_item items))
features-Cal items =
    ap of_stmt_kind (sym (rolls-Cal items)) ∙ fold-roll-StmtKind Features Features Features Features Features Features Features Features Features Features Features Features Features Features kind_features modifier_features operand_features value_features item_features param_features body_features range_features stmt_kind_features expr_features type_features call_features place_features stmt_features (layer.Cal items)

pub features-Defcal : (n : CalName) (params : Option (List Param)) (operands : List Operand) (gives : Bool) (items : List Item) → of_stmt_kind (Defcal n params operands gives items) ≡ stmt_kind_features (layer.Defcal n (option_map (map of_param) params) (map of_operand operands) gives (map of_item items))
features-Defcal n None operands gives items =
    ap of_stmt_kind (sym (rolls-Defcal n None operands gives items)) ∙ fold-roll-StmtKind Features Features Features Features Features Features Features Features Features Features Features Features Features Features kind_features modifier_features operand_features value_features item_features param_features body_features range_features stmt_kind_features expr_features type_features call_features place_features stmt_features (layer.Defcal n None operands gives items)
features-Defcal n (Some params) operands gives items =
    ap of_stmt_kind (sym (rolls-Defcal n (Some params) operands gives items)) ∙ fold-roll-StmtKind Features Features Features Features Features Features Features Features Features Features Features Features Features Features kind_features modifier_features operand_features value_features item_features param_features body_features range_features stmt_kind_features expr_features type_features call_features place_features stmt_features (layer.Defcal n (Some params) operands gives items)

pub features-Init : (is_const : Bool) (type : TypeExpr) (n : Ident) (v : Value) → of_stmt_kind (Init is_const type n v) ≡ stmt_kind_features (layer.Init is_const (of_type type) n (of_value v))
features-Init is_const type n v =
    ap of_stmt_kind (sym (rolls-Init is_const type n v)) ∙ fold-roll-StmtKind Features Features Features Features Features Features Features Features Features Features Features Features Features Features kind_features modifier_features operand_features value_features item_features param_features body_features range_features stmt_kind_features expr_features type_features call_features place_features stmt_features (layer.Init is_const type n v)

pub features-Declare : (type : TypeExpr) (n : Ident) → of_stmt_kind (Declare type n) ≡ stmt_kind_features (layer.Declare (of_type type) n)
features-Declare type n =
    ap of_stmt_kind (sym (rolls-Declare type n)) ∙ fold-roll-StmtKind Features Features Features Features Features Features Features Features Features Features Features Features Features Features kind_features modifier_features operand_features value_features item_features param_features body_features range_features stmt_kind_features expr_features type_features call_features place_features stmt_features (layer.Declare type n)

pub features-Stretch : (n : Ident) → of_stmt_kind (Stretch n) ≡ stmt_kind_features (layer.Stretch n)
features-Stretch n =
    ap of_stmt_kind (sym (rolls-Stretch n)) ∙ fold-roll-StmtKind Features Features Features Features Features Features Features Features Features Features Features Features Features Features kind_features modifier_features operand_features value_features item_features param_features body_features range_features stmt_kind_features expr_features type_features call_features place_features stmt_features (layer.Stretch n)

pub features-GateCall : (c : Called) → of_stmt_kind (GateCall c) ≡ stmt_kind_features (layer.GateCall (of_call c))
features-GateCall c =
    ap of_stmt_kind (sym (rolls-GateCall c)) ∙ fold-roll-StmtKind Features Features Features Features Features Features Features Features Features Features Features Features Features Features kind_features modifier_features operand_features value_features item_features param_features body_features range_features stmt_kind_features expr_features type_features call_features place_features stmt_features (layer.GateCall c)

pub features-Assign : (p : Place) (v : Value) → of_stmt_kind (Assign p v) ≡ stmt_kind_features (layer.Assign (of_place p) (of_value v))
features-Assign p v =
    ap of_stmt_kind (sym (rolls-Assign p v)) ∙ fold-roll-StmtKind Features Features Features Features Features Features Features Features Features Features Features Features Features Features kind_features modifier_features operand_features value_features item_features param_features body_features range_features stmt_kind_features expr_features type_features call_features place_features stmt_features (layer.Assign p v)

pub features-Update : (p : Place) (op : AssignOp) (e : Expr) → of_stmt_kind (Update p op e) ≡ stmt_kind_features (layer.Update (of_place p) op (of_expr e))
features-Update p op e =
    ap of_stmt_kind (sym (rolls-Update p op e)) ∙ fold-roll-StmtKind Features Features Features Features Features Features Features Features Features Features Features Features Features Features kind_features modifier_features operand_features value_features item_features param_features body_features range_features stmt_kind_features expr_features type_features call_features place_features stmt_features (layer.Update p op e)

pub features-Measure : (o : Operand) (to : Option Place) → of_stmt_kind (Measure o to) ≡ stmt_kind_features (layer.Measure (of_operand o) (option_map of_place to))
features-Measure o None =
    ap of_stmt_kind (sym (rolls-Measure o None)) ∙ fold-roll-StmtKind Features Features Features Features Features Features Features Features Features Features Features Features Features Features kind_features modifier_features operand_features value_features item_features param_features body_features range_features stmt_kind_features expr_features type_features call_features place_features stmt_features (layer.Measure o None)
features-Measure o (Some to) =
    ap of_stmt_kind (sym (rolls-Measure o (Some to))) ∙ fold-roll-StmtKind Features Features Features Features Features Features Features Features Features Features Features Features Features Features kind_features modifier_features operand_features value_features item_features param_features body_features range_features stmt_kind_features expr_features type_features call_features place_features stmt_features (layer.Measure o (Some to))

pub features-Reset : (o : Operand) → of_stmt_kind (Reset o) ≡ stmt_kind_features (layer.Reset (of_operand o))
features-Reset o =
    ap of_stmt_kind (sym (rolls-Reset o)) ∙ fold-roll-StmtKind Features Features Features Features Features Features Features Features Features Features Features Features Features Features kind_features modifier_features operand_features value_features item_features param_features body_features range_features stmt_kind_features expr_features type_features call_features place_features stmt_features (layer.Reset o)

pub features-Barrier : (operands : List Operand) → of_stmt_kind (Barrier operands) ≡ stmt_kind_features (layer.Barrier (map of_operand operands))
features-Barrier operands =
    ap of_stmt_kind (sym (rolls-Barrier operands)) ∙ fold-roll-StmtKind Features Features Features Features Features Features Features Features Features Features Features Features Features Features kind_features modifier_features operand_features value_features item_features param_features body_features range_features stmt_kind_features expr_features type_features call_features place_features stmt_features (layer.Barrier operands)

pub features-Delay : (time : Expr) (operands : List Operand) → of_stmt_kind (Delay time operands) ≡ stmt_kind_features (layer.Delay (of_expr time) (map of_operand operands))
features-Delay time operands =
    ap of_stmt_kind (sym (rolls-Delay time operands)) ∙ fold-roll-StmtKind Features Features Features Features Features Features Features Features Features Features Features Features Features Features kind_features modifier_features operand_features value_features item_features param_features body_features range_features stmt_kind_features expr_features type_features call_features place_features stmt_features (layer.Delay time operands)

pub features-Box : (time : Option Expr) (statements : List Stmt) → of_stmt_kind (Box time statements) ≡ stmt_kind_features (layer.Box (option_map of_expr time) (map of_stmt statements))
features-Box None statements =
    ap of_stmt_kind (sym (rolls-Box None statements)) ∙ fold-roll-StmtKind Features Features Features Features Features Features Features Features Features Features Features Features Features Features kind_features modifier_features operand_features value_features item_features param_features body_features range_features stmt_kind_features expr_features type_features call_features place_features stmt_features (layer.Box None statements)
features-Box (Some time) statements =
    ap of_stmt_kind (sym (rolls-Box (Some time) statements)) ∙ fold-roll-StmtKind Features Features Features Features Features Features Features Features Features Features Features Features Features Features kind_features modifier_features operand_features value_features item_features param_features body_features range_features stmt_kind_features expr_features type_features call_features place_features stmt_features (layer.Box (Some time) statements)

pub features-If : (test : Expr) (b : Body) (other : Option Body) → of_stmt_kind (If test b other) ≡ stmt_kind_features (layer.If (of_expr test) (of_body b) (option_map of_body other))
features-If test b None =
    ap of_stmt_kind (sym (rolls-If test b None)) ∙ fold-roll-StmtKind Features Features Features Features Features Features Features Features Features Features Features Features Features Features kind_features modifier_features operand_features value_features item_features param_features body_features range_features stmt_kind_features expr_features type_features call_features place_features stmt_features (layer.If test b None)
features-If test b (Some other) =
    ap of_stmt_kind (sym (rolls-If test b (Some other))) ∙ fold-roll-StmtKind Features Features Features Features Features Features Features Features Features Features Features Features Features Features kind_features modifier_features operand_features value_features item_features param_features body_features range_features stmt_kind_features expr_features type_features call_features place_features stmt_features (layer.If test b (Some other))

pub features-While : (test : Expr) (b : Body) → of_stmt_kind (While test b) ≡ stmt_kind_features (layer.While (of_expr test) (of_body b))
features-While test b =
    ap of_stmt_kind (sym (rolls-While test b)) ∙ fold-roll-StmtKind Features Features Features Features Features Features Features Features Features Features Features Features Features Features kind_features modifier_features operand_features value_features item_features param_features body_features range_features stmt_kind_features expr_features type_features call_features place_features stmt_features (layer.While test b)

pub features-For : (type : TypeExpr) (n : Ident) (r : Range) (b : Body) → of_stmt_kind (For type n r b) ≡ stmt_kind_features (layer.For (of_type type) n (of_range r) (of_body b))
features-For type n r b =
    ap of_stmt_kind (sym (rolls-For type n r b)) ∙ fold-roll-StmtKind Features Features Features Features Features Features Features Features Features Features Features Features Features Features kind_features modifier_features operand_features value_features item_features param_features body_features range_features stmt_kind_features expr_features type_features call_features place_features stmt_features (layer.For type n r b)

pub features-Break : of_stmt_kind Break ≡ stmt_kind_features layer.Break
features-Break =
    ap of_stmt_kind (sym rolls-Break) ∙ fold-roll-StmtKind Features Features Features Features Features Features Features Features Features Features Features Features Features Features kind_features modifier_features operand_features value_features item_features param_features body_features range_features stmt_kind_features expr_features type_features call_features place_features stmt_features layer.Break

pub features-Continue : of_stmt_kind Continue ≡ stmt_kind_features layer.Continue
features-Continue =
    ap of_stmt_kind (sym rolls-Continue) ∙ fold-roll-StmtKind Features Features Features Features Features Features Features Features Features Features Features Features Features Features kind_features modifier_features operand_features value_features item_features param_features body_features range_features stmt_kind_features expr_features type_features call_features place_features stmt_features layer.Continue

pub features-End : of_stmt_kind End ≡ stmt_kind_features layer.End
features-End =
    ap of_stmt_kind (sym rolls-End) ∙ fold-roll-StmtKind Features Features Features Features Features Features Features Features Features Features Features Features Features Features kind_features modifier_features operand_features value_features item_features param_features body_features range_features stmt_kind_features expr_features type_features call_features place_features stmt_features layer.End

-- ---- what begins at a place

pub features-Expr : (e : Expr) → of_expr e ≡ expr_features (record { span = e.span; kind = of_kind e.kind })
features-Expr e = fold_out-Expr Features Features Features Features Features Features Features Features Features Features Features Features Features Features kind_features modifier_features operand_features value_features item_features param_features body_features range_features stmt_kind_features expr_features type_features call_features place_features stmt_features e

pub features-Stmt : (s : Stmt) → of_stmt s ≡ of_stmt_kind s.kind
features-Stmt s = fold_out-Stmt Features Features Features Features Features Features Features Features Features Features Features Features Features Features kind_features modifier_features operand_features value_features item_features param_features body_features range_features stmt_kind_features expr_features type_features call_features place_features stmt_features s

pub features-Place : (name_of : Ident) (index : Option Expr) → of_place (roll-Place (record { name = name_of; index = index })) ≡ place_features (record { name = name_of; index = option_map of_expr index })
features-Place name_of None = fold-roll-Place Features Features Features Features Features Features Features Features Features Features Features Features Features Features kind_features modifier_features operand_features value_features item_features param_features body_features range_features stmt_kind_features expr_features type_features call_features place_features stmt_features (record { name = name_of; index = None })
features-Place name_of (Some index) = fold-roll-Place Features Features Features Features Features Features Features Features Features Features Features Features Features Features kind_features modifier_features operand_features value_features item_features param_features body_features range_features stmt_kind_features expr_features type_features call_features place_features stmt_features (record { name = name_of; index = Some index })

pub features-TypeExpr : (span : Span) (type : TypeWord) (width : Option Expr) → of_type (roll-TypeExpr (record { span = span; word = type; width = width })) ≡ type_features (record { span = span; word = type; width = option_map of_expr width })
features-TypeExpr span type None = fold-roll-TypeExpr Features Features Features Features Features Features Features Features Features Features Features Features Features Features kind_features modifier_features operand_features value_features item_features param_features body_features range_features stmt_kind_features expr_features type_features call_features place_features stmt_features (record { span = span; word = type; width = None })
features-TypeExpr span type (Some width) = fold-roll-TypeExpr Features Features Features Features Features Features Features Features Features Features Features Features Features Features kind_features modifier_features operand_features value_features item_features param_features body_features range_features stmt_kind_features expr_features type_features call_features place_features stmt_features (record { span = span; word = type; width = Some width })

pub features-Called : (modifiers : List Modifier) (name_of : Ident) (args : Option (List Expr)) (operands : List Operand) → of_call (roll-Call (record { modifiers = modifiers; name = name_of; args = args; operands = operands })) ≡ call_features (record { modifiers = map of_modifier modifiers; name = name_of; args = option_map (map of_expr) args; operands = map of_operand operands })
features-Called modifiers name_of None operands = fold-roll-Call Features Features Features Features Features Features Features Features Features Features Features Features Features Features kind_features modifier_features operand_features value_features item_features param_features body_features range_features stmt_kind_features expr_features type_features call_features place_features stmt_features (record { modifiers = modifiers; name = name_of; args = None; operands = operands })
features-Called modifiers name_of (Some args) operands = fold-roll-Call Features Features Features Features Features Features Features Features Features Features Features Features Features Features kind_features modifier_features operand_features value_features item_features param_features body_features range_features stmt_kind_features expr_features type_features call_features place_features stmt_features (record { modifiers = modifiers; name = name_of; args = Some args; operands = operands })
