-- The text of a tree, a line each statement at the top, with the statements in it in braces. This project's own.
use Rattle.std.specs.Prelude.{List, ℕ, [], ◌∷◌, ◌++◌, Bool, true, false, codes, decimal, map, Option, Some, None}
use Rattle.std.specs.Fmt.{signed_decimal}
use Rattle.qs_values.specs.declared.number.Frac.{Frac}
use Rattle.qs_values.specs.declared.span.Span.{Span}
use Rattle.qs_tree.specs.declared.name.Ident.{Ident}
use Rattle.qs_tree.specs.declared.pulse.CalName.{CalName}
use Rattle.qs_tree.specs.declared.pulse.CalName.TheVariants as calibrates
use Rattle.qs_tree.specs.declared.expr.ExprKind.{ExprKind}
use Rattle.qs_tree.specs.declared.expr.Expr.{Expr, Expr-F}
use Rattle.qs_tree.specs.declared.expr.TypeExpr.{TypeExpr, TypeExpr-F}
use Rattle.qs_tree.specs.declared.gate.Call.{Call, Call-F}
use Rattle.qs_tree.specs.declared.gate.Modifier.{Modifier}
use Rattle.qs_tree.specs.declared.operand.Operand.{Operand}
use Rattle.qs_tree.specs.declared.operand.Place.{Place, Place-F}
use Rattle.qs_tree.specs.declared.operand.Value.{Value}
use Rattle.qs_tree.specs.declared.pulse.Item.{Item}
use Rattle.qs_tree.specs.declared.pulse.Param.{Param}
use Rattle.qs_tree.specs.declared.source.Source.{Source}
use Rattle.qs_tree.specs.declared.statement.Body.{Body}
use Rattle.qs_tree.specs.declared.statement.Range.{Range}
use Rattle.qs_tree.specs.declared.statement.Stmt.{Stmt, Stmt-F}
use Rattle.qs_tree.specs.declared.statement.StmtKind.{StmtKind}
use Rattle.qs_tree.specs.declared.expr.ExprKind.TheOpen.{ExprKind-F, Modifier-F, Operand-F, Value-F, Item-F, Param-F, Body-F, Range-F, StmtKind-F}
use Rattle.qs_tree.specs.declared.expr.ExprKind.TheOpen as layer
use Rattle.qs_tree.specs.declared.expr.ExprKind.TheFolds.{fold-ExprKind, fold-Modifier, fold-Operand, fold-Value, fold-Item, fold-Param, fold-Body, fold-Range, fold-StmtKind, fold-Expr, fold-TypeExpr, fold-Call, fold-Place, fold-Stmt}
use Rattle.qs_tree.specs.Spelling.{sign_of_assign, sign_of_bin, sign_of_un, truth_word, word_of_type}
use Rattle.qasm_dump.specs.Tokens.{unit_text}

-- ---- texts that go on

-- what a text becomes once a part is written after it
abbrev pub Writer : Type 0
Writer = List ℕ → List ℕ

-- these characters
abbrev pub chars : List ℕ → Writer
chars text before = before ++ text

-- parts one after another
abbrev pub parts : List Writer → Writer
parts [] before = before
parts (w ∷ ws) before = parts ws (w before)

-- parts, each after a comma
abbrev pub after_commas : List Writer → Writer
after_commas [] before = before
after_commas (w ∷ ws) before = after_commas ws (w (before ++ codes ", "))

-- parts with commas between them
abbrev pub with_commas : List Writer → Writer
with_commas [] before = before
with_commas (w ∷ ws) before = after_commas ws (w before)

-- parts, each after a blank
abbrev pub after_blanks : List Writer → Writer
after_blanks [] before = before
after_blanks (w ∷ ws) before = after_blanks ws (w (before ++ codes " "))

-- parts in braces
abbrev pub in_braces : List Writer → Writer
in_braces ws before = after_blanks ws (before ++ codes "{") ++ codes " }"

-- a part in square brackets, where there is one
abbrev pub in_square_if : Option Writer → Writer
in_square_if None before = before
in_square_if (Some w) before = w (before ++ codes "[") ++ codes "]"

-- a part in round brackets, where there is one
abbrev pub in_round_if : Option Writer → Writer
in_round_if None before = before
in_round_if (Some w) before = w (before ++ codes "(") ++ codes ")"

-- parts in round brackets with commas between, where these brackets are there
abbrev pub list_if : Option (List Writer) → Writer
list_if None before = before
list_if (Some ws) before = with_commas ws (before ++ codes "(") ++ codes ")"

-- operands after a blank, with commas between, where there are some
abbrev pub operands_after : List Writer → Writer
operands_after [] before = before
operands_after (w ∷ ws) before = after_commas ws (w (before ++ codes " "))

-- characters and a part, where there is one
abbrev pub after_if : List ℕ → Option Writer → Writer
after_if text None before = before
after_if text (Some w) before = w (before ++ text)

-- characters where they stand there
abbrev pub chars_if : Bool → List ℕ → Writer
chars_if true text before = before ++ text
chars_if false text before = before

-- ---- places, numbers and names

-- a line and a column, and a blank
abbrev pub place : Span → Writer
place span = parts (chars (decimal span.line) ∷ chars (codes ":") ∷ chars (decimal span.col) ∷ chars (codes " ") ∷ [])

-- a fraction by its two parts
abbrev pub frac : Frac → Writer
frac value = parts (chars (signed_decimal value.num) ∷ chars (codes "/") ∷ chars (signed_decimal value.den) ∷ [])

-- a name
abbrev pub ident : Ident → Writer
ident n = chars n.name

-- names with commas between, and the same in brackets where these are there
abbrev pub idents : List Ident → Writer
idents ns = with_commas (map ident ns)

abbrev pub idents_if : Option (List Ident) → Writer
idents_if None before = before
idents_if (Some ns) before = idents ns (before ++ codes "(") ++ codes ")"

-- what a calibration is given for
abbrev pub calibrated : CalName → Writer
calibrated (calibrates.Gate n) = chars n.name
calibrated calibrates.Measure = chars (codes "measure")
calibrated calibrates.Reset = chars (codes "reset")

-- ---- one layer of each type, with its parts in their places

-- a layer whose parts are written
abbrev pub Layer : (Type 0 → Type 0 → Type 0 → Type 0 → Type 0 → Type 0 → Type 0 → Type 0 → Type 0 → Type 0 → Type 0 → Type 0 → Type 0 → Type 0 → Type 0) → Type 0
Layer F = F Writer Writer Writer Writer Writer Writer Writer Writer Writer Writer Writer Writer Writer Writer

-- an expression: each operator with its operands in brackets of its own
abbrev pub kind_step : Layer ExprKind-F → Writer
kind_step (layer.Whole value) = chars (decimal value)
kind_step (layer.Decimal value) = frac value
kind_step (layer.Time value unit) = parts (frac value ∷ chars (unit_text unit) ∷ [])
kind_step (layer.Text text) = chars text
kind_step (layer.Truth value) = chars (truth_word value)
kind_step (layer.Name name) = chars name
kind_step (layer.Index name index) = parts (chars name ∷ chars (codes "[") ∷ index ∷ chars (codes "]") ∷ [])
kind_step (layer.Physical number) = parts (chars (codes "$") ∷ chars (decimal number) ∷ [])
kind_step (layer.Call name args) = parts (chars name ∷ chars (codes "(") ∷ with_commas args ∷ chars (codes ")") ∷ [])
kind_step (layer.Cast type operand) = parts (type ∷ chars (codes "(") ∷ operand ∷ chars (codes ")") ∷ [])
kind_step (layer.DurationOf body) = parts (chars (codes "durationof(") ∷ in_braces body ∷ chars (codes ")") ∷ [])
kind_step (layer.Group inner) = parts (chars (codes "(") ∷ inner ∷ chars (codes ")") ∷ [])
kind_step (layer.Unary op operand) = parts (chars (codes "(") ∷ chars (sign_of_un op) ∷ chars (codes " ") ∷ operand ∷ chars (codes ")") ∷ [])
kind_step (layer.Binary left op right) =
    parts (chars (codes "(") ∷ left ∷ chars (codes " ") ∷ chars (sign_of_bin op) ∷ chars (codes " ") ∷ right ∷ chars (codes ")") ∷ [])
kind_step (layer.Number value) = chars (codes "number")

abbrev pub expr_step : Layer Expr-F → Writer
expr_step e = e.kind

-- a type, with its width
abbrev pub type_step : Layer TypeExpr-F → Writer
type_step t = parts (chars (word_of_type t.word) ∷ in_square_if t.width ∷ [])

-- a place, an operand and a value
abbrev pub place_step : Layer Place-F → Writer
place_step p = parts (ident p.name ∷ in_square_if p.index ∷ [])

abbrev pub operand_step : Layer Operand-F → Writer
operand_step (layer.Named p) = p
operand_step (layer.PhysicalQubit span number) = parts (chars (codes "$") ∷ chars (decimal number) ∷ [])

abbrev pub value_step : Layer Value-F → Writer
value_step (layer.Expression e) = e
value_step (layer.Measurement o) = parts (chars (codes "measure ") ∷ o ∷ [])

-- a modifier, and a call with its modifiers
abbrev pub modifier_step : Layer Modifier-F → Writer
modifier_step layer.Inv = chars (codes "inv @ ")
modifier_step (layer.Pow exponent) = parts (chars (codes "pow(") ∷ exponent ∷ chars (codes ") @ ") ∷ [])
modifier_step (layer.Ctrl count) = parts (chars (codes "ctrl") ∷ in_round_if count ∷ chars (codes " @ ") ∷ [])
modifier_step (layer.NegCtrl count) = parts (chars (codes "negctrl") ∷ in_round_if count ∷ chars (codes " @ ") ∷ [])

abbrev pub call_step : Layer Call-F → Writer
call_step c = parts (parts c.modifiers ∷ ident c.name ∷ list_if c.args ∷ operands_after c.operands ∷ [])

-- a parameter and an item of a calibration
abbrev pub param_step : Layer Param-F → Writer
param_step (layer.Free type n) = parts (type ∷ chars (codes " ") ∷ ident n ∷ [])
param_step (layer.Fixed e) = e

abbrev pub item_step : Layer Item-F → Writer
item_step (layer.Port span extern n) = parts (place span ∷ chars_if extern (codes "extern ") ∷ chars (codes "port ") ∷ ident n ∷ chars (codes ";") ∷ [])
item_step (layer.ExternFrame span n) = parts (place span ∷ chars (codes "extern frame ") ∷ ident n ∷ chars (codes ";") ∷ [])
item_step (layer.ExternWaveform span n) = parts (place span ∷ chars (codes "extern waveform ") ∷ ident n ∷ chars (codes ";") ∷ [])
item_step (layer.Frame span n e) = parts (place span ∷ chars (codes "frame ") ∷ ident n ∷ chars (codes " = ") ∷ e ∷ chars (codes ";") ∷ [])
item_step (layer.Return span e) = parts (place span ∷ chars (codes "return ") ∷ e ∷ chars (codes ";") ∷ [])
item_step (layer.Statement s) = s

-- a body: one statement without braces between angle brackets, which show where it ends; and what a `for` goes through
abbrev pub body_step : Layer Body-F → Writer
body_step (layer.One s) = parts (chars (codes "<") ∷ s ∷ chars (codes ">") ∷ [])
body_step (layer.Braces ss) = in_braces ss

abbrev pub range_step : Layer Range-F → Writer
range_step (layer.Interval span first step last) = parts (chars (codes "[") ∷ first ∷ after_if (codes ":") step ∷ chars (codes ":") ∷ last ∷ chars (codes "]") ∷ [])
range_step (layer.Set span members) = parts (chars (codes "{") ∷ with_commas members ∷ chars (codes "}") ∷ [])

-- a statement
abbrev pub stmt_kind_step : Layer StmtKind-F → Writer
stmt_kind_step (layer.Include text) = parts (chars (codes "include ") ∷ chars text ∷ chars (codes ";") ∷ [])
stmt_kind_step (layer.DefcalGrammar text) = parts (chars (codes "defcalgrammar ") ∷ chars text ∷ chars (codes ";") ∷ [])
stmt_kind_step (layer.Qubit size n) = parts (chars (codes "qubit") ∷ in_square_if size ∷ chars (codes " ") ∷ ident n ∷ chars (codes ";") ∷ [])
stmt_kind_step (layer.Input type n) = parts (chars (codes "input ") ∷ type ∷ chars (codes " ") ∷ ident n ∷ chars (codes ";") ∷ [])
stmt_kind_step (layer.Output type n) = parts (chars (codes "output ") ∷ type ∷ chars (codes " ") ∷ ident n ∷ chars (codes ";") ∷ [])
stmt_kind_step (layer.Gate n params qubits calls) =
    parts (chars (codes "gate ") ∷ ident n ∷ idents_if params ∷ chars (codes " ") ∷ idents qubits ∷ chars (codes " ") ∷ in_braces calls ∷ [])
stmt_kind_step (layer.Cal items) = parts (chars (codes "cal ") ∷ in_braces items ∷ [])
stmt_kind_step (layer.Defcal n params operands gives items) =
    parts (chars (codes "defcal ") ∷ calibrated n ∷ list_if params ∷ operands_after operands ∷ chars_if gives (codes " -> bit") ∷ chars (codes " ") ∷ in_braces items ∷ [])
stmt_kind_step (layer.Init is_const type n v) =
    parts (chars_if is_const (codes "const ") ∷ type ∷ chars (codes " ") ∷ ident n ∷ chars (codes " = ") ∷ v ∷ chars (codes ";") ∷ [])
stmt_kind_step (layer.Declare type n) = parts (type ∷ chars (codes " ") ∷ ident n ∷ chars (codes ";") ∷ [])
stmt_kind_step (layer.Stretch n) = parts (chars (codes "stretch ") ∷ ident n ∷ chars (codes ";") ∷ [])
stmt_kind_step (layer.GateCall c) = parts (c ∷ chars (codes ";") ∷ [])
stmt_kind_step (layer.Assign p v) = parts (p ∷ chars (codes " = ") ∷ v ∷ chars (codes ";") ∷ [])
stmt_kind_step (layer.Update p op e) = parts (p ∷ chars (codes " ") ∷ chars (sign_of_assign op) ∷ chars (codes " ") ∷ e ∷ chars (codes ";") ∷ [])
stmt_kind_step (layer.Measure o to) = parts (chars (codes "measure ") ∷ o ∷ after_if (codes " -> ") to ∷ chars (codes ";") ∷ [])
stmt_kind_step (layer.Reset o) = parts (chars (codes "reset ") ∷ o ∷ chars (codes ";") ∷ [])
stmt_kind_step (layer.Barrier operands) = parts (chars (codes "barrier") ∷ operands_after operands ∷ chars (codes ";") ∷ [])
stmt_kind_step (layer.Delay time operands) = parts (chars (codes "delay[") ∷ time ∷ chars (codes "]") ∷ operands_after operands ∷ chars (codes ";") ∷ [])
stmt_kind_step (layer.Box time statements) = parts (chars (codes "box") ∷ in_square_if time ∷ chars (codes " ") ∷ in_braces statements ∷ [])
stmt_kind_step (layer.If test body other) = parts (chars (codes "if (") ∷ test ∷ chars (codes ") ") ∷ body ∷ after_if (codes " else ") other ∷ [])
stmt_kind_step (layer.While test body) = parts (chars (codes "while (") ∷ test ∷ chars (codes ") ") ∷ body ∷ [])
stmt_kind_step (layer.For type n range body) =
    parts (chars (codes "for ") ∷ type ∷ chars (codes " ") ∷ ident n ∷ chars (codes " in ") ∷ range ∷ chars (codes " ") ∷ body ∷ [])
stmt_kind_step layer.Break = chars (codes "break;")
stmt_kind_step layer.Continue = chars (codes "continue;")
stmt_kind_step layer.End = chars (codes "end;")

abbrev pub stmt_step : Layer Stmt-F → Writer
stmt_step s = parts (place s.span ∷ s.kind ∷ [])

-- ---- whole trees

-- what an expression is
abbrev pub write_kind : ExprKind → Writer
write_kind = fold-ExprKind Writer Writer Writer Writer Writer Writer Writer Writer Writer Writer Writer Writer Writer Writer kind_step modifier_step operand_step value_step item_step param_step body_step range_step stmt_kind_step expr_step type_step call_step place_step stmt_step

-- a modifier
abbrev pub write_modifier : Modifier → Writer
write_modifier = fold-Modifier Writer Writer Writer Writer Writer Writer Writer Writer Writer Writer Writer Writer Writer Writer kind_step modifier_step operand_step value_step item_step param_step body_step range_step stmt_kind_step expr_step type_step call_step place_step stmt_step

-- an operand
abbrev pub write_operand : Operand → Writer
write_operand = fold-Operand Writer Writer Writer Writer Writer Writer Writer Writer Writer Writer Writer Writer Writer Writer kind_step modifier_step operand_step value_step item_step param_step body_step range_step stmt_kind_step expr_step type_step call_step place_step stmt_step

-- what is assigned
abbrev pub write_value : Value → Writer
write_value = fold-Value Writer Writer Writer Writer Writer Writer Writer Writer Writer Writer Writer Writer Writer Writer kind_step modifier_step operand_step value_step item_step param_step body_step range_step stmt_kind_step expr_step type_step call_step place_step stmt_step

-- an item of a calibration
abbrev pub write_item : Item → Writer
write_item = fold-Item Writer Writer Writer Writer Writer Writer Writer Writer Writer Writer Writer Writer Writer Writer kind_step modifier_step operand_step value_step item_step param_step body_step range_step stmt_kind_step expr_step type_step call_step place_step stmt_step

-- a parameter of a calibration
abbrev pub write_param : Param → Writer
write_param = fold-Param Writer Writer Writer Writer Writer Writer Writer Writer Writer Writer Writer Writer Writer Writer kind_step modifier_step operand_step value_step item_step param_step body_step range_step stmt_kind_step expr_step type_step call_step place_step stmt_step

-- a body
abbrev pub write_body : Body → Writer
write_body = fold-Body Writer Writer Writer Writer Writer Writer Writer Writer Writer Writer Writer Writer Writer Writer kind_step modifier_step operand_step value_step item_step param_step body_step range_step stmt_kind_step expr_step type_step call_step place_step stmt_step

-- the values of a `for`
abbrev pub write_range : Range → Writer
write_range = fold-Range Writer Writer Writer Writer Writer Writer Writer Writer Writer Writer Writer Writer Writer Writer kind_step modifier_step operand_step value_step item_step param_step body_step range_step stmt_kind_step expr_step type_step call_step place_step stmt_step

-- what a statement is
abbrev pub write_stmt_kind : StmtKind → Writer
write_stmt_kind = fold-StmtKind Writer Writer Writer Writer Writer Writer Writer Writer Writer Writer Writer Writer Writer Writer kind_step modifier_step operand_step value_step item_step param_step body_step range_step stmt_kind_step expr_step type_step call_step place_step stmt_step

-- an expression
abbrev pub write_expr : Expr → Writer
write_expr = fold-Expr Writer Writer Writer Writer Writer Writer Writer Writer Writer Writer Writer Writer Writer Writer kind_step modifier_step operand_step value_step item_step param_step body_step range_step stmt_kind_step expr_step type_step call_step place_step stmt_step

-- a type
abbrev pub write_type : TypeExpr → Writer
write_type = fold-TypeExpr Writer Writer Writer Writer Writer Writer Writer Writer Writer Writer Writer Writer Writer Writer kind_step modifier_step operand_step value_step item_step param_step body_step range_step stmt_kind_step expr_step type_step call_step place_step stmt_step

-- a call of a gate
abbrev pub write_call : Call → Writer
write_call = fold-Call Writer Writer Writer Writer Writer Writer Writer Writer Writer Writer Writer Writer Writer Writer kind_step modifier_step operand_step value_step item_step param_step body_step range_step stmt_kind_step expr_step type_step call_step place_step stmt_step

-- a place
abbrev pub write_place : Place → Writer
write_place = fold-Place Writer Writer Writer Writer Writer Writer Writer Writer Writer Writer Writer Writer Writer Writer kind_step modifier_step operand_step value_step item_step param_step body_step range_step stmt_kind_step expr_step type_step call_step place_step stmt_step

-- a statement at its place
abbrev pub write_stmt : Stmt → Writer
write_stmt = fold-Stmt Writer Writer Writer Writer Writer Writer Writer Writer Writer Writer Writer Writer Writer Writer kind_step modifier_step operand_step value_step item_step param_step body_step range_step stmt_kind_step expr_step type_step call_step place_step stmt_step

-- the line of a version, where there is one
abbrev pub after_version : Option (List ℕ) → Writer
after_version None before = before
after_version (Some text) before = ((before ++ codes "OPENQASM ") ++ text) ++ codes "\n"

-- a line for each statement
abbrev pub lines : List Stmt → Writer
lines [] before = before
lines (s ∷ ss) before = lines ss (write_stmt s before ++ codes "\n")

-- the text of a tree
abbrev pub tree_text : Source → List ℕ
tree_text source = lines source.body (after_version source.version [])
