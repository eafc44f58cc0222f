-- Which trees follow the grammar (OpenQASM 3.0, grammar, in this project's profile), and how large they are.
use Rattle.std.specs.Prelude.{ℕ, suc, ◌+◌, ◌≤◌, max, nat_le, nat_lt, List, [], ◌∷◌, map, Bool, true, false, ◌&&◌, ◌||◌, not, IsTrue, codes, Option, Some, None}
use Rattle.std.specs.List.{AllByRecursion, list_all}
use Rattle.std.specs.Str.{bytes_eq}
use Rattle.qs_values.specs.Names.{is_name}
use Rattle.qs_tree.specs.declared.operator.BinOp.{BinOp}
use Rattle.qs_tree.specs.declared.operator.BinOp.TheVariants.{Power, Mul, Div, Rem, Add, Sub, ShiftLeft, ShiftRight, Less, LessEqual, Greater, GreaterEqual, Equal, NotEqual, BitAnd, BitXor, BitOr, And, Or}
use Rattle.qs_tree.specs.declared.name.Ident.{Ident}
use Rattle.qs_tree.specs.declared.pulse.CalName.{CalName}
use Rattle.qs_tree.specs.declared.pulse.CalName.TheVariants as calibrates
use Rattle.qs_tree.specs.declared.expr.TypeWord.{TypeWord}
use Rattle.qs_tree.specs.declared.expr.TypeWord.TheVariants.{Bool as BoolWord, Duration}
use Rattle.qs_tree.specs.declared.expr.Expr.{Expr, Expr-F}
use Rattle.qs_tree.specs.declared.expr.TypeExpr.{TypeExpr, TypeExpr-F}
use Rattle.qs_tree.specs.declared.expr.ExprKind.{ExprKind}
use Rattle.qs_tree.specs.declared.gate.Call.{Call as Called, Call-F}
use Rattle.qs_tree.specs.declared.gate.Modifier.{Modifier}
use Rattle.qs_tree.specs.declared.operand.Place.{Place, Place-F}
use Rattle.qs_tree.specs.declared.operand.Operand.{Operand}
use Rattle.qs_tree.specs.declared.operand.Value.{Value}
use Rattle.qs_tree.specs.declared.pulse.Param.{Param}
use Rattle.qs_tree.specs.declared.pulse.Item.{Item}
use Rattle.qs_tree.specs.declared.source.Source.{Source}
use Rattle.qs_tree.specs.declared.statement.Stmt.{Stmt, Stmt-F}
use Rattle.qs_tree.specs.declared.statement.StmtKind.{StmtKind}
use Rattle.qs_tree.specs.declared.statement.Body.{Body}
use Rattle.qs_tree.specs.declared.statement.Range.{Range}
use Rattle.qs_tree.specs.declared.expr.ExprKind.TheOpen.{ExprKind-F, Modifier-F, Operand-F, Value-F, Item-F, Param-F, Body-F, Range-F, StmtKind-F}
use Rattle.qs_tree.specs.declared.expr.ExprKind.TheOpen.{Whole, Decimal, Time, Text, Truth, Name, Index, Physical, Call, Cast, DurationOf, Group, Unary, Binary, Number}
use Rattle.qs_tree.specs.declared.expr.ExprKind.TheOpen.{Inv, Pow, Ctrl, NegCtrl, Named, PhysicalQubit, Expression, Measurement, Free, Fixed, One, Braces, Interval, Set}
use Rattle.qs_tree.specs.declared.expr.ExprKind.TheOpen.{Port, ExternFrame, ExternWaveform, Frame, Return, Statement}
use Rattle.qs_tree.specs.declared.expr.ExprKind.TheOpen.{Include, DefcalGrammar, Qubit as QubitStmt, Input, Output, Gate, Cal, Defcal, Init, Declare, Stretch, GateCall, Assign, Update, Measure, Reset, Barrier, Delay, Box, If, While, For, Break, Continue, End}
use Rattle.qs_tree.specs.declared.expr.ExprKind.TheFolds.{fold-Expr, fold-TypeExpr, fold-Place, fold-Operand, fold-Value, fold-Modifier, fold-Call, fold-Param, fold-Item, fold-Body, fold-Range, fold-ExprKind, fold-StmtKind, fold-Stmt}

-- ---- how tightly an expression binds, the loosest first

-- the level of an operator between its operands
abbrev pub level_of : BinOp → ℕ
level_of Or = 0
level_of And = 1
level_of BitOr = 2
level_of BitXor = 3
level_of BitAnd = 4
level_of Equal = 5
level_of NotEqual = 5
level_of Less = 6
level_of LessEqual = 6
level_of Greater = 6
level_of GreaterEqual = 6
level_of ShiftLeft = 7
level_of ShiftRight = 7
level_of Add = 8
level_of Sub = 8
level_of Mul = 9
level_of Div = 9
level_of Rem = 9
level_of Power = 11

-- the level of an operator before its operand, and of what has no operator outside of brackets
abbrev pub unary_level : ℕ
unary_level = 10

abbrev pub primary_level : ℕ
primary_level = 12

-- whether operands of these levels may stand beside an operator: `**` groups to the right, and a sign may begin its right operand; all others group to the left
abbrev pub binds : ℕ → BinOp → ℕ → Bool
binds left Power right = nat_lt (level_of Power) left && nat_le unary_level right
binds left op right = nat_le (level_of op) left && nat_lt (level_of op) right

-- ---- what the rules of the grammar speak of

-- where a statement may stand: at the top of a source alone, in the body of a gate too, or where other statements do
pub data Standing : Type 0 where
  AtTop : Standing
  AsCall : Standing
  Anywhere : Standing

-- What the rules speak of in a part of a tree: whether all in it follows them, the limits aside; how tightly it binds; how many nested statements, brackets and signs are open at one place of it at most; how many operators it has; how many an expression of it has at most, with all that is in it; where it may stand; whether it ends with an `if` without `else`.
pub record Features : Type 0 where
  pub follows : Bool
  pub level : ℕ
  pub depth : ℕ
  pub operators : ℕ
  pub most_operators : ℕ
  pub standing : Standing
  pub lacks_else : Bool

-- a part that has none
abbrev pub nothing : Features
nothing = record { follows = true; level = primary_level; depth = 0; operators = 0; most_operators = 0; standing = Anywhere; lacks_else = false }

-- two parts side by side
abbrev pub both : Features → Features → Features
both a b = record {
  follows = a.follows && b.follows;
  level = primary_level;
  depth = max a.depth b.depth;
  operators = a.operators + b.operators;
  most_operators = max a.most_operators b.most_operators;
  standing = Anywhere;
  lacks_else = false;
}

-- parts side by side
abbrev pub all : List Features → Features
all [] = nothing
all (f ∷ fs) = both f (all fs)

-- a part that may be left out
abbrev pub if_there : Option Features → Features
if_there None = nothing
if_there (Some f) = f

-- a part where a rule has to hold beside its own
abbrev pub where_true : Bool → Features → Features
where_true rule f = record f { follows = rule && f.follows }

-- a part on its own: how it binds and ends no longer counts
abbrev pub part : Features → Features
part f = record f { level = primary_level; standing = Anywhere; lacks_else = false }

-- a part in a pair of brackets
abbrev pub in_brackets : Features → Features
in_brackets f = record (part f) { depth = suc f.depth }

-- the same where it isn't left out
abbrev pub if_in_brackets : Option Features → Features
if_in_brackets None = nothing
if_in_brackets (Some f) = in_brackets f

-- whether a statement may stand in another one, and in the body of a gate
abbrev pub may_nest : Standing → Bool
may_nest AtTop = false
may_nest AsCall = true
may_nest Anywhere = true

abbrev pub is_call : Standing → Bool
is_call AtTop = false
is_call AsCall = true
is_call Anywhere = false

-- a statement in another one
abbrev pub nested : Features → Features
nested f = where_true (may_nest f.standing) (record (part f) { depth = suc f.depth })

-- statements in braces
abbrev pub block : List Features → Features
block fs = in_brackets (all (map nested fs))

-- whether a list isn't empty
abbrev pub is_some : {A : Type 0} → List A → Bool
is_some [] = false
is_some (x ∷ xs) = true

-- whether all these are names
abbrev pub are_names : List Ident → Bool
are_names ns = list_all (λ n. is_name n.name) ns

-- the rule of a gate's parameters, whose brackets may be left out, and what they are
abbrev pub are_params : Option (List Ident) → Bool
are_params None = true
are_params (Some ns) = are_names ns

abbrev pub brackets_of : Option (List Ident) → Features
brackets_of None = nothing
brackets_of (Some ns) = in_brackets nothing

-- the rule of what a calibration is given for
abbrev pub is_calibrated : CalName → Bool
is_calibrated (calibrates.Gate n) = is_name n.name
is_calibrated calibrates.Measure = true
is_calibrated calibrates.Reset = true

-- the rule of a type: `bool` and `duration` have no width
abbrev pub may_have_width : TypeWord → Option Features → Bool
may_have_width BoolWord (Some width) = false
may_have_width Duration (Some width) = false
may_have_width type width = true

-- the rule of an `if`: an `else` belongs to the nearest one
abbrev pub is_nearest : Features → Option Features → Bool
is_nearest body None = true
is_nearest body (Some other) = not body.lacks_else

-- whether an `if` of this body and this other one ends without `else`
abbrev pub if_lacks_else : Option Features → Bool
if_lacks_else None = true
if_lacks_else (Some other) = other.lacks_else

-- ---- one layer of each type, with the features of its parts in their places

-- a layer whose parts are features
abbrev pub Layer : (Type 0 → Type 0 → Type 0 → Type 0 → Type 0 → Type 0 → Type 0 → Type 0 → Type 0 → Type 0 → Type 0 → Type 0 → Type 0 → Type 0 → Type 0) → Type 0
Layer F = F Features Features Features Features Features Features Features Features Features Features Features Features Features Features

-- what an expression is
abbrev pub kind_features : Layer ExprKind-F → Features
kind_features (Whole value) = nothing
kind_features (Decimal value) = nothing
kind_features (Time value unit) = nothing
kind_features (Text text) = nothing
kind_features (Truth value) = nothing
kind_features (Name name) = where_true (is_name name) nothing
kind_features (Index name index) = where_true (is_name name) (in_brackets index)
kind_features (Physical number) = nothing
kind_features (Call name args) = where_true (is_name name) (in_brackets (all args))
kind_features (Cast type operand) = both type (in_brackets operand)
kind_features (DurationOf body) = in_brackets (block body)
kind_features (Group inner) = in_brackets inner
kind_features (Unary op operand) =
    where_true (nat_le unary_level operand.level) (record operand { level = unary_level; depth = suc operand.depth; operators = suc operand.operators })
kind_features (Binary left op right) =
    where_true (binds left.level op right.level) (record (both left right) { level = level_of op; operators = suc (left.operators + right.operators) })
kind_features (Number value) = where_true false nothing

-- an expression: no part of it has more operators
abbrev pub expr_features : Layer Expr-F → Features
expr_features e = record e.kind { most_operators = e.kind.operators }

-- a type
abbrev pub type_features : Layer TypeExpr-F → Features
type_features t = where_true (may_have_width t.word t.width) (if_in_brackets t.width)

-- a place, an operand and a value
abbrev pub place_features : Layer Place-F → Features
place_features p = where_true (is_name p.name.name) (if_in_brackets p.index)

abbrev pub operand_features : Layer Operand-F → Features
operand_features (Named place) = place
operand_features (PhysicalQubit span number) = nothing

abbrev pub value_features : Layer Value-F → Features
value_features (Expression e) = e
value_features (Measurement operand) = operand

-- a modifier, and a call with its modifiers
abbrev pub modifier_features : Layer Modifier-F → Features
modifier_features Inv = nothing
modifier_features (Pow exponent) = in_brackets exponent
modifier_features (Ctrl count) = if_in_brackets count
modifier_features (NegCtrl count) = if_in_brackets count

abbrev pub call_features : Layer Call-F → Features
call_features c = where_true (is_name c.name.name) (both (all c.modifiers) (both (args_of c.args) (all c.operands)))
  where
    args_of : Option (List Features) → Features
    args_of None = nothing
    args_of (Some args) = in_brackets (all args)

-- a parameter and an item of a calibration
abbrev pub param_features : Layer Param-F → Features
param_features (Free type name) = where_true (is_name name.name) type
param_features (Fixed e) = e

abbrev pub item_features : Layer Item-F → Features
item_features (Port span extern name) = where_true (is_name name.name) nothing
item_features (ExternFrame span name) = where_true (is_name name.name) nothing
item_features (ExternWaveform span name) = where_true (is_name name.name) nothing
item_features (Frame span name e) = where_true (is_name name.name) (part e)
item_features (Return span e) = part e
item_features (Statement statement) = statement

-- a body, and what a `for` goes through
abbrev pub body_features : Layer Body-F → Features
body_features (One statement) = record (nested statement) { lacks_else = statement.lacks_else }
body_features (Braces statements) = block statements

abbrev pub range_features : Layer Range-F → Features
range_features (Interval span first step last) = in_brackets (both first (both (if_there step) last))
range_features (Set span members) = where_true (is_some members) (in_brackets (all members))

-- a statement that stands at the top alone
abbrev pub at_top : Features → Features
at_top f = record f { standing = AtTop }

-- what a statement is
abbrev pub stmt_kind_features : Layer StmtKind-F → Features
stmt_kind_features (Include text) = at_top nothing
stmt_kind_features (DefcalGrammar text) = at_top nothing
stmt_kind_features (QubitStmt size name) = at_top (where_true (is_name name.name) (if_in_brackets size))
stmt_kind_features (Input type name) = at_top (where_true (is_name name.name) type)
stmt_kind_features (Output type name) = at_top (where_true (is_name name.name) type)
stmt_kind_features (Gate name params qubits calls) =
    at_top (where_true (is_name name.name && are_params params && are_names qubits && is_some qubits && list_all (λ c. is_call c.standing) calls) (both (brackets_of params) (block calls)))
stmt_kind_features (Cal items) = at_top (block items)
stmt_kind_features (Defcal name params operands gives items) =
    at_top (where_true (is_calibrated name && is_some operands) (both (params_of params) (both (all operands) (block items))))
  where
    params_of : Option (List Features) → Features
    params_of None = nothing
    params_of (Some ps) = in_brackets (all ps)
stmt_kind_features (Init is_const type name value) = where_true (is_name name.name) (both type value)
stmt_kind_features (Declare type name) = where_true (is_name name.name) type
stmt_kind_features (Stretch name) = where_true (is_name name.name) nothing
stmt_kind_features (GateCall call) = record call { standing = AsCall }
stmt_kind_features (Assign place value) = both place value
stmt_kind_features (Update place op value) = both place value
stmt_kind_features (Measure operand place) = both operand (if_there place)
stmt_kind_features (Reset operand) = operand
stmt_kind_features (Barrier operands) = all operands
stmt_kind_features (Delay time operands) = where_true (is_some operands) (both (in_brackets time) (all operands))
stmt_kind_features (Box time statements) = both (if_in_brackets time) (block statements)
stmt_kind_features (If test body other) =
    where_true (is_nearest body other) (record (both (in_brackets test) (both body (if_there other))) { lacks_else = if_lacks_else other })
stmt_kind_features (While test body) = record (both (in_brackets test) body) { lacks_else = body.lacks_else }
stmt_kind_features (For type name range body) = where_true (is_name name.name) (record (both type (both range body)) { lacks_else = body.lacks_else })
stmt_kind_features Break = nothing
stmt_kind_features Continue = nothing
stmt_kind_features End = nothing

abbrev pub stmt_features : Layer Stmt-F → Features
stmt_features s = s.kind

-- ---- whole trees

-- a fold over these layers
abbrev pub by_features : {T : Type 0} → ((Layer ExprKind-F → Features) → (Layer Modifier-F → Features) → (Layer Operand-F → Features) → (Layer Value-F → Features) → (Layer Item-F → Features) → (Layer Param-F → Features) → (Layer Body-F → Features) → (Layer Range-F → Features) → (Layer StmtKind-F → Features) → (Layer Expr-F → Features) → (Layer TypeExpr-F → Features) → (Layer Call-F → Features) → (Layer Place-F → Features) → (Layer Stmt-F → Features) → T → Features) → T → Features
by_features fold = fold kind_features modifier_features operand_features value_features item_features param_features body_features range_features stmt_kind_features expr_features type_features call_features place_features stmt_features

-- the features of what an expression is
abbrev pub of_kind : ExprKind → Features
of_kind = by_features (fold-ExprKind Features Features Features Features Features Features Features Features Features Features Features Features Features Features)

-- the features of an expression
abbrev pub of_expr : Expr → Features
of_expr = by_features (fold-Expr Features Features Features Features Features Features Features Features Features Features Features Features Features Features)

-- the features of a type
abbrev pub of_type : TypeExpr → Features
of_type = by_features (fold-TypeExpr Features Features Features Features Features Features Features Features Features Features Features Features Features Features)

-- the features of a place
abbrev pub of_place : Place → Features
of_place = by_features (fold-Place Features Features Features Features Features Features Features Features Features Features Features Features Features Features)

-- the features of an operand
abbrev pub of_operand : Operand → Features
of_operand = by_features (fold-Operand Features Features Features Features Features Features Features Features Features Features Features Features Features Features)

-- the features of a value
abbrev pub of_value : Value → Features
of_value = by_features (fold-Value Features Features Features Features Features Features Features Features Features Features Features Features Features Features)

-- the features of a modifier
abbrev pub of_modifier : Modifier → Features
of_modifier = by_features (fold-Modifier Features Features Features Features Features Features Features Features Features Features Features Features Features Features)

-- the features of a call
abbrev pub of_call : Called → Features
of_call = by_features (fold-Call Features Features Features Features Features Features Features Features Features Features Features Features Features Features)

-- the features of a parameter of a calibration
abbrev pub of_param : Param → Features
of_param = by_features (fold-Param Features Features Features Features Features Features Features Features Features Features Features Features Features Features)

-- the features of an item of a calibration
abbrev pub of_item : Item → Features
of_item = by_features (fold-Item Features Features Features Features Features Features Features Features Features Features Features Features Features Features)

-- the features of a body
abbrev pub of_body : Body → Features
of_body = by_features (fold-Body Features Features Features Features Features Features Features Features Features Features Features Features Features Features)

-- the features of a range
abbrev pub of_range : Range → Features
of_range = by_features (fold-Range Features Features Features Features Features Features Features Features Features Features Features Features Features Features)

-- the features of what a statement is
abbrev pub of_stmt_kind : StmtKind → Features
of_stmt_kind = by_features (fold-StmtKind Features Features Features Features Features Features Features Features Features Features Features Features Features Features)

-- the features of a statement
abbrev pub of_stmt : Stmt → Features
of_stmt = by_features (fold-Stmt Features Features Features Features Features Features Features Features Features Features Features Features Features Features)

-- ---- well formed trees

-- how deep a statement may be, and how many operators an expression may have
pub record Limits : Type 0 where
  pub depth : ℕ
  pub operators : ℕ

-- the limits of a source
abbrev pub limits : Limits
limits = record { depth = 64; operators = 1024 }

-- twice the limits: up to these a statement is too deep, past them it is none
abbrev pub twice_limits : Limits
twice_limits = record { depth = 128; operators = 2048 }

-- a statement follows the grammar within limits
pub record IsWellFormed (within : Limits) (s : Stmt) : Type 0 where
  pub follows : IsTrue (of_stmt s).follows
  pub depth : (of_stmt s).depth ≤ within.depth
  pub operators : (of_stmt s).most_operators ≤ within.operators

-- whether the text of a number is a known version
abbrev pub is_version : List ℕ → Bool
is_version text = bytes_eq text (codes "3") || bytes_eq text (codes "3.0")

-- a version line, where there is one, is a known one
abbrev pub IsVersion : Option (List ℕ) → Type 0
IsVersion None = Unit {0}
IsVersion (Some text) = IsTrue (is_version text)

-- a source follows the grammar
pub record IsSource (source : Source) : Type 0 where
  pub version : IsVersion source.version
  pub body : AllByRecursion (IsWellFormed limits) source.body
