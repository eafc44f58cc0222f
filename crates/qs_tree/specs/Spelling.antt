-- The tokens of a tree (OpenQASM 3.0, grammar). This project's own.
use Rattle.std.specs.Prelude.{◌≡◌, ℕ, List, [], ◌∷◌, ◌++◌, map, Bool, true, false, codes, Option, Some, None}
use Rattle.std.specs.List.{AllByRecursion, flat_map}
use Rattle.qs_values.specs.declared.number.Frac.{Frac}
use Rattle.qs_values.specs.declared.number.Num.{Num}
use Rattle.qs_values.specs.declared.span.Span.{Span}
use Rattle.qs_lexer.specs.declared.token.Token.{Token}
use Rattle.qs_lexer.specs.declared.token.TokenKind.{TokenKind}
use Rattle.qs_lexer.specs.declared.token.TokenKind.TheVariants as kind
use Rattle.qs_lexer.specs.declared.token.Unit.{Unit as TimeUnit}
use Rattle.qs_tree.specs.declared.assign.AssignOp.{AssignOp}
use Rattle.qs_tree.specs.declared.assign.AssignOp.TheVariants as assigns
use Rattle.qs_tree.specs.declared.operator.UnOp.{UnOp}
use Rattle.qs_tree.specs.declared.operator.UnOp.TheVariants.{Not, Neg, Invert}
use Rattle.qs_tree.specs.declared.operator.BinOp.{BinOp}
use Rattle.qs_tree.specs.declared.operator.BinOp.TheVariants.{Power, Mul, Div, Rem, Add, Sub, ShiftLeft, ShiftRight, Less, LessEqual, Greater, GreaterEqual, Equal, NotEqual, BitAnd, BitXor, BitOr, And, Or}
use Rattle.qs_tree.specs.declared.name.Ident.{Ident}
use Rattle.qs_tree.specs.declared.pulse.CalName.{CalName}
use Rattle.qs_tree.specs.declared.pulse.CalName.TheVariants as calibrates
use Rattle.qs_tree.specs.declared.expr.TypeWord.{TypeWord}
use Rattle.qs_tree.specs.declared.expr.TypeWord.TheVariants.{Bit, Int, Uint, Angle, Bool as BoolWord, Duration}
use Rattle.qs_tree.specs.declared.expr.Expr.{Expr, Expr-F}
use Rattle.qs_tree.specs.declared.expr.TypeExpr.{TypeExpr, TypeExpr-F}
use Rattle.qs_tree.specs.declared.expr.ExprKind.{ExprKind}
use Rattle.qs_tree.specs.declared.gate.Call.{Call as Called, Call-F}
use Rattle.qs_tree.specs.declared.gate.Modifier.{Modifier}
use Rattle.qs_tree.specs.declared.operand.Place.{Place, Place-F}
use Rattle.qs_tree.specs.declared.operand.Operand.{Operand}
use Rattle.qs_tree.specs.declared.operand.Value.{Value}
use Rattle.qs_tree.specs.declared.pulse.Param.{Param}
use Rattle.qs_tree.specs.declared.pulse.Item.{Item}
use Rattle.qs_tree.specs.declared.source.Source.{Source}
use Rattle.qs_tree.specs.declared.statement.Stmt.{Stmt, Stmt-F}
use Rattle.qs_tree.specs.declared.statement.StmtKind.{StmtKind}
use Rattle.qs_tree.specs.declared.statement.Body.{Body}
use Rattle.qs_tree.specs.declared.statement.Range.{Range}
use Rattle.qs_tree.specs.declared.expr.ExprKind.TheOpen.{ExprKind-F, Modifier-F, Operand-F, Value-F, Item-F, Param-F, Body-F, Range-F, StmtKind-F}
use Rattle.qs_tree.specs.declared.expr.ExprKind.TheOpen.{Whole, Decimal, Time, Text, Truth, Name, Index, Physical, Call, Cast, DurationOf, Group, Unary, Binary, Number}
use Rattle.qs_tree.specs.declared.expr.ExprKind.TheOpen.{Inv, Pow, Ctrl, NegCtrl, Named, PhysicalQubit, Expression, Measurement, Free, Fixed, One, Braces, Interval, Set}
use Rattle.qs_tree.specs.declared.expr.ExprKind.TheOpen.{Port, ExternFrame, ExternWaveform, Frame, Return, Statement}
use Rattle.qs_tree.specs.declared.expr.ExprKind.TheOpen.{Include, DefcalGrammar, Qubit as QubitStmt, Input, Output, Gate, Cal, Defcal, Init, Declare, Stretch, GateCall, Assign, Update, Measure, Reset, Barrier, Delay, Box, If, While, For, Break, Continue, End}
use Rattle.qs_tree.specs.declared.expr.ExprKind.TheFolds.{fold-ExprKind, fold-Expr, fold-TypeExpr, fold-Place, fold-Operand, fold-Value, fold-Modifier, fold-Call, fold-Param, fold-Item, fold-Body, fold-Range, fold-StmtKind, fold-Stmt}

-- ---- pieces, and the tokens that they spell

-- what the grammar sees of a token: the text of a word, a sign or a text, and the value of a number; of a number in a version line its text. No token shows a constant that was put in for a parameter
pub data Shown : Type 0 where
  Word : (text : List ℕ) → Shown
  Sign : (text : List ℕ) → Shown
  Quoted : (text : List ℕ) → Shown
  Qubit : (number : ℕ) → Shown
  Integer : (value : ℕ) → Shown
  Fraction : (value : Frac) → Shown
  Period : (value : Frac) → (unit : TimeUnit) → Shown
  Version : (text : List ℕ) → Shown
  Inserted : (value : Num) → Shown

-- one token of a spelling: what it shows, and where everything begins that begins with it
pub record Piece : Type 0 where
  pub shows : Shown
  pub places : List Span

-- the kinds of a version's number
abbrev pub IsNumber : TokenKind → Type 0
IsNumber (kind.Whole value) = Unit {0}
IsNumber (kind.Decimal value) = Unit {0}
IsNumber kind.Word = ⊥
IsNumber (kind.Physical number) = ⊥
IsNumber (kind.Time value unit) = ⊥
IsNumber kind.Text = ⊥
IsNumber kind.Sign = ⊥

-- what a token shows
abbrev pub Shows : Token → Shown → Type 0
Shows t (Word text) = (t.kind ≡ kind.Word) × (t.text ≡ text)
Shows t (Sign text) = (t.kind ≡ kind.Sign) × (t.text ≡ text)
Shows t (Quoted text) = (t.kind ≡ kind.Text) × (t.text ≡ text)
Shows t (Qubit number) = t.kind ≡ kind.Physical number
Shows t (Integer value) = t.kind ≡ kind.Whole value
Shows t (Fraction value) = t.kind ≡ kind.Decimal value
Shows t (Period value unit) = t.kind ≡ kind.Time value unit
Shows t (Version text) = IsNumber t.kind × (t.text ≡ text)
Shows t (Inserted value) = ⊥

-- a token is the one of a piece
abbrev pub IsTokenOf : Piece → Token → Type 0
IsTokenOf p t = Shows t p.shows × AllByRecursion (λ place. t.span ≡ place) p.places

-- pieces spell tokens: one piece a token, in order
abbrev pub Spells : List Piece → List Token → Type 0
Spells [] [] = Unit {0}
Spells [] (t ∷ ts) = ⊥
Spells (p ∷ ps) [] = ⊥
Spells (p ∷ ps) (t ∷ ts) = IsTokenOf p t × Spells ps ts

-- ---- parts of a spelling

-- a token alone
abbrev pub piece : Shown → List Piece
piece shows = record { shows = shows; places = [] } ∷ []

-- a word, and a sign
abbrev pub word : List ℕ → List Piece
word text = piece (Word text)

abbrev pub sign : List ℕ → List Piece
sign text = piece (Sign text)

-- pieces of what begins at a place
abbrev pub at_place : Span → List Piece → List Piece
at_place place [] = []
at_place place (p ∷ ps) = record { shows = p.shows; places = place ∷ p.places } ∷ ps

-- parts one after another
abbrev pub joined : List (List Piece) → List Piece
joined parts = flat_map (λ x. x) parts

-- pieces in brackets
abbrev pub in_round : List Piece → List Piece
in_round inner = sign (codes "(") ++ inner ++ sign (codes ")")

abbrev pub in_square : List Piece → List Piece
in_square inner = sign (codes "[") ++ inner ++ sign (codes "]")

abbrev pub in_braces : List (List Piece) → List Piece
in_braces inner = sign (codes "{") ++ joined inner ++ sign (codes "}")

-- parts, each but the first after a comma
abbrev pub after_commas : List (List Piece) → List Piece
after_commas [] = []
after_commas (x ∷ xs) = sign (codes ",") ++ x ++ after_commas xs

-- parts with commas between them
abbrev pub with_commas : List (List Piece) → List Piece
with_commas [] = []
with_commas (x ∷ xs) = x ++ after_commas xs

-- what may be left out, with what stands around it
abbrev pub if_there : {A : Type 0} → (A → List Piece) → Option A → List Piece
if_there around None = []
if_there around (Some x) = around x

-- a word that may be left out
abbrev pub word_if : Bool → List ℕ → List Piece
word_if true text = word text
word_if false text = []

-- a name
abbrev pub name : Ident → List Piece
name n = at_place n.span (word n.name)

-- names with commas between them
abbrev pub names : List Ident → List Piece
names ns = with_commas (map name ns)

-- ---- operators and words

-- the sign of an operator before its operand
abbrev pub sign_of_un : UnOp → List ℕ
sign_of_un Not = codes "!"
sign_of_un Neg = codes "-"
sign_of_un Invert = codes "~"

-- the sign of an operator between its operands
abbrev pub sign_of_bin : BinOp → List ℕ
sign_of_bin Power = codes "**"
sign_of_bin Mul = codes "*"
sign_of_bin Div = codes "/"
sign_of_bin Rem = codes "%"
sign_of_bin Add = codes "+"
sign_of_bin Sub = codes "-"
sign_of_bin ShiftLeft = codes "<<"
sign_of_bin ShiftRight = codes ">>"
sign_of_bin Less = codes "<"
sign_of_bin LessEqual = codes "<="
sign_of_bin Greater = codes ">"
sign_of_bin GreaterEqual = codes ">="
sign_of_bin Equal = codes "=="
sign_of_bin NotEqual = codes "!="
sign_of_bin BitAnd = codes "&"
sign_of_bin BitXor = codes "^"
sign_of_bin BitOr = codes "|"
sign_of_bin And = codes "&&"
sign_of_bin Or = codes "||"

-- the sign of an operator that assigns
abbrev pub sign_of_assign : AssignOp → List ℕ
sign_of_assign assigns.Add = codes "+="
sign_of_assign assigns.Sub = codes "-="
sign_of_assign assigns.Mul = codes "*="
sign_of_assign assigns.Div = codes "/="
sign_of_assign assigns.Rem = codes "%="
sign_of_assign assigns.BitAnd = codes "&="
sign_of_assign assigns.BitOr = codes "|="
sign_of_assign assigns.BitXor = codes "^="
sign_of_assign assigns.ShiftLeft = codes "<<="
sign_of_assign assigns.ShiftRight = codes ">>="

-- a type's word
abbrev pub word_of_type : TypeWord → List ℕ
word_of_type Bit = codes "bit"
word_of_type Int = codes "int"
word_of_type Uint = codes "uint"
word_of_type Angle = codes "angle"
word_of_type BoolWord = codes "bool"
word_of_type Duration = codes "duration"

-- the word of a truth value
abbrev pub truth_word : Bool → List ℕ
truth_word true = codes "true"
truth_word false = codes "false"

-- what a calibration is given for
abbrev pub calibrated : CalName → List Piece
calibrated (calibrates.Gate n) = name n
calibrated calibrates.Measure = word (codes "measure")
calibrated calibrates.Reset = word (codes "reset")

-- what a calibration gives
abbrev pub given_bit : Bool → List Piece
given_bit true = sign (codes "->") ++ word (codes "bit")
given_bit false = []

-- ---- one layer of each type, with the pieces of its parts in their places

-- a layer whose parts are pieces
abbrev pub Layer : (Type 0 → Type 0 → Type 0 → Type 0 → Type 0 → Type 0 → Type 0 → Type 0 → Type 0 → Type 0 → Type 0 → Type 0 → Type 0 → Type 0 → Type 0) → Type 0
Layer F = F (List Piece) (List Piece) (List Piece) (List Piece) (List Piece) (List Piece) (List Piece) (List Piece) (List Piece) (List Piece) (List Piece) (List Piece) (List Piece) (List Piece)

-- an expression
abbrev pub kind_step : Layer ExprKind-F → List Piece
kind_step (Whole value) = piece (Integer value)
kind_step (Decimal value) = piece (Fraction value)
kind_step (Time value unit) = piece (Period value unit)
kind_step (Text text) = piece (Quoted text)
kind_step (Truth value) = word (truth_word value)
kind_step (Name n) = word n
kind_step (Index n index) = word n ++ in_square index
kind_step (Physical number) = piece (Qubit number)
kind_step (Call n args) = word n ++ in_round (with_commas args)
kind_step (Cast type operand) = type ++ in_round operand
kind_step (DurationOf body) = word (codes "durationof") ++ in_round (in_braces body)
kind_step (Group inner) = in_round inner
kind_step (Unary op operand) = sign (sign_of_un op) ++ operand
kind_step (Binary left op right) = left ++ sign (sign_of_bin op) ++ right
kind_step (Number value) = piece (Inserted value)

abbrev pub expr_step : Layer Expr-F → List Piece
expr_step e = at_place e.span e.kind

-- a type, with its width
abbrev pub type_step : Layer TypeExpr-F → List Piece
type_step t = at_place t.span (word (word_of_type t.word) ++ if_there in_square t.width)

-- a place, an operand and a value
abbrev pub place_step : Layer Place-F → List Piece
place_step p = name p.name ++ if_there in_square p.index

abbrev pub operand_step : Layer Operand-F → List Piece
operand_step (Named p) = p
operand_step (PhysicalQubit span number) = at_place span (piece (Qubit number))

abbrev pub value_step : Layer Value-F → List Piece
value_step (Expression e) = e
value_step (Measurement o) = word (codes "measure") ++ o

-- a call with its modifiers
abbrev pub modifier_step : Layer Modifier-F → List Piece
modifier_step Inv = word (codes "inv") ++ sign (codes "@")
modifier_step (Pow exponent) = word (codes "pow") ++ in_round exponent ++ sign (codes "@")
modifier_step (Ctrl count) = word (codes "ctrl") ++ if_there in_round count ++ sign (codes "@")
modifier_step (NegCtrl count) = word (codes "negctrl") ++ if_there in_round count ++ sign (codes "@")

abbrev pub call_step : Layer Call-F → List Piece
call_step c = joined c.modifiers ++ name c.name ++ if_there (λ args. in_round (with_commas args)) c.args ++ with_commas c.operands

-- a parameter and an item of a calibration
abbrev pub param_step : Layer Param-F → List Piece
param_step (Free type n) = type ++ name n
param_step (Fixed e) = e

abbrev pub item_step : Layer Item-F → List Piece
item_step (Port span extern n) = at_place span (word_if extern (codes "extern") ++ word (codes "port") ++ name n ++ sign (codes ";"))
item_step (ExternFrame span n) = at_place span (word (codes "extern") ++ word (codes "frame") ++ name n ++ sign (codes ";"))
item_step (ExternWaveform span n) = at_place span (word (codes "extern") ++ word (codes "waveform") ++ name n ++ sign (codes ";"))
item_step (Frame span n e) = at_place span (word (codes "frame") ++ name n ++ sign (codes "=") ++ e ++ sign (codes ";"))
item_step (Return span e) = at_place span (word (codes "return") ++ e ++ sign (codes ";"))
item_step (Statement s) = s

-- a body, and what a `for` goes through
abbrev pub body_step : Layer Body-F → List Piece
body_step (One s) = s
body_step (Braces ss) = in_braces ss

abbrev pub range_step : Layer Range-F → List Piece
range_step (Interval span first step last) = at_place span (in_square (first ++ sign (codes ":") ++ if_there (λ s. s ++ sign (codes ":")) step ++ last))
range_step (Set span members) = at_place span (sign (codes "{") ++ with_commas members ++ sign (codes "}"))

-- a statement
abbrev pub stmt_kind_step : Layer StmtKind-F → List Piece
stmt_kind_step (Include text) = word (codes "include") ++ piece (Quoted text) ++ sign (codes ";")
stmt_kind_step (DefcalGrammar text) = word (codes "defcalgrammar") ++ piece (Quoted text) ++ sign (codes ";")
stmt_kind_step (QubitStmt size n) = word (codes "qubit") ++ if_there in_square size ++ name n ++ sign (codes ";")
stmt_kind_step (Input type n) = word (codes "input") ++ type ++ name n ++ sign (codes ";")
stmt_kind_step (Output type n) = word (codes "output") ++ type ++ name n ++ sign (codes ";")
stmt_kind_step (Gate n params qubits calls) = word (codes "gate") ++ name n ++ if_there (λ ps. in_round (names ps)) params ++ names qubits ++ in_braces calls
stmt_kind_step (Cal items) = word (codes "cal") ++ in_braces items
stmt_kind_step (Defcal n params operands gives items) = word (codes "defcal") ++ calibrated n ++ if_there (λ ps. in_round (with_commas ps)) params ++ with_commas operands ++ given_bit gives ++ in_braces items
stmt_kind_step (Init is_const type n v) = word_if is_const (codes "const") ++ type ++ name n ++ sign (codes "=") ++ v ++ sign (codes ";")
stmt_kind_step (Declare type n) = type ++ name n ++ sign (codes ";")
stmt_kind_step (Stretch n) = word (codes "stretch") ++ name n ++ sign (codes ";")
stmt_kind_step (GateCall c) = c ++ sign (codes ";")
stmt_kind_step (Assign p v) = p ++ sign (codes "=") ++ v ++ sign (codes ";")
stmt_kind_step (Update p op e) = p ++ sign (sign_of_assign op) ++ e ++ sign (codes ";")
stmt_kind_step (Measure o to) = word (codes "measure") ++ o ++ if_there (λ p. sign (codes "->") ++ p) to ++ sign (codes ";")
stmt_kind_step (Reset o) = word (codes "reset") ++ o ++ sign (codes ";")
stmt_kind_step (Barrier operands) = word (codes "barrier") ++ with_commas operands ++ sign (codes ";")
stmt_kind_step (Delay time operands) = word (codes "delay") ++ in_square time ++ with_commas operands ++ sign (codes ";")
stmt_kind_step (Box time statements) = word (codes "box") ++ if_there in_square time ++ in_braces statements
stmt_kind_step (If test b other) = word (codes "if") ++ in_round test ++ b ++ if_there (λ o. word (codes "else") ++ o) other
stmt_kind_step (While test b) = word (codes "while") ++ in_round test ++ b
stmt_kind_step (For type n r b) = word (codes "for") ++ type ++ name n ++ word (codes "in") ++ r ++ b
stmt_kind_step Break = word (codes "break") ++ sign (codes ";")
stmt_kind_step Continue = word (codes "continue") ++ sign (codes ";")
stmt_kind_step End = word (codes "end") ++ sign (codes ";")

abbrev pub stmt_step : Layer Stmt-F → List Piece
stmt_step s = at_place s.span s.kind

-- ---- whole trees

-- a fold over these layers
abbrev pub by_layers : {T : Type 0} → ((Layer ExprKind-F → List Piece) → (Layer Modifier-F → List Piece) → (Layer Operand-F → List Piece) → (Layer Value-F → List Piece) → (Layer Item-F → List Piece) → (Layer Param-F → List Piece) → (Layer Body-F → List Piece) → (Layer Range-F → List Piece) → (Layer StmtKind-F → List Piece) → (Layer Expr-F → List Piece) → (Layer TypeExpr-F → List Piece) → (Layer Call-F → List Piece) → (Layer Place-F → List Piece) → (Layer Stmt-F → List Piece) → T → List Piece) → T → List Piece
by_layers fold = fold kind_step modifier_step operand_step value_step item_step param_step body_step range_step stmt_kind_step expr_step type_step call_step place_step stmt_step

-- the pieces of what an expression is
abbrev pub spell_kind : ExprKind → List Piece
spell_kind = by_layers (fold-ExprKind (List Piece) (List Piece) (List Piece) (List Piece) (List Piece) (List Piece) (List Piece) (List Piece) (List Piece) (List Piece) (List Piece) (List Piece) (List Piece) (List Piece))

-- the pieces of an expression
abbrev pub spell : Expr → List Piece
spell = by_layers (fold-Expr (List Piece) (List Piece) (List Piece) (List Piece) (List Piece) (List Piece) (List Piece) (List Piece) (List Piece) (List Piece) (List Piece) (List Piece) (List Piece) (List Piece))

-- the pieces of a type
abbrev pub spell_type : TypeExpr → List Piece
spell_type = by_layers (fold-TypeExpr (List Piece) (List Piece) (List Piece) (List Piece) (List Piece) (List Piece) (List Piece) (List Piece) (List Piece) (List Piece) (List Piece) (List Piece) (List Piece) (List Piece))

-- the pieces of a place
abbrev pub spell_place : Place → List Piece
spell_place = by_layers (fold-Place (List Piece) (List Piece) (List Piece) (List Piece) (List Piece) (List Piece) (List Piece) (List Piece) (List Piece) (List Piece) (List Piece) (List Piece) (List Piece) (List Piece))

-- the pieces of an operand
abbrev pub spell_operand : Operand → List Piece
spell_operand = by_layers (fold-Operand (List Piece) (List Piece) (List Piece) (List Piece) (List Piece) (List Piece) (List Piece) (List Piece) (List Piece) (List Piece) (List Piece) (List Piece) (List Piece) (List Piece))

-- the pieces of a value
abbrev pub spell_value : Value → List Piece
spell_value = by_layers (fold-Value (List Piece) (List Piece) (List Piece) (List Piece) (List Piece) (List Piece) (List Piece) (List Piece) (List Piece) (List Piece) (List Piece) (List Piece) (List Piece) (List Piece))

-- the pieces of a modifier
abbrev pub spell_modifier : Modifier → List Piece
spell_modifier = by_layers (fold-Modifier (List Piece) (List Piece) (List Piece) (List Piece) (List Piece) (List Piece) (List Piece) (List Piece) (List Piece) (List Piece) (List Piece) (List Piece) (List Piece) (List Piece))

-- the pieces of a call
abbrev pub spell_call : Called → List Piece
spell_call = by_layers (fold-Call (List Piece) (List Piece) (List Piece) (List Piece) (List Piece) (List Piece) (List Piece) (List Piece) (List Piece) (List Piece) (List Piece) (List Piece) (List Piece) (List Piece))

-- the pieces of a parameter of a calibration
abbrev pub spell_param : Param → List Piece
spell_param = by_layers (fold-Param (List Piece) (List Piece) (List Piece) (List Piece) (List Piece) (List Piece) (List Piece) (List Piece) (List Piece) (List Piece) (List Piece) (List Piece) (List Piece) (List Piece))

-- the pieces of an item of a calibration
abbrev pub spell_item : Item → List Piece
spell_item = by_layers (fold-Item (List Piece) (List Piece) (List Piece) (List Piece) (List Piece) (List Piece) (List Piece) (List Piece) (List Piece) (List Piece) (List Piece) (List Piece) (List Piece) (List Piece))

-- the pieces of a body
abbrev pub spell_body : Body → List Piece
spell_body = by_layers (fold-Body (List Piece) (List Piece) (List Piece) (List Piece) (List Piece) (List Piece) (List Piece) (List Piece) (List Piece) (List Piece) (List Piece) (List Piece) (List Piece) (List Piece))

-- the pieces of a range
abbrev pub spell_range : Range → List Piece
spell_range = by_layers (fold-Range (List Piece) (List Piece) (List Piece) (List Piece) (List Piece) (List Piece) (List Piece) (List Piece) (List Piece) (List Piece) (List Piece) (List Piece) (List Piece) (List Piece))

-- the pieces of what a statement is
abbrev pub spell_stmt_kind : StmtKind → List Piece
spell_stmt_kind = by_layers (fold-StmtKind (List Piece) (List Piece) (List Piece) (List Piece) (List Piece) (List Piece) (List Piece) (List Piece) (List Piece) (List Piece) (List Piece) (List Piece) (List Piece) (List Piece))

-- the pieces of a statement
abbrev pub spell_stmt : Stmt → List Piece
spell_stmt = by_layers (fold-Stmt (List Piece) (List Piece) (List Piece) (List Piece) (List Piece) (List Piece) (List Piece) (List Piece) (List Piece) (List Piece) (List Piece) (List Piece) (List Piece) (List Piece))

-- the pieces of a version line
abbrev pub spell_version : Option (List ℕ) → List Piece
spell_version None = []
spell_version (Some text) = word (codes "OPENQASM") ++ piece (Version text) ++ sign (codes ";")

-- the pieces of a source
abbrev pub spell_source : Source → List Piece
spell_source s = spell_version s.version ++ flat_map spell_stmt s.body
