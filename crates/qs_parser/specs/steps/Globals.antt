-- How a statement at the top of a source is read: an account of what the readers do, beside what is true of trees.
use Rattle.std.specs.Prelude.{ℕ, List, [], ◌∷◌, length, Bool, true, false, if◌then◌else◌, codes, Option, Some, None}
use Rattle.std.specs.Str.{bytes_eq}
use Rattle.qs_values.specs.declared.span.Span.{Span}
use Rattle.qs_lexer.specs.declared.token.Token.{Token}
use Rattle.qs_lexer.specs.declared.token.TokenKind.TheVariants as kind
use Rattle.qs_tree.specs.declared.name.Ident.{Ident}
use Rattle.qs_tree.specs.declared.pulse.CalName.{CalName}
use Rattle.qs_tree.specs.declared.pulse.CalName.TheVariants as calibrates
use Rattle.qs_tree.specs.declared.pulse.Param.{Param}
use Rattle.qs_tree.specs.declared.pulse.Param.TheVariants.{Free, Fixed}
use Rattle.qs_tree.specs.declared.pulse.Item.{Item}
use Rattle.qs_tree.specs.declared.pulse.Item.TheVariants.{Port, ExternFrame, ExternWaveform, Frame, Return, Statement}
use Rattle.qs_tree.specs.declared.statement.Stmt.{Stmt}
use Rattle.qs_tree.specs.declared.statement.StmtKind.{StmtKind}
use Rattle.qs_tree.specs.declared.statement.StmtKind.TheVariants.{Include, DefcalGrammar, Qubit, Input, Output, Gate, Cal, Defcal, GateCall}
use Rattle.qs_parser.specs.steps.Tokens.{◌>>=◌, Readers, Reads, after_sign, after_word, begins_sign, commas, has_word, name_at, one_less, up_to_brace}
use Rattle.qs_parser.specs.steps.Expressions.{whole_at}
use Rattle.qs_parser.specs.steps.Statements.{bracket_at, call_at, operands_at, stmt_at, stopped, type_at}
use Rattle.qs_parser.specs.steps.Knot.{below}

-- ---- includes, qubits, inputs and outputs, after the word

-- a text, and the tokens after it
abbrev pub quoted_at : List Token → Option (List ℕ × List Token)
quoted_at [] = None
quoted_at (t ∷ ts) = elim t.kind [ kind.Text ↦ Some (t.text, ts) | _ ↦ None ]

unfoldable pub include_at : (left : ℕ) → List Token → Reads StmtKind
include_at left ts = do
  text ← quoted_at ts
  stopped (Include text.0) left text.1

unfoldable pub defcalgrammar_at : (left : ℕ) → List Token → Reads StmtKind
defcalgrammar_at left ts = do
  text ← quoted_at ts
  stopped (DefcalGrammar text.0) left text.1

unfoldable pub qubit_at : Option Readers → (renew left : ℕ) → List Token → Reads StmtKind
qubit_at b renew left ts = do
  size ← bracket_at b renew left ts
  n ← name_at size.2
  stopped (Qubit size.0 n.0) size.1 n.1

unfoldable pub input_at : Option Readers → (renew left : ℕ) → List Token → Reads StmtKind
input_at b renew left ts = do
  type ← type_at b renew left ts
  n ← name_at type.2
  stopped (Input type.0 n.0) type.1 n.1

unfoldable pub output_at : Option Readers → (renew left : ℕ) → List Token → Reads StmtKind
output_at b renew left ts = do
  type ← type_at b renew left ts
  n ← name_at type.2
  stopped (Output type.0 n.0) type.1 n.1

-- ---- gates, after the word

-- names with commas between
abbrev pub ident_at : (left : ℕ) → List Token → Reads Ident
ident_at left ts = do
  n ← name_at ts
  Some (n.0, left, n.1)

unfoldable pub names_at : (left : ℕ) → List Token → Reads (List Ident)
names_at left ts = commas ident_at left ts

-- the names of parameters up to a closing bracket, or the bracket alone, where these are the tokens after it
unfoldable pub names_to : Option (List Token) → (left : ℕ) → List Token → Reads (Option (List Ident))
names_to (Some after) left ts = Some (Some [], left, after)
names_to None left ts = do
  ns ← names_at left ts
  after ← after_sign (codes ")") ns.2
  Some (Some ns.0, ns.1, after)

-- the names of parameters in brackets, where brackets stand there
unfoldable pub gate_params_at : (d left : ℕ) → List Token → Reads (Option (List Ident))
gate_params_at d left ts =
    if begins_sign (codes "(") ts
    then (do
      rest ← after_sign (codes "(") ts
      i ← one_less d
      names_to (after_sign (codes ")") rest) left rest)
    else Some (None, left, ts)

-- a call in the body of a gate, by the depth of the body
unfoldable pub call_in : (d renew left : ℕ) → List Token → Reads Stmt
call_in d renew left [] = None
call_in d renew left (t ∷ ts) = do
  i ← one_less d
  c ← call_at (below i) renew left (t ∷ ts)
  Some (record { span = t.span; kind = GateCall c.0 }, c.1, c.2)

-- calls in braces
unfoldable pub calls_at : (d renew left : ℕ) → List Token → Reads (List Stmt)
calls_at d renew left ts = do
  rest ← after_sign (codes "{") ts
  i ← one_less d
  up_to_brace (length rest) (call_in i renew) left rest

unfoldable pub gate_at : (d renew left : ℕ) → List Token → Reads StmtKind
gate_at d renew left ts = do
  n ← name_at ts
  params ← gate_params_at d left n.1
  qubits ← names_at params.1 params.2
  calls ← calls_at d renew qubits.1 qubits.2
  Some (Gate n.0 params.0 qubits.0 calls.0, calls.1, calls.2)

-- ---- calibrations, after the word

-- a port, after the word
unfoldable pub port_at : Span → Bool → (left : ℕ) → List Token → Reads Item
port_at span extern left ts = do
  n ← name_at ts
  stopped (Port span extern n.0) left n.1

-- what is `extern`, after the word
unfoldable pub extern_frame_at : Span → (left : ℕ) → List Token → Reads Item
extern_frame_at span left ts = do
  n ← name_at ts
  stopped (ExternFrame span n.0) left n.1

unfoldable pub extern_waveform_at : Span → (left : ℕ) → List Token → Reads Item
extern_waveform_at span left ts = do
  rest ← after_word (codes "waveform") ts
  n ← name_at rest
  stopped (ExternWaveform span n.0) left n.1

unfoldable pub extern_at : Span → (left : ℕ) → List Token → Reads Item
extern_at span left ts = elim (after_word (codes "port") ts) [
  | Some rest ↦ port_at span true left rest
  | None ↦ elim (after_word (codes "frame") ts) [ Some rest ↦ extern_frame_at span left rest | None ↦ extern_waveform_at span left ts ]
]

-- a frame and what is given back, after the word
unfoldable pub frame_at : Span → Option Readers → (renew left : ℕ) → List Token → Reads Item
frame_at span b renew left ts = do
  n ← name_at ts
  rest ← after_sign (codes "=") n.1
  e ← whole_at b renew left rest
  stopped (Frame span n.0 e.0) e.1 e.2

unfoldable pub return_at : Span → Option Readers → (renew left : ℕ) → List Token → Reads Item
return_at span b renew left ts = do
  e ← whole_at b renew left ts
  stopped (Return span e.0) e.1 e.2

-- a statement as an item
unfoldable pub statement_item : Option Readers → (renew left : ℕ) → List Token → Reads Item
statement_item b renew left ts = do
  s ← stmt_at b renew left ts
  Some (Statement s.0, s.1, s.2)

-- an item that begins with this word, by the tokens after it and all tokens
unfoldable pub item_of : Option Readers → (renew left : ℕ) → Span → List ℕ → (rest all : List Token) → Reads Item
item_of b renew left span text rest all =
    if bytes_eq text (codes "extern") then extern_at span left rest
    else if bytes_eq text (codes "port") then port_at span false left rest
    else if bytes_eq text (codes "frame") then frame_at span b renew left rest
    else if bytes_eq text (codes "return") then return_at span b renew left rest
    else statement_item b renew left all

-- an item, by the depth of what it stands in
unfoldable pub item_in : (d renew left : ℕ) → List Token → Reads Item
item_in d renew left [] = None
item_in d renew left (t ∷ ts) = if has_word t.kind then (do
  i ← one_less d
  item_of (below i) renew left t.span t.text ts (t ∷ ts)) else None

-- items in braces
unfoldable pub items_at : (d renew left : ℕ) → List Token → Reads (List Item)
items_at d renew left ts = do
  rest ← after_sign (codes "{") ts
  i ← one_less d
  up_to_brace (length rest) (item_in i renew) left rest

unfoldable pub cal_at : (d renew left : ℕ) → List Token → Reads StmtKind
cal_at d renew left ts = do
  items ← items_at d renew left ts
  Some (Cal items.0, items.1, items.2)

-- what a calibration is given for
unfoldable pub cal_name_at : List Token → Option (CalName × List Token)
cal_name_at ts = elim (after_word (codes "measure") ts) [
  | Some rest ↦ Some (calibrates.Measure, rest)
  | None ↦ elim (after_word (codes "reset") ts) [
    | Some rest ↦ Some (calibrates.Reset, rest)
    | None ↦ do
      n ← name_at ts
      Some (calibrates.Gate n.0, n.1)
  ]
]

-- a parameter of a calibration: a type and a name, or where these can't be read a constant
unfoldable pub free_at : Option Readers → (renew left : ℕ) → List Token → Reads Param
free_at b renew left ts = do
  type ← type_at b renew left ts
  n ← name_at type.2
  Some (Free type.0 n.0, type.1, n.1)

unfoldable pub fixed_at : Option Readers → (renew left : ℕ) → List Token → Reads Param
fixed_at b renew left ts = do
  e ← whole_at b renew left ts
  Some (Fixed e.0, e.1, e.2)

unfoldable pub param_at : Option Readers → (renew left : ℕ) → List Token → Reads Param
param_at b renew left ts = elim (free_at b renew left ts) [ Some p ↦ Some p | None ↦ fixed_at b renew left ts ]

-- parameters up to a closing bracket, or the bracket alone, where these are the tokens after it
unfoldable pub params_to : Option (List Token) → Option Readers → (renew left : ℕ) → List Token → Reads (Option (List Param))
params_to (Some after) b renew left ts = Some (Some [], left, after)
params_to None b renew left ts = do
  ps ← commas (param_at b renew) left ts
  after ← after_sign (codes ")") ps.2
  Some (Some ps.0, ps.1, after)

-- parameters in brackets, where brackets stand there
unfoldable pub cal_params_at : (d renew left : ℕ) → List Token → Reads (Option (List Param))
cal_params_at d renew left ts =
    if begins_sign (codes "(") ts
    then (do
      rest ← after_sign (codes "(") ts
      i ← one_less d
      params_to (after_sign (codes ")") rest) (below i) renew left rest)
    else Some (None, left, ts)

-- whether a bit is given
unfoldable pub gives_at : (left : ℕ) → List Token → Reads Bool
gives_at left ts = elim (after_sign (codes "->") ts) [
  | None ↦ Some (false, left, ts)
  | Some rest ↦ do
    after ← after_word (codes "bit") rest
    Some (true, left, after)
]

unfoldable pub defcal_at : (d renew left : ℕ) → List Token → Reads StmtKind
defcal_at d renew left ts = do
  n ← cal_name_at ts
  params ← cal_params_at d renew left n.1
  operands ← operands_at (below d) renew params.1 params.2
  gives ← gives_at operands.1 operands.2
  items ← items_at d renew gives.1 gives.2
  Some (Defcal n.0 params.0 operands.0 gives.0 items.0, items.1, items.2)

-- ---- a statement at the top

-- what a statement is that begins with this word, by the tokens after it and all tokens
unfoldable pub top_of : (d renew left : ℕ) → List ℕ → (rest : List Token) → Option (Reads StmtKind)
top_of d renew left text rest =
    if bytes_eq text (codes "include") then Some (include_at left rest)
    else if bytes_eq text (codes "defcalgrammar") then Some (defcalgrammar_at left rest)
    else if bytes_eq text (codes "qubit") then Some (qubit_at (below d) renew left rest)
    else if bytes_eq text (codes "input") then Some (input_at (below d) renew left rest)
    else if bytes_eq text (codes "output") then Some (output_at (below d) renew left rest)
    else if bytes_eq text (codes "gate") then Some (gate_at d renew left rest)
    else if bytes_eq text (codes "cal") then Some (cal_at d renew left rest)
    else if bytes_eq text (codes "defcal") then Some (defcal_at d renew left rest)
    else None

-- a statement at the top, by its limits
unfoldable pub statement_at : (d limit : ℕ) → List Token → Option (Stmt × List Token)
statement_at d limit [] = None
statement_at d limit (t ∷ ts) = if has_word t.kind then read_by (top_of d limit limit t.text ts) else None
  where
    read_by : Option (Reads StmtKind) → Option (Stmt × List Token)
    read_by None = do
      s ← stmt_at (below d) limit limit (t ∷ ts)
      Some (s.0, s.2)
    read_by (Some read) = do
      s ← read
      Some (record { span = t.span; kind = s.0 }, s.2)
