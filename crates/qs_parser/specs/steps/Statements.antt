-- How a statement is read: an account of what the readers do, beside what is true of trees.
use Rattle.std.specs.Prelude.{ℕ, zero, suc, List, [], ◌∷◌, length, Bool, true, false, ◌&&◌, ◌||◌, if◌then◌else◌, codes, Option, Some, None}
use Rattle.std.specs.Str.{bytes_eq}
use Rattle.qs_values.specs.Names.{is_name}
use Rattle.qs_values.specs.declared.span.Span.{Span}
use Rattle.qs_lexer.specs.declared.token.Token.{Token}
use Rattle.qs_lexer.specs.declared.token.TokenKind.TheVariants as kind
use Rattle.qs_tree.specs.declared.assign.AssignOp.{AssignOp}
use Rattle.qs_tree.specs.declared.assign.AssignOp.TheVariants as assigns
use Rattle.qs_tree.specs.declared.expr.Expr.{Expr}
use Rattle.qs_tree.specs.declared.expr.TypeExpr.{TypeExpr}
use Rattle.qs_tree.specs.declared.gate.Call.{Call, roll-Call}
use Rattle.qs_tree.specs.declared.gate.Modifier.{Modifier}
use Rattle.qs_tree.specs.declared.gate.Modifier.TheVariants.{Inv, Pow, Ctrl, NegCtrl}
use Rattle.qs_tree.specs.declared.name.Ident.{Ident}
use Rattle.qs_tree.specs.declared.operand.Place.{Place, roll-Place}
use Rattle.qs_tree.specs.declared.operand.Operand.{Operand}
use Rattle.qs_tree.specs.declared.operand.Operand.TheVariants.{Named, PhysicalQubit}
use Rattle.qs_tree.specs.declared.operand.Value.{Value}
use Rattle.qs_tree.specs.declared.operand.Value.TheVariants.{Expression, Measurement}
use Rattle.qs_tree.specs.declared.statement.Body.{Body}
use Rattle.qs_tree.specs.declared.statement.Body.TheVariants.{One, Braces}
use Rattle.qs_tree.specs.declared.statement.Range.{Range}
use Rattle.qs_tree.specs.declared.statement.Range.TheVariants.{Interval, Set}
use Rattle.qs_tree.specs.declared.statement.Stmt.{Stmt}
use Rattle.qs_tree.specs.declared.statement.StmtKind.{StmtKind}
use Rattle.qs_tree.specs.declared.statement.StmtKind.TheVariants.{Init, Declare, Stretch, GateCall, Assign, Update, Measure, Reset, Barrier, Delay, Box, If, While, For, Break, Continue, End}
use Rattle.qs_tree.specs.WellFormed.{of_body}
use Rattle.qs_parser.specs.steps.Tokens.{◌>>=◌, Readers, Reads, after_sign, after_word, begins_sign, commas, has_sign, has_word, name_at, renewed, up_to_brace}
use Rattle.qs_parser.specs.steps.Expressions.{args_at, enclosed, type_of, type_word, whole_at}

-- ---- parts of statements

-- a type at the front
unfoldable pub type_at : Option Readers → (renew left : ℕ) → List Token → Reads TypeExpr
type_at below renew left [] = None
type_at below renew left (t ∷ ts) = if has_word t.kind then (do
  word ← type_word t.text
  type_of below renew left t.span word ts) else None

-- an expression in square brackets, where one stands at the front
unfoldable pub bracket_at : Option Readers → (renew left : ℕ) → List Token → Reads (Option Expr)
bracket_at below renew left ts =
    if begins_sign (codes "[") ts
    then (do
      e ← enclosed (codes "[") (codes "]") below renew left ts
      Some (Some e.0, e.1, e.2))
    else Some (None, left, ts)

-- the same in round brackets
unfoldable pub count_at : Option Readers → (renew left : ℕ) → List Token → Reads (Option Expr)
count_at below renew left ts =
    if begins_sign (codes "(") ts
    then (do
      e ← enclosed (codes "(") (codes ")") below renew left ts
      Some (Some e.0, e.1, e.2))
    else Some (None, left, ts)

-- a name, or one element of what it names
unfoldable pub place_at : Option Readers → (renew left : ℕ) → List Token → Reads Place
place_at below renew left ts = do
  n ← name_at ts
  index ← bracket_at below renew left n.1
  Some (roll-Place (record { name = n.0; index = index.0 }), index.1, index.2)

-- what is acted on
unfoldable pub operand_at : Option Readers → (renew left : ℕ) → List Token → Reads Operand
operand_at below renew left [] = None
operand_at below renew left (t ∷ ts) = elim t.kind [
  | kind.Physical number ↦ Some (PhysicalQubit t.span number, left, ts)
  | _ ↦ do
    p ← place_at below renew left (t ∷ ts)
    Some (Named p.0, p.1, p.2)
]

-- one or more of them
unfoldable pub operands_at : Option Readers → (renew left : ℕ) → List Token → Reads (List Operand)
operands_at below renew left ts = commas (operand_at below renew) left ts

-- any number of them, before a semicolon
unfoldable pub acted_at : Option Readers → (renew left : ℕ) → List Token → Reads (List Operand)
acted_at below renew left ts = if begins_sign (codes ";") ts then Some ([], left, ts) else operands_at below renew left ts

-- a measurement, or an expression
unfoldable pub value_at : Option Readers → (renew left : ℕ) → List Token → Reads Value
value_at below renew left ts = elim (after_word (codes "measure") ts) [
  | Some rest ↦ do
    o ← operand_at below renew left rest
    Some (Measurement o.0, o.1, o.2)
  | None ↦ do
    e ← whole_at below renew left ts
    Some (Expression e.0, e.1, e.2)
]

-- a statement's end
unfoldable pub stopped : {A : Type 0} → A → ℕ → List Token → Reads A
stopped x left ts = do
  rest ← after_sign (codes ";") ts
  Some (x, left, rest)

-- ---- calls

-- a modifier at the front, with its sign
unfoldable pub signed_off : Modifier → ℕ → List Token → Reads Modifier
signed_off m left ts = do
  rest ← after_sign (codes "@") ts
  Some (m, left, rest)

unfoldable pub pow_at : Option Readers → (renew left : ℕ) → List Token → Reads Modifier
pow_at below renew left ts = do
  e ← enclosed (codes "(") (codes ")") below renew left ts
  signed_off (Pow e.0) e.1 e.2

unfoldable pub ctrl_at : Option Readers → (renew left : ℕ) → List Token → Reads Modifier
ctrl_at below renew left ts = do
  count ← count_at below renew left ts
  signed_off (Ctrl count.0) count.1 count.2

unfoldable pub negctrl_at : Option Readers → (renew left : ℕ) → List Token → Reads Modifier
negctrl_at below renew left ts = do
  count ← count_at below renew left ts
  signed_off (NegCtrl count.0) count.1 count.2

-- whether a word begins a modifier
abbrev pub is_modifier : List ℕ → Bool
is_modifier text = bytes_eq text (codes "inv") || bytes_eq text (codes "pow") || bytes_eq text (codes "ctrl") || bytes_eq text (codes "negctrl")

-- a modifier of this word; the tokens after the word
unfoldable pub modifier_of : Option Readers → (renew left : ℕ) → List ℕ → List Token → Reads Modifier
modifier_of below renew left text ts =
    if bytes_eq text (codes "inv") then signed_off Inv left ts
    else if bytes_eq text (codes "pow") then pow_at below renew left ts
    else if bytes_eq text (codes "ctrl") then ctrl_at below renew left ts
    else negctrl_at below renew left ts

-- the word of a modifier at the front, and the tokens after it
abbrev pub modifier_word : List Token → Option (List ℕ × List Token)
modifier_word [] = None
modifier_word (t ∷ ts) = if has_word t.kind && is_modifier t.text then Some (t.text, ts) else None

-- the modifiers of a call, in so many turns at most
unfoldable pub modifiers_at : ℕ → Option Readers → (renew left : ℕ) → List Token → Reads (List Modifier)
modifiers_at zero below renew left ts = Some ([], left, ts)
modifiers_at (suc n) below renew left ts = elim (modifier_word ts) [
  | None ↦ Some ([], left, ts)
  | Some word ↦ do
    m ← modifier_of below renew left word.0 word.1
    ms ← modifiers_at n below renew m.1 m.2
    Some (m.0 ∷ ms.0, ms.1, ms.2)
]

-- the parameters of a call, where brackets stand there
unfoldable pub params_at : Option Readers → (renew left : ℕ) → List Token → Reads (Option (List Expr))
params_at below renew left ts =
    if begins_sign (codes "(") ts
    then (do
      es ← args_at below renew left ts
      Some (Some es.0, es.1, es.2))
    else Some (None, left, ts)

-- a call, with its end
unfoldable pub call_at : Option Readers → (renew left : ℕ) → List Token → Reads Call
call_at below renew left ts = do
  ms ← modifiers_at (length ts) below renew left ts
  n ← name_at ms.2
  args ← params_at below renew ms.1 n.1
  os ← acted_at below renew args.1 args.2
  stopped (roll-Call (record { modifiers = ms.0; name = n.0; args = args.0; operands = os.0 })) os.1 os.2

-- ---- statements without a body

-- the rest of a declaration with its value, after the name
unfoldable pub init_at : Option Readers → Bool → TypeExpr → Ident → (renew left : ℕ) → List Token → Reads StmtKind
init_at below is_const type n renew left ts = do
  rest ← after_sign (codes "=") ts
  v ← value_at below renew left rest
  stopped (Init is_const type n v.0) v.1 v.2

-- a declaration, with `const` before it or without
unfoldable pub declaration_at : Option Readers → Bool → (renew left : ℕ) → List Token → Reads StmtKind
declaration_at below is_const renew left ts = do
  type ← type_at below renew left ts
  n ← name_at type.2
  if is_const || begins_sign (codes "=") n.1 then init_at below is_const type.0 n.0 renew type.1 n.1 else stopped (Declare type.0 n.0) type.1 n.1

-- `stretch`, after the word
unfoldable pub stretch_at : (left : ℕ) → List Token → Reads StmtKind
stretch_at left ts = do
  n ← name_at ts
  stopped (Stretch n.0) left n.1

-- `measure`, `reset`, `barrier`, `delay` and `box`, after the word
unfoldable pub to_at : Option Readers → (renew left : ℕ) → List Token → Reads (Option Place)
to_at below renew left ts = elim (after_sign (codes "->") ts) [
  | None ↦ Some (None, left, ts)
  | Some rest ↦ do
    p ← place_at below renew left rest
    Some (Some p.0, p.1, p.2)
]

unfoldable pub measure_at : Option Readers → (renew left : ℕ) → List Token → Reads StmtKind
measure_at below renew left ts = do
  o ← operand_at below renew left ts
  to ← to_at below renew o.1 o.2
  stopped (Measure o.0 to.0) to.1 to.2

unfoldable pub reset_at : Option Readers → (renew left : ℕ) → List Token → Reads StmtKind
reset_at below renew left ts = do
  o ← operand_at below renew left ts
  stopped (Reset o.0) o.1 o.2

unfoldable pub barrier_at : Option Readers → (renew left : ℕ) → List Token → Reads StmtKind
barrier_at below renew left ts = do
  os ← acted_at below renew left ts
  stopped (Barrier os.0) os.1 os.2

unfoldable pub delay_at : Option Readers → (renew left : ℕ) → List Token → Reads StmtKind
delay_at below renew left ts = do
  time ← enclosed (codes "[") (codes "]") below renew left ts
  os ← operands_at below renew time.1 time.2
  stopped (Delay time.0 os.0) os.1 os.2

-- the operator of a sign that assigns
abbrev pub assign_op : List ℕ → Option AssignOp
assign_op text =
    if bytes_eq text (codes "+=") then Some assigns.Add
    else if bytes_eq text (codes "-=") then Some assigns.Sub
    else if bytes_eq text (codes "*=") then Some assigns.Mul
    else if bytes_eq text (codes "/=") then Some assigns.Div
    else if bytes_eq text (codes "%=") then Some assigns.Rem
    else if bytes_eq text (codes "&=") then Some assigns.BitAnd
    else if bytes_eq text (codes "|=") then Some assigns.BitOr
    else if bytes_eq text (codes "^=") then Some assigns.BitXor
    else if bytes_eq text (codes "<<=") then Some assigns.ShiftLeft
    else if bytes_eq text (codes ">>=") then Some assigns.ShiftRight
    else None

abbrev pub assign_op_at : List Token → Option (AssignOp × List Token)
assign_op_at [] = None
assign_op_at (t ∷ ts) = if has_sign t.kind then (do
  op ← assign_op t.text
  Some (op, ts)) else None

-- what is assigned, after the place
unfoldable pub assigned : Option Readers → Place → (renew left : ℕ) → List Token → Reads StmtKind
assigned below p renew left ts = do
  v ← value_at below renew left ts
  stopped (Assign p v.0) v.1 v.2

unfoldable pub updated : Option Readers → Place → (renew left : ℕ) → List Token → Reads StmtKind
updated below p renew left ts = do
  op ← assign_op_at ts
  e ← whole_at below renew left op.1
  stopped (Update p op.0 e.0) e.1 e.2

unfoldable pub assignment_at : Option Readers → (renew left : ℕ) → List Token → Reads StmtKind
assignment_at below renew left ts = do
  p ← place_at below renew left ts
  elim (after_sign (codes "=") p.2) [ Some rest ↦ assigned below p.0 renew p.1 rest | None ↦ updated below p.0 renew p.1 p.2 ]

-- whether what stands after a name makes it a place that is assigned to
abbrev pub is_assigned : List Token → Bool
is_assigned [] = false
is_assigned (t ∷ ts) = is_assigned_by (assign_op t.text)
  where
    is_assigned_by : Option AssignOp → Bool
    is_assigned_by (Some op) = has_sign t.kind
    is_assigned_by None = has_sign t.kind && (bytes_eq t.text (codes "=") || bytes_eq t.text (codes "["))

-- ---- statements with a body

-- statements in braces
unfoldable pub block_at : Option Readers → (renew left : ℕ) → List Token → Reads (List Stmt)
block_at below renew left ts = do
  rest ← after_sign (codes "{") ts
  b ← below
  up_to_brace (length rest) (b.nested renew) left rest

-- a statement in another one
unfoldable pub nested_at : Option Readers → (renew left : ℕ) → List Token → Reads Stmt
nested_at below renew left ts = do
  b ← below
  b.stmt renew left ts

-- a body
unfoldable pub body_at : Option Readers → (renew left : ℕ) → List Token → Reads Body
body_at below renew left ts =
    if begins_sign (codes "{") ts
    then (do
      ss ← block_at below renew left ts
      Some (Braces ss.0, ss.1, ss.2))
    else (do
      s ← nested_at below renew left ts
      Some (One s.0, s.1, s.2))

-- `box`, after the word
unfoldable pub box_at : Option Readers → (renew left : ℕ) → List Token → Reads StmtKind
box_at below renew left ts = do
  time ← bracket_at below renew left ts
  ss ← block_at below renew time.1 time.2
  Some (Box time.0 ss.0, ss.1, ss.2)

-- An `if` with what an `else` reads: where it reads nothing, the `else` is left where it stands.
abbrev pub if_else : Expr → Body → (left : ℕ) → List Token → Reads Body → Reads StmtKind
if_else test body left ts None = Some (If test body None, left, ts)
if_else test body left ts (Some other) = Some (If test body (Some other.0), other.1, other.2)

-- what stands after an `if` with its body: an `else` belongs to the nearest `if`
unfoldable pub else_at : Option Readers → Expr → Body → (renew left : ℕ) → List Token → Reads StmtKind
else_at below test body renew left ts = elim (after_word (codes "else") ts) [
  | None ↦ Some (If test body None, left, ts)
  | Some rest ↦ if (of_body body).lacks_else then Some (If test body None, left, ts) else if_else test body left ts (body_at below renew left rest)
]

-- `if`, `while` and `for`, after the word
unfoldable pub if_at : Option Readers → (renew left : ℕ) → List Token → Reads StmtKind
if_at below renew left ts = do
  test ← enclosed (codes "(") (codes ")") below renew left ts
  body ← body_at below renew test.1 test.2
  else_at below test.0 body.0 renew body.1 body.2

unfoldable pub while_at : Option Readers → (renew left : ℕ) → List Token → Reads StmtKind
while_at below renew left ts = do
  test ← enclosed (codes "(") (codes ")") below renew left ts
  body ← body_at below renew test.1 test.2
  Some (While test.0 body.0, body.1, body.2)

-- the end of an interval, after its second colon, or its second bound alone
unfoldable pub interval_end : Readers → Span → Expr → (renew : ℕ) → Expr → (left : ℕ) → List Token → Reads Range
interval_end b span first renew second left ts = elim (after_sign (codes ":") ts) [
  | None ↦ do
    rest ← after_sign (codes "]") ts
    Some (Interval span first None second, left, rest)
  | Some rest ↦ do
    last ← renewed renew (b.expr left rest)
    after ← after_sign (codes "]") last.2
    Some (Interval span first (Some second) last.0, last.1, after)
]

unfoldable pub interval_at : Option Readers → Span → (renew left : ℕ) → List Token → Reads Range
interval_at below span renew left ts = do
  b ← below
  first ← renewed renew (b.expr left ts)
  rest ← after_sign (codes ":") first.2
  second ← renewed renew (b.expr first.1 rest)
  interval_end b span first.0 renew second.0 second.1 second.2

unfoldable pub set_at : Option Readers → Span → (renew left : ℕ) → List Token → Reads Range
set_at below span renew left ts = do
  b ← below
  es ← commas (λ l us. renewed renew (b.expr l us)) left ts
  after ← after_sign (codes "}") es.2
  Some (Set span es.0, es.1, after)

unfoldable pub range_at : Option Readers → (renew left : ℕ) → List Token → Reads Range
range_at below renew left [] = None
range_at below renew left (t ∷ ts) =
    if has_sign t.kind && bytes_eq t.text (codes "[") then interval_at below t.span renew left ts
    else if has_sign t.kind && bytes_eq t.text (codes "{") then set_at below t.span renew left ts
    else None

unfoldable pub for_at : Option Readers → (renew left : ℕ) → List Token → Reads StmtKind
for_at below renew left ts = do
  type ← type_at below renew left ts
  n ← name_at type.2
  rest ← after_word (codes "in") n.1
  range ← range_at below renew type.1 rest
  body ← body_at below renew range.1 range.2
  Some (For type.0 n.0 range.0 body.0, body.1, body.2)

-- ---- a statement

-- a call as a statement
unfoldable pub gate_call_at : Option Readers → (renew left : ℕ) → List Token → Reads StmtKind
gate_call_at below renew left ts = do
  c ← call_at below renew left ts
  Some (GateCall c.0, c.1, c.2)

-- a statement that begins with a name or a modifier, by the tokens after the first and all tokens
unfoldable pub named_stmt : Option Readers → (renew left : ℕ) → List ℕ → (rest all : List Token) → Reads StmtKind
named_stmt below renew left text rest all =
    if is_modifier text then gate_call_at below renew left all
    else if is_name text then (if is_assigned rest then assignment_at below renew left all else gate_call_at below renew left all)
    else None

-- what a statement that begins with this word is, by the tokens after the word and all tokens
unfoldable pub stmt_of : Option Readers → (renew left : ℕ) → List ℕ → (rest all : List Token) → Reads StmtKind
stmt_of below renew left text rest all =
    if bytes_eq text (codes "const") then declaration_at below true renew left rest
    else if bytes_eq text (codes "stretch") then stretch_at left rest
    else if bytes_eq text (codes "measure") then measure_at below renew left rest
    else if bytes_eq text (codes "reset") then reset_at below renew left rest
    else if bytes_eq text (codes "barrier") then barrier_at below renew left rest
    else if bytes_eq text (codes "delay") then delay_at below renew left rest
    else if bytes_eq text (codes "box") then box_at below renew left rest
    else if bytes_eq text (codes "if") then if_at below renew left rest
    else if bytes_eq text (codes "while") then while_at below renew left rest
    else if bytes_eq text (codes "for") then for_at below renew left rest
    else if bytes_eq text (codes "break") then stopped Break left rest
    else if bytes_eq text (codes "continue") then stopped Continue left rest
    else if bytes_eq text (codes "end") then stopped End left rest
    else elim (type_word text) [ Some word ↦ declaration_at below false renew left all | None ↦ named_stmt below renew left text rest all ]

-- a statement
unfoldable pub stmt_at : Option Readers → (renew left : ℕ) → List Token → Reads Stmt
stmt_at below renew left [] = None
stmt_at below renew left (t ∷ ts) = if has_word t.kind then (do
  s ← stmt_of below renew left t.text ts (t ∷ ts)
  Some (record { span = t.span; kind = s.0 }, s.1, s.2)) else None
