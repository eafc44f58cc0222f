-- The statements that are built so far, `x`, `cx`, `delay` and `barrier` on three qubits, as trees (a small part of OpenQASM 3.0).
use Rattle.std.specs.Prelude.{ℕ, pos, unsigned_abs, List, [], ◌∷◌, Bool, ◌&&◌, length, if◌then◌else◌, nat_eq, nat_le, nat_lt, Option, Some, None, codes, zero, suc}
use Rattle.std.specs.Int.Signed.{le_z}
use Rattle.std.specs.Option.{option_map}
use Rattle.std.specs.Ordering.{int_eq}
use Rattle.std.specs.Str.{bytes_eq}
use Rattle.qs_values.specs.declared.number.Frac.{Frac}
use Rattle.qs_values.specs.declared.span.Span.{Span}
use Rattle.qs_lexer.specs.declared.token.Unit.{Unit as TimeUnit}
use Rattle.qs_lexer.specs.declared.token.Unit.TheVariants.{Dt, Ns, Us, Ms, S}
use Rattle.qs_tree.specs.declared.expr.Expr.{Expr}
use Rattle.qs_tree.specs.declared.expr.ExprKind.{ExprKind, out-ExprKind}
use Rattle.qs_tree.specs.declared.expr.TypeExpr.{TypeExpr}
use Rattle.qs_tree.specs.declared.gate.Call.{Call, Call-F, out-Call}
use Rattle.qs_tree.specs.declared.gate.Modifier.{Modifier}
use Rattle.qs_tree.specs.declared.operand.Operand.{Operand, out-Operand}
use Rattle.qs_tree.specs.declared.operand.Place.{Place}
use Rattle.qs_tree.specs.declared.operand.Value.{Value}
use Rattle.qs_tree.specs.declared.pulse.Item.{Item}
use Rattle.qs_tree.specs.declared.pulse.Param.{Param}
use Rattle.qs_tree.specs.declared.statement.Body.{Body}
use Rattle.qs_tree.specs.declared.statement.Range.{Range}
use Rattle.qs_tree.specs.declared.statement.Stmt.{Stmt}
use Rattle.qs_tree.specs.declared.statement.StmtKind.{StmtKind, out-StmtKind}
use Rattle.qs_tree.specs.declared.expr.ExprKind.TheOpen.{ExprKind-F, Operand-F, StmtKind-F}
use Rattle.qs_tree.specs.declared.expr.ExprKind.TheOpen as layer
use Rattle.qasm_main.specs.declared.front.statement.Statement.{Statement}
use Rattle.qasm_main.specs.declared.front.statement.Statement.TheVariants.{X, Cx, Delay, Barrier}
use Rattle.qasm_main.specs.declared.front.statement.LocatedStatement.{LocatedStatement}
use Rattle.qasm_main.specs.front.Statement.{longest_delay_ticks}

-- the outermost layer of a tree, with the trees below it in their places
abbrev pub Layer : (Type 0 → Type 0 → Type 0 → Type 0 → Type 0 → Type 0 → Type 0 → Type 0 → Type 0 → Type 0 → Type 0 → Type 0 → Type 0 → Type 0 → Type 0) → Type 0
Layer F = F ExprKind Modifier Operand Value Item Param Body Range StmtKind Expr TypeExpr Call Place Stmt

-- whether a list has no element
abbrev pub is_empty : {X : Type 0} → List X → Bool
is_empty xs = nat_eq (length xs) 0

-- the physical qubit of an operand, from 0 to 2
abbrev pub qubit_by : Layer Operand-F → Option ℕ
qubit_by (layer.PhysicalQubit span number) = if nat_lt number 3 then Some number else None
qubit_by (layer.Named place) = None

unfoldable pub qubit_of : Operand → Option ℕ
qubit_of operand = qubit_by (out-Operand operand)

-- the qubit of operands that are one
unfoldable pub only_qubit : List Operand → Option ℕ
only_qubit [] = None
only_qubit (first ∷ others) = if is_empty others then qubit_of first else None

-- the two different qubits of operands that are two
unfoldable pub qubit_pair : List Operand → Option (ℕ × ℕ)
qubit_pair [] = None
qubit_pair (first ∷ others) = elim (qubit_of first) [
  | None ↦ None
  | Some a ↦ elim (only_qubit others) [ None ↦ None | Some b ↦ if nat_eq a b then None else Some (a, b) ]
]

-- the qubits of operands, where each is one
abbrev pub qubits_of : List Operand → Option (List ℕ)
qubits_of [] = Some []
qubits_of (first ∷ others) = elim (qubit_of first) [
  | None ↦ None
  | Some q ↦ elim (qubits_of others) [ None ↦ None | Some qs ↦ Some (q ∷ qs) ]
]

-- the ticks that a number of `dt` is, where it is whole and no longer than a delay may be
abbrev pub ticks_of : Frac → Option ℕ
ticks_of value =
    if int_eq value.den (pos 1) && le_z (pos 0) value.num && nat_le (unsigned_abs value.num) longest_delay_ticks then Some (unsigned_abs value.num) else None

-- the ticks that a number of a unit is, where that unit is `dt`
abbrev pub ticks_in : Frac → TimeUnit → Option ℕ
ticks_in value Dt = ticks_of value
ticks_in value Ns = None
ticks_in value Us = None
ticks_in value Ms = None
ticks_in value S = None

-- the ticks of an expression that is a time
abbrev pub time_by : Layer ExprKind-F → Option ℕ
time_by (layer.Time value unit) = ticks_in value unit
time_by other = None

unfoldable pub time_of : Expr → Option ℕ
time_of e = time_by (out-ExprKind e.kind)

-- what a gate of this name does to operands
unfoldable pub gate_of : List ℕ → List Operand → Option Statement
gate_of name operands =
    if bytes_eq name (codes "x") then option_map X (only_qubit operands)
    else (if bytes_eq name (codes "cx") then option_map (λ pair. Cx pair.0 pair.1) (qubit_pair operands) else None)

-- the statement of a call without modifiers and parameters
abbrev pub call_by : Layer Call-F → Option Statement
call_by call = elim call.args [
  | None ↦ if is_empty call.modifiers then gate_of call.name.name call.operands else None
  | Some args ↦ None
]

unfoldable pub call_of : Call → Option Statement
call_of call = call_by (out-Call call)

-- a delay of a time on one qubit
unfoldable pub delay_of : Expr → List Operand → Option Statement
delay_of time operands = elim (time_of time) [
  | None ↦ None
  | Some ticks ↦ option_map (λ q. Delay ticks q) (only_qubit operands)
]

-- a barrier on one or more qubits
unfoldable pub barrier_of : List Operand → Option Statement
barrier_of operands = if is_empty operands then None else option_map Barrier (qubits_of operands)

-- the statement that a statement of a tree is, where it is one that is built
abbrev pub statement_by : Layer StmtKind-F → Option Statement
statement_by (layer.GateCall call) = call_of call
statement_by (layer.Delay time operands) = delay_of time operands
statement_by (layer.Barrier operands) = barrier_of operands
statement_by other = None

unfoldable pub statement_of : Stmt → Option Statement
statement_of stmt = statement_by (out-StmtKind stmt.kind)

-- what the statements of a tree are: statements at their places alone, or one at a place that isn't built
pub data Reading : Type 0 where
  Built : (statements : List LocatedStatement) → Reading
  NotBuilt : (place : Span) → Reading

-- a reading with one more statement before it
abbrev pub with_statement : LocatedStatement → Reading → Reading
with_statement s (Built statements) = Built (s ∷ statements)
with_statement s (NotBuilt place) = NotBuilt place

-- what statements of a tree are, where so many may be: nothing more, one that is built where one more is allowed, or another one, at its place
abbrev pub reading_of : ℕ → List Stmt → Reading
reading_of n [] = Built []
reading_of zero (s ∷ ss) = NotBuilt s.span
reading_of (suc n) (s ∷ ss) = elim (statement_of s) [
  | None ↦ NotBuilt s.span
  | Some b ↦ with_statement (record { span = s.span; statement = b }) (reading_of n ss)
]

-- how many statements a source has at most
abbrev pub most_statements : ℕ
most_statements = 65536
