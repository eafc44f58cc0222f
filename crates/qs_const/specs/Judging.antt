-- What an expression comes to: its value, or what is known of it without one, with the first cause in the order of the text. This project's own.
use Rattle.std.specs.Prelude.{◌≡◌, ℕ, pos, List, [], ◌∷◌, true, false, ◌||◌, if◌then◌else◌, codes, Option, Some, None, Result, Ok, Err}
use Rattle.std.specs.Str.{bytes_eq}
use Rattle.qs_values.specs.Number.{IsZero, NumberIs}
use Rattle.qs_values.specs.declared.number.Num.{Num}
use Rattle.qs_values.specs.declared.span.Span.{Span}
use Rattle.qs_tree.specs.declared.constant.ConstVal.{ConstVal}
use Rattle.qs_tree.specs.declared.constant.ConstVal.TheVariants.{Number, Truth, Bits}
use Rattle.qs_tree.specs.declared.constant.Digits.{Digits}
use Rattle.qs_tree.specs.declared.operator.UnOp.{UnOp}
use Rattle.qs_tree.specs.declared.operator.BinOp.{BinOp}
use Rattle.qs_tree.specs.Texts.{bits_of}
use Rattle.qs_const.specs.declared.cause.Cause.{Cause}
use Rattle.qs_const.specs.declared.cause.Cause.TheVariants.{Variable, Unknown, NoRule}
use Rattle.qs_const.specs.declared.cause.Fault.{Fault}
use Rattle.qs_const.specs.declared.judgement.Kinds.{Kinds}
use Rattle.qs_const.specs.declared.judgement.Kinds.TheVariants as kind
use Rattle.qs_const.specs.declared.judgement.Judgement.{Judgement}
use Rattle.qs_const.specs.declared.judgement.Judgement.TheVariants.{Value, Absent}
use Rattle.qs_const.specs.declared.meaning.Meaning.{Meaning}
use Rattle.qs_const.specs.declared.meaning.Meaning.TheVariants as means
use Rattle.qs_const.specs.Causes.{first_fault}
use Rattle.qs_const.specs.Operations.{GivesWhole, PairGives, UnaryGives}
use Rattle.qs_const.specs.Scopes.{Scope}
use Rattle.qs_const.specs.Trees.{Tree, Integer, Fraction, Given, Quoted, Truthful, Named, Indexed, Called, Ruleless, Timed, Enclosed, Unary, Binary}
use Rattle.qs_const.specs.WithoutValue.{pair_cause, pair_kinds, unary_cause, unary_kinds}

-- ---- what a part comes to

-- no value: with the first cause in it, where there is one, and the kinds that it may have
abbrev pub without_value : Option Fault → Kinds → Judgement
without_value fault kinds = Absent (record { fault = fault; kinds = kinds; variable = false })

-- the kinds of a part that is refused, and of a name that nobody knows: in a duration they may be one too
abbrev pub any_kind : Scope → Kinds
any_kind scope = if scope.in_duration then kind.Anything else kind.NoDuration

-- a cause at a place
abbrev pub at : Span → Cause → Option Fault
at span cause = Some (record { span = span; cause = cause })

-- a part that is itself refused, with the first cause in its own parts; it may have any of the kinds that are given
abbrev pub refused : Kinds → Span → Cause → Option Fault → Judgement
refused any span cause inner = without_value (first_fault (at span cause) inner) any

-- what a number, a text or an operation on constants comes to
abbrev pub of_result : Kinds → Span → Result ConstVal Cause → Judgement
of_result any span (Ok v) = Value v
of_result any span (Err cause) = refused any span cause None

-- what an operation comes to of which an operand has no value: with its own cause, where there is one, the first cause in its operands, and the kinds of what isn't refused
abbrev pub of_cause : Kinds → Span → Option Cause → Option Fault → Kinds → Judgement
of_cause any span None inner kinds = without_value inner kinds
of_cause any span (Some cause) inner kinds = refused any span cause inner

-- the first cause in a part, where there is one
abbrev pub fault_of : Judgement → Option Fault
fault_of (Value v) = None
fault_of (Absent a) = a.fault

-- ---- names and texts

-- how many pi a name is
abbrev pub times_pi : List ℕ → Option ℕ
times_pi name =
    if bytes_eq name (codes "pi") || bytes_eq name (207 ∷ 128 ∷ []) then Some 1
    else (if bytes_eq name (codes "tau") || bytes_eq name (207 ∷ 132 ∷ []) then Some 2 else None)

-- a variable, with the first cause in its index: it is refused at its name
abbrev pub variable_at : Span → Option Fault → Judgement
variable_at span inner = Absent (record { fault = first_fault (at span Variable) inner; kinds = kind.NoDuration; variable = true })

-- what a name comes to that isn't one of pi: a constant its value, and a name without one stands for what its meaning tells, with what stands in its index
abbrev pub name_judged : Kinds → Span → Meaning → Judgement
name_judged any span (means.Constant v) = Value v
name_judged any span means.Variable = variable_at span None
name_judged any span means.Unknown = refused any span Unknown None
name_judged any span means.Parameter = without_value None kind.NoDuration
name_judged any span means.Duration = without_value None kind.Duration
name_judged any span means.Gate = refused any span NoRule None
name_judged any span means.NoValue = refused any span NoRule None

-- what a name with an index comes to, with the first cause in its index: a variable with an index is one, and what else is known has no index
abbrev pub index_judged : Kinds → Span → Meaning → Option Fault → Judgement
index_judged any span (means.Constant v) inner = refused any span NoRule inner
index_judged any span means.Variable inner = variable_at span inner
index_judged any span means.Unknown inner = refused any span Unknown inner
index_judged any span means.Parameter inner = refused any span NoRule inner
index_judged any span means.Duration inner = refused any span NoRule inner
index_judged any span means.Gate inner = refused any span NoRule inner
index_judged any span means.NoValue inner = refused any span NoRule inner

-- why a name can't be called: a gate gives no value, so its call has no rule, and no other name is one of a function
abbrev pub call_cause : Meaning → Cause
call_cause means.Gate = NoRule
call_cause meaning = Unknown

-- a name comes to a multiple of pi, or to what its scope says
abbrev pub NameComesTo : Scope → Span → List ℕ → Judgement → Type 0
NameComesTo scope span name j = elim (times_pi name) [
  | Some n ↦ (x : Num) × NumberIs (pos 0) (pos 1) (pos n) (pos 1) (Ok x) × (j ≡ Value (Number x))
  | None ↦ j ≡ name_judged (any_kind scope) span (scope.means name)
]

-- what a name with an index comes to: a multiple of pi has none
abbrev pub indexed : Scope → Span → List ℕ → Judgement → Judgement
indexed scope span name index = elim (times_pi name) [
  | Some n ↦ refused (any_kind scope) span NoRule (fault_of index)
  | None ↦ index_judged (any_kind scope) span (scope.means name) (fault_of index)
]

-- what a call comes to: no constant has one, and no multiple of pi can be called
abbrev pub called : Scope → Span → List ℕ → Judgement
called scope span name = refused (any_kind scope) span (elim (times_pi name) [ Some n ↦ Unknown | None ↦ call_cause (scope.means name) ]) None

-- a text in quotes comes to its digits, and one of another form has no rule
abbrev pub TextComesTo : Kinds → Span → List ℕ → Judgement → Type 0
TextComesTo any span text j = elim (bits_of text) [
  | Some bits ↦ (digits : Digits) × (digits.text ≡ bits) × (j ≡ Value (Bits digits))
  | None ↦ j ≡ refused any span NoRule None
]

-- ---- operations

-- an operator before an operand
abbrev pub UnaryComesTo : Kinds → Span → UnOp → Judgement → Judgement → Type 0
UnaryComesTo any span op (Value v) j = (result : Result ConstVal Cause) × UnaryGives op v result × (j ≡ of_result any span result)
UnaryComesTo any span op (Absent a) j = j ≡ of_cause any span (unary_cause op a.kinds) a.fault (unary_kinds op a.kinds)

-- what an operator between two operands comes to of which one has no value
abbrev pub pair_without_value : Kinds → Span → BinOp → Judgement → Judgement → Judgement
pair_without_value any span op x y = of_cause any span (pair_cause op x y) (first_fault (fault_of x) (fault_of y)) (pair_kinds op x y)

-- an operator between two operands
abbrev pub PairComesTo : Kinds → Span → BinOp → Judgement → Judgement → Judgement → Type 0
PairComesTo any span op (Value v) (Value w) j = (result : Result ConstVal Cause) × PairGives op v w result × (j ≡ of_result any span result)
PairComesTo any span op x y j = j ≡ pair_without_value any span op x y

-- ---- all of it

-- what a tree comes to
abbrev pub ComesTo : Scope → Tree → Judgement → Type 0
ComesTo scope (Integer span n) j = (result : Result ConstVal Cause) × GivesWhole (pos n) result × (j ≡ of_result (any_kind scope) span result)
ComesTo scope (Fraction q) j = (x : Num) × (x.plain ≡ q) × IsZero x.pi × (j ≡ Value (Number x))
ComesTo scope (Given x) j = j ≡ Value (Number x)
ComesTo scope (Quoted span text) j = TextComesTo (any_kind scope) span text j
ComesTo scope (Truthful b) j = j ≡ Value (Truth b)
ComesTo scope (Named span name) j = NameComesTo scope span name j
ComesTo scope (Indexed span name index) j = (i : Judgement) × ComesTo scope index i × (j ≡ indexed scope span name i)
ComesTo scope (Called span name) j = j ≡ called scope span name
ComesTo scope (Ruleless span) j = j ≡ refused (any_kind scope) span NoRule None
ComesTo scope Timed j = j ≡ without_value None kind.Duration
ComesTo scope (Enclosed inner) j = ComesTo scope inner j
ComesTo scope (Unary span op operand) j = (x : Judgement) × ComesTo scope operand x × UnaryComesTo (any_kind scope) span op x j
ComesTo scope (Binary span left op right) j =
    (x : Judgement) × (y : Judgement) × ComesTo scope left x × ComesTo scope right y × PairComesTo (any_kind scope) span op x y j
