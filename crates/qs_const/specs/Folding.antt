-- What `fold` answers, of what an expression comes to where its names are constants or variables. This project's own.
use Rattle.std.specs.Prelude.{◌≡◌, ◌≢◌, ℕ, List, false, Option, Some, None, Result, Ok, Err}
use Rattle.qs_values.specs.declared.span.Span.{Span}
use Rattle.qs_tree.specs.declared.constant.Const.{Const}
use Rattle.qs_tree.specs.declared.constant.Consts.{Consts}
use Rattle.qs_tree.specs.declared.constant.ConstVal.{ConstVal}
use Rattle.qs_tree.specs.declared.expr.Expr.{Expr}
use Rattle.qs_tree.specs.Constants.{constant_in}
use Rattle.qs_const.specs.declared.cause.Cause.TheVariants.{NoRule}
use Rattle.qs_const.specs.declared.cause.Fault.{Fault}
use Rattle.qs_const.specs.declared.judgement.Judgement.{Judgement}
use Rattle.qs_const.specs.declared.judgement.Judgement.TheVariants.{Value, Absent}
use Rattle.qs_const.specs.declared.meaning.Meaning.{Meaning}
use Rattle.qs_const.specs.declared.meaning.Meaning.TheVariants.{Constant, Variable}
use Rattle.qs_const.specs.declared.refusal.ConstRefusal.{ConstRefusal}
use Rattle.qs_const.specs.declared.refusal.ConstRefusal.TheVariants.{TooWide, PiTimesPi, ByZero, ByPi, BadPower, NotConst, Memory}
use Rattle.qs_const.specs.Causes.{cause_code}
use Rattle.qs_const.specs.Judging.{ComesTo, fault_of}
use Rattle.qs_const.specs.Scopes.{Scope}
use Rattle.qs_const.specs.Trees.{tree_of}

-- the number and the place of a refusal; one for memory has no place
abbrev pub told : ConstRefusal → Option (ℕ × Span)
told (TooWide span) = Some (121, span)
told (PiTimesPi span) = Some (122, span)
told (ByZero span) = Some (123, span)
told (ByPi span) = Some (124, span)
told (BadPower span) = Some (125, span)
told (NotConst span) = Some (126, span)
told Memory = None

-- the number of a refusal, and 0 for memory
abbrev pub refusal_code : ConstRefusal → ℕ
refusal_code r = elim (told r) [ Some t ↦ t.0 | None ↦ 0 ]

-- a constant, or else another meaning
abbrev pub constant_or : Meaning → Option ConstVal → Meaning
constant_or meaning (Some v) = Constant v
constant_or meaning None = meaning

-- the scope in which a name without a constant is a variable
abbrev pub scope_of : List Const → Scope
scope_of consts = record { means = λ name. constant_or Variable (constant_in consts name); in_duration = false }

-- It is a value, or its first cause is another one than that a part has no rule.
abbrev pub IsValueOrRefusal : Judgement → Type 0
IsValueOrRefusal (Value v) = Unit {0}
IsValueOrRefusal (Absent a) = (fault : Fault) × (a.fault ≡ Some fault) × (fault.cause ≢ NoRule)

-- Whatever an expression comes to, it is a value or a refusal.
abbrev pub IsFoldable : Expr → Consts → Type 0
IsFoldable e consts = (j : Judgement) → ComesTo (scope_of consts.list) (tree_of e) j → IsValueOrRefusal j

-- What `fold` answers: the value, or the first refusal. Out of memory is free.
abbrev pub FoldIs : Expr → Consts → Result ConstVal ConstRefusal → Type 0
FoldIs e consts (Ok v) = ComesTo (scope_of consts.list) (tree_of e) (Value v)
FoldIs e consts (Err r) = elim (told r) [
  | None ↦ Unit {0}
  | Some t ↦ (j : Judgement) × (fault : Fault) × ComesTo (scope_of consts.list) (tree_of e) j × (fault_of j ≡ Some fault) × (t ≡ (cause_code fault.cause, fault.span))
]
