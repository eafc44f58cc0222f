-- Why an expression has no value, and which cause comes first in the text. This project's own.
use Rattle.std.specs.Prelude.{ℕ, Bool, ◌&&◌, ◌||◌, if◌then◌else◌, nat_eq, nat_lt, Option, Some, None}
use Rattle.qs_values.specs.Number.{code_of}
use Rattle.qs_const.specs.declared.cause.Cause.{Cause}
use Rattle.qs_const.specs.declared.cause.Cause.TheVariants.{Number, BadPower, Variable, Unknown, NoRule}
use Rattle.qs_const.specs.declared.cause.Fault.{Fault}

-- the number of a cause: a name without a constant is 126, whether it is a variable or unknown, and what no rule types is 133
abbrev pub cause_code : Cause → ℕ
cause_code (Number refusal) = code_of refusal
cause_code BadPower = 125
cause_code Variable = 126
cause_code Unknown = 126
cause_code NoRule = 133

-- whether a fault comes before another: it stands before it in the text, or at the same place with a lower number
abbrev pub is_before : Fault → Fault → Bool
is_before f g =
    nat_lt f.span.line g.span.line
    || (nat_eq f.span.line g.span.line && (nat_lt f.span.col g.span.col || (nat_eq f.span.col g.span.col && nat_lt (cause_code f.cause) (cause_code g.cause))))

-- the first of two faults
abbrev pub first_fault : Option Fault → Option Fault → Option Fault
first_fault None other = other
first_fault (Some f) None = Some f
first_fault (Some f) (Some g) = if is_before g f then Some g else Some f
