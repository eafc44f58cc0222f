-- An operation with an operand that has no value: it is refused only where it is whatever that operand is, and may have only
-- the kinds that some typing of its operands gives (OpenQASM 3.0, types and casting, in this project's profile).
use Rattle.std.specs.Prelude.{Bool, ◌&&◌, ◌||◌, not, if◌then◌else◌, Option, Some, None}
use Rattle.qs_values.specs.declared.number.Num.{Num}
use Rattle.qs_values.specs.declared.refusal.NumRefusal.TheVariants.{TooWide, ByZero, ByPi}
use Rattle.qs_tree.specs.declared.constant.ConstVal.TheVariants as constant
use Rattle.qs_tree.specs.declared.operator.UnOp.{UnOp}
use Rattle.qs_tree.specs.declared.operator.UnOp.TheVariants.{Not, Neg, Invert}
use Rattle.qs_tree.specs.declared.operator.BinOp.{BinOp}
use Rattle.qs_tree.specs.declared.operator.BinOp.TheVariants.{Power, Mul, Div, Rem, Add, Sub, ShiftLeft, ShiftRight, Less, LessEqual, Greater, GreaterEqual, Equal, NotEqual, BitAnd, BitXor, BitOr, And, Or}
use Rattle.qs_const.specs.declared.cause.Cause.{Cause}
use Rattle.qs_const.specs.declared.cause.Cause.TheVariants.{BadPower, NoRule}
use Rattle.qs_const.specs.declared.cause.Cause.TheVariants as cause
use Rattle.qs_const.specs.declared.judgement.Kinds.{Kinds}
use Rattle.qs_const.specs.declared.judgement.Kinds.TheVariants.{Anything, NoDuration, Number, Truth, Duration}
use Rattle.qs_const.specs.declared.judgement.Judgement.{Judgement}
use Rattle.qs_const.specs.declared.judgement.Judgement.TheVariants.{Value}
use Rattle.qs_const.specs.Operands.{has_duration_alone, has_number, has_pi, has_plain, has_truth, is_anything, is_duration, is_made_truth, is_variable, is_wide_count, is_whole, may_be_base, may_be_count, may_be_factor, may_be_number, may_be_shifted, may_be_truths, may_be_whole}

-- an operation has no rule, unless these operands may have a type for it
abbrev pub unless_typed : Bool → Option Cause
unless_typed typed = if typed then None else Some NoRule

-- ---- operators before an operand

-- what refuses one
abbrev pub unary_cause : UnOp → Kinds → Option Cause
unary_cause Not kinds = unless_typed (has_truth kinds)
unary_cause Neg kinds = unless_typed (has_number kinds || has_duration_alone kinds)
unary_cause Invert kinds = unless_typed (has_number kinds || has_truth kinds)

-- which kinds it may have: what `~` gives has its operand's
abbrev pub unary_kinds : UnOp → Kinds → Kinds
unary_kinds op Anything = Anything
unary_kinds Not kinds = Truth
unary_kinds Neg Duration = Duration
unary_kinds Neg kinds = Number
unary_kinds Invert kinds = kinds

-- ---- operators between two operands

-- A power of a variable is refused, whatever stands around it. So is one whose exponent can't be a whole number from 0 to 63,
-- and one whose base an operator makes a truth value.
abbrev pub power_cause : Judgement → Judgement → Option Cause
power_cause base exponent =
    if is_variable base || is_variable exponent || not (may_be_count exponent) || is_made_truth base then Some BadPower
    else unless_typed (may_be_base base)

-- a divisor that is a number: 0 is refused beside any dividend but a duration, and one with pi where it has a plain part too
-- or the dividend can't be a number
abbrev pub divisor_cause : Judgement → Num → Option Cause
divisor_cause dividend y =
    if is_duration dividend then unless_typed (not (has_pi y) && has_plain y)
    else (if has_pi y then (if has_plain y || not (may_be_number dividend) then Some (cause.Number ByPi) else None)
    else (if has_plain y then unless_typed (may_be_number dividend) else Some (cause.Number ByZero)))

-- a quotient
abbrev pub quotient_cause : Judgement → Judgement → Option Cause
quotient_cause dividend (Value (constant.Number y)) = divisor_cause dividend y
quotient_cause dividend divisor =
    unless_typed (may_be_number divisor && (may_be_number dividend || (is_duration dividend && may_be_factor divisor)))

-- a remainder of a number
abbrev pub modulus_cause : Judgement → Num → Option Cause
modulus_cause dividend y =
    if is_duration dividend then Some NoRule
    else (if has_pi y then Some (cause.Number ByPi)
    else (if has_plain y then unless_typed (is_whole y && may_be_whole dividend) else Some (cause.Number ByZero)))

-- a remainder
abbrev pub remainder_cause : Judgement → Judgement → Option Cause
remainder_cause dividend (Value (constant.Number y)) = modulus_cause dividend y
remainder_cause dividend divisor = unless_typed (may_be_whole divisor && may_be_whole dividend)

-- A shift: a whole count outside of 0 to 63 is refused, whatever is shifted. What else can't be a count has no rule, as a truth
-- value that an operator makes; but where a variable is shifted it is the variable that is in the way.
abbrev pub shift_cause : Judgement → Judgement → Option Cause
shift_cause shifted count =
    if is_wide_count count then Some (cause.Number TooWide)
    else unless_typed (may_be_shifted shifted && (may_be_count count || is_variable shifted))

-- what refuses an operation of which one operand has no value
abbrev pub typed_cause : BinOp → Judgement → Judgement → Option Cause
typed_cause Power x y = power_cause x y
typed_cause Mul x y = unless_typed ((may_be_number x && may_be_number y) || (is_duration x && may_be_factor y) || (may_be_factor x && is_duration y))
typed_cause Div x y = quotient_cause x y
typed_cause Rem x y = remainder_cause x y
typed_cause Add x y = unless_typed ((may_be_number x && may_be_number y) || (is_duration x && is_duration y))
typed_cause Sub x y = unless_typed ((may_be_number x && may_be_number y) || (is_duration x && is_duration y))
typed_cause ShiftLeft x y = shift_cause x y
typed_cause ShiftRight x y = shift_cause x y
typed_cause Less x y = unless_typed (may_be_number x && may_be_number y)
typed_cause LessEqual x y = unless_typed (may_be_number x && may_be_number y)
typed_cause Greater x y = unless_typed (may_be_number x && may_be_number y)
typed_cause GreaterEqual x y = unless_typed (may_be_number x && may_be_number y)
typed_cause Equal x y = unless_typed (may_be_truths x y || (may_be_number x && may_be_number y))
typed_cause NotEqual x y = unless_typed (may_be_truths x y || (may_be_number x && may_be_number y))
typed_cause BitAnd x y = unless_typed (may_be_truths x y || (may_be_whole x && may_be_whole y))
typed_cause BitXor x y = unless_typed (may_be_truths x y || (may_be_whole x && may_be_whole y))
typed_cause BitOr x y = unless_typed (may_be_truths x y || (may_be_whole x && may_be_whole y))
typed_cause And x y = unless_typed (may_be_truths x y)
typed_cause Or x y = unless_typed (may_be_truths x y)

-- a number, or the duration that a duration makes
abbrev pub number_or_duration : Bool → Kinds
number_or_duration duration = if duration then Duration else Number

-- bits of two truth values, or of two whole numbers
abbrev pub bits_kinds : Judgement → Judgement → Kinds
bits_kinds x y =
    if may_be_truths x y then (if may_be_whole x && may_be_whole y then NoDuration else Truth)
    else Number

-- the kinds that such an operation may have, where it isn't refused
abbrev pub typed_kinds : BinOp → Judgement → Judgement → Kinds
typed_kinds Mul x y = number_or_duration (is_duration x || is_duration y)
typed_kinds Div x y = number_or_duration (is_duration x)
typed_kinds Add x y = number_or_duration (is_duration x)
typed_kinds Sub x y = number_or_duration (is_duration x)
typed_kinds Power x y = Number
typed_kinds Rem x y = Number
typed_kinds ShiftLeft x y = Number
typed_kinds ShiftRight x y = Number
typed_kinds BitAnd x y = bits_kinds x y
typed_kinds BitXor x y = bits_kinds x y
typed_kinds BitOr x y = bits_kinds x y
typed_kinds op x y = Truth

-- round what may be anything, a duration too, nothing is refused, and all of it may be anything
abbrev pub pair_cause : BinOp → Judgement → Judgement → Option Cause
pair_cause op x y = if is_anything x || is_anything y then None else typed_cause op x y

-- the kinds of an operation
abbrev pub pair_kinds : BinOp → Judgement → Judgement → Kinds
pair_kinds op x y = if is_anything x || is_anything y then Anything else typed_kinds op x y
