-- What an operand may be, where it or the other operand of its operation has no value (OpenQASM 3.0, types and casting, in this
-- project's profile). A part without a value may be of a run-time type, which a constant beside it takes: so 0 and 1 may be truth
-- values, and a text may be a number.
use Rattle.std.specs.Prelude.{ℤ, pos, Bool, true, false, ◌&&◌, ◌||◌, not, int_le}
use Rattle.std.specs.Ordering.{int_eq}
use Rattle.qs_values.specs.declared.number.Num.{Num}
use Rattle.qs_tree.specs.declared.constant.ConstVal.TheVariants.{Number, Truth, Bits}
use Rattle.qs_const.specs.declared.judgement.Kinds.{Kinds}
use Rattle.qs_const.specs.declared.judgement.Kinds.TheVariants.{Anything, NoDuration, Duration}
use Rattle.qs_const.specs.declared.judgement.Kinds.TheVariants as kind
use Rattle.qs_const.specs.declared.judgement.Judgement.{Judgement}
use Rattle.qs_const.specs.declared.judgement.Judgement.TheVariants.{Value, Absent}

-- ---- numbers

-- whether a number has a part with pi
abbrev pub has_pi : Num → Bool
has_pi x = not (int_eq x.pi.num (pos 0))

-- whether it has a part without pi
abbrev pub has_plain : Num → Bool
has_plain x = not (int_eq x.plain.num (pos 0))

-- whether it is whole
abbrev pub is_whole : Num → Bool
is_whole x = not (has_pi x) && int_eq x.plain.den (pos 1)

-- whether it is a whole number from 0 to a limit
abbrev pub is_up_to : Num → ℤ → Bool
is_up_to x most = is_whole x && (int_le (pos 0) x.plain.num && int_le x.plain.num most)

-- ---- kinds

-- whether a number is among some kinds
abbrev pub has_number : Kinds → Bool
has_number kind.Number = true
has_number NoDuration = true
has_number Anything = true
has_number kinds = false

-- whether a truth value is
abbrev pub has_truth : Kinds → Bool
has_truth kind.Truth = true
has_truth NoDuration = true
has_truth Anything = true
has_truth kinds = false

-- whether all that is known of some kinds is that they are a duration's
abbrev pub has_duration_alone : Kinds → Bool
has_duration_alone Duration = true
has_duration_alone kinds = false

-- ---- operands

-- a number, or a text that becomes one
abbrev pub may_be_number : Judgement → Bool
may_be_number (Value (Number x)) = true
may_be_number (Value (Truth b)) = false
may_be_number (Value (Bits digits)) = true
may_be_number (Absent a) = has_number a.kinds

-- a truth value without a value, which may be of a run-time type
abbrev pub may_be_truth : Judgement → Bool
may_be_truth (Value v) = false
may_be_truth (Absent a) = has_truth a.kinds

-- what may stand beside one: a truth value, or a number that may be 0 or 1
abbrev pub may_become_truth : Judgement → Bool
may_become_truth (Value (Number x)) = is_up_to x (pos 1)
may_become_truth (Value (Truth b)) = true
may_become_truth (Value (Bits digits)) = false
may_become_truth (Absent a) = not (has_duration_alone a.kinds)

-- a truth value without a value, beside what may stand there
abbrev pub takes_truth : Judgement → Judgement → Bool
takes_truth x y = may_be_truth x && may_become_truth y

-- two operands that may be truth values together
abbrev pub may_be_truths : Judgement → Judgement → Bool
may_be_truths x y = takes_truth x y || takes_truth y x

-- a whole number, or a text that becomes one
abbrev pub may_be_whole : Judgement → Bool
may_be_whole (Value (Number x)) = is_whole x
may_be_whole (Value (Truth b)) = false
may_be_whole (Value (Bits digits)) = true
may_be_whole (Absent a) = has_number a.kinds

-- a whole number itself: what a shift takes
abbrev pub may_be_shifted : Judgement → Bool
may_be_shifted (Value (Number x)) = is_whole x
may_be_shifted (Value v) = false
may_be_shifted (Absent a) = has_number a.kinds

-- a number itself: the base of a power
abbrev pub may_be_base : Judgement → Bool
may_be_base (Value (Number x)) = true
may_be_base (Value v) = false
may_be_base (Absent a) = has_number a.kinds

-- a number without pi: the factor or the divisor of a duration
abbrev pub may_be_factor : Judgement → Bool
may_be_factor (Value (Number x)) = not (has_pi x)
may_be_factor (Value v) = false
may_be_factor (Absent a) = has_number a.kinds

-- a whole number from 0 to 63: a count of a shift, or an exponent
abbrev pub may_be_count : Judgement → Bool
may_be_count (Value (Number x)) = is_up_to x (pos 63)
may_be_count (Value v) = false
may_be_count (Absent a) = has_number a.kinds

-- a whole number that is no count
abbrev pub is_wide_count : Judgement → Bool
is_wide_count (Value (Number x)) = is_whole x && not (is_up_to x (pos 63))
is_wide_count (Value v) = false
is_wide_count (Absent a) = false

-- a truth value that an operator makes, without a value
abbrev pub is_made_truth : Judgement → Bool
is_made_truth (Absent a) = has_truth a.kinds && not (has_number a.kinds)
is_made_truth (Value v) = false

-- a duration
abbrev pub is_duration : Judgement → Bool
is_duration (Absent a) = has_duration_alone a.kinds
is_duration (Value v) = false

-- whether nothing is known of a part, not even that it is no duration
abbrev pub has_anything : Kinds → Bool
has_anything Anything = true
has_anything kinds = false

-- such a part
abbrev pub is_anything : Judgement → Bool
is_anything (Absent a) = has_anything a.kinds
is_anything (Value v) = false

-- a variable, one with an index, or one of these in brackets
abbrev pub is_variable : Judgement → Bool
is_variable (Absent a) = a.variable
is_variable (Value v) = false
