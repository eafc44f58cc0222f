-- The operations on constants, case by case (OpenQASM 3.0, constant expressions, in this project's exact profile).
use Rattle.std.specs.Prelude.{◌≡◌, ◌≢◌, ◌⊎◌, ℕ, ◌≤◌, ◌^◌, ℤ, pos, ◌+ℤ◌, ◌-ℤ◌, ◌*ℤ◌, ◌≤ℤ◌, ◌<ℤ◌, Bool, ◌&&◌, ◌||◌, not, int_rem, int_lt, int_le, Result, Ok, Err, zero, suc}
use Rattle.std.specs.Bool.{beq}
use Rattle.std.specs.Ordering.{int_eq}
use Rattle.std.specs.Int.{int_bit_and, int_bit_or, int_bit_xor, int_pow}
use mir.Syntax.{w64}
use Rattle.qs_values.specs.Number.{IsZero, NumberIs, SumIs, DifferenceIs, ProductIs, RatioIs}
use Rattle.qs_values.specs.declared.number.Num.{Num}
use Rattle.qs_values.specs.declared.refusal.NumRefusal.{NumRefusal}
use Rattle.qs_values.specs.declared.refusal.NumRefusal.TheVariants.{TooWide, PiTimesPi, ByZero, ByPi}
use Rattle.qs_tree.specs.declared.constant.ConstVal.{ConstVal}
use Rattle.qs_tree.specs.declared.constant.ConstVal.TheVariants.{Number, Truth}
use Rattle.qs_tree.specs.declared.operator.UnOp.{UnOp}
use Rattle.qs_tree.specs.declared.operator.UnOp.TheVariants.{Not, Neg, Invert}
use Rattle.qs_tree.specs.declared.operator.BinOp.{BinOp}
use Rattle.qs_tree.specs.declared.operator.BinOp.TheVariants.{Power, Mul, Div, Rem, Add, Sub, ShiftLeft, ShiftRight, Less, LessEqual, Greater, GreaterEqual, Equal, NotEqual, BitAnd, BitXor, BitOr, And, Or}
use Rattle.qs_const.specs.declared.cause.Cause.{Cause}
use Rattle.qs_const.specs.declared.cause.Cause.TheVariants.{BadPower, NoRule}
use Rattle.qs_const.specs.declared.cause.Cause.TheVariants as cause

-- what an operation comes to that a result among numbers gives
abbrev pub number_result : Result Num NumRefusal → Result ConstVal Cause
number_result (Ok x) = Ok (Number x)
number_result (Err e) = Err (cause.Number e)

-- It comes to the number a + b pi with a = an/ad and b = bn/bd, or to its refusal.
abbrev pub GivesNumber : ℤ → ℤ → ℤ → ℤ → Result ConstVal Cause → Type 0
GivesNumber an ad bn bd result = (r : Result Num NumRefusal) × NumberIs an ad bn bd r × (result ≡ number_result r)

-- It comes to this whole number, or to its refusal where it has 19 digits or more.
abbrev pub GivesWhole : ℤ → Result ConstVal Cause → Type 0
GivesWhole k result = GivesNumber k (pos 1) (pos 0) (pos 1) result

-- A number is whole, and this.
abbrev pub IsWhole : Num → ℤ → Type 0
IsWhole x k = IsZero x.pi × (x.plain.den ≡ pos 1) × (x.plain.num ≡ k)

-- A number isn't whole.
abbrev pub IsNotWhole : Num → Type 0
IsNotWhole x = (x.pi.num ≢ pos 0) ⊎ (x.plain.den ≢ pos 1)

-- ---- operators before an operand

-- what an operator gives for a constant
abbrev pub UnaryGives : UnOp → ConstVal → Result ConstVal Cause → Type 0
UnaryGives Neg (Number x) result = GivesNumber (pos 0 -ℤ x.plain.num) x.plain.den (pos 0 -ℤ x.pi.num) x.pi.den result
UnaryGives Invert (Number x) result = ((k : ℤ) × IsWhole x k × GivesWhole ((pos 0 -ℤ k) -ℤ pos 1) result) ⊎ (IsNotWhole x × (result ≡ Err NoRule))
UnaryGives Not (Truth b) result = result ≡ Ok (Truth (not b))
UnaryGives op v result = result ≡ Err NoRule

-- ---- operators between two operands of one kind

-- an operation on numbers
abbrev pub OfNumbers : (Num → Num → Result ConstVal Cause → Type 0) → ConstVal → ConstVal → Result ConstVal Cause → Type 0
OfNumbers Gives (Number x) (Number y) result = Gives x y result
OfNumbers Gives left right result = result ≡ Err NoRule

-- one that a relation of numbers gives
abbrev pub ByResult : (Num → Num → Result Num NumRefusal → Type 0) → Num → Num → Result ConstVal Cause → Type 0
ByResult Is x y result = (r : Result Num NumRefusal) × Is x y r × (result ≡ number_result r)

-- an operation on whole numbers
abbrev pub OnWholes : (ℤ → ℤ → Result ConstVal Cause → Type 0) → Num → Num → Result ConstVal Cause → Type 0
OnWholes Gives x y result =
    ((j : ℤ) × (k : ℤ) × IsWhole x j × IsWhole y k × Gives j k result)
    ⊎ ((IsNotWhole x ⊎ IsNotWhole y) × (result ≡ Err NoRule))

-- one on operands that may be whole numbers
abbrev pub OfWholes : (ℤ → ℤ → Result ConstVal Cause → Type 0) → ConstVal → ConstVal → Result ConstVal Cause → Type 0
OfWholes Gives left right result = OfNumbers (OnWholes Gives) left right result

-- what an operator gives for two whole numbers: a comparison, or their bits as those of signed 64-bit numbers
abbrev pub WholesGive : BinOp → ℤ → ℤ → Result ConstVal Cause → Type 0
WholesGive Less j k result = result ≡ Ok (Truth (int_lt j k))
WholesGive LessEqual j k result = result ≡ Ok (Truth (int_le j k))
WholesGive Greater j k result = result ≡ Ok (Truth (int_lt k j))
WholesGive GreaterEqual j k result = result ≡ Ok (Truth (int_le k j))
WholesGive Equal j k result = result ≡ Ok (Truth (int_eq j k))
WholesGive NotEqual j k result = result ≡ Ok (Truth (not (int_eq j k)))
WholesGive BitAnd j k result = GivesWhole (int_bit_and w64 j k) result
WholesGive BitXor j k result = GivesWhole (int_bit_xor w64 j k) result
WholesGive BitOr j k result = GivesWhole (int_bit_or w64 j k) result
WholesGive op j k result = result ≡ Err NoRule

-- what an operator gives for two truth values
abbrev pub truths_give : BinOp → Bool → Bool → Result ConstVal Cause
truths_give Equal a b = Ok (Truth (beq a b))
truths_give NotEqual a b = Ok (Truth (not (beq a b)))
truths_give And a b = Ok (Truth (a && b))
truths_give Or a b = Ok (Truth (a || b))
truths_give op a b = Err NoRule

-- a comparison, an operator on bits or an operator on truth values
abbrev pub AlikeGive : BinOp → ConstVal → ConstVal → Result ConstVal Cause → Type 0
AlikeGive op (Truth a) (Truth b) result = result ≡ truths_give op a b
AlikeGive op left right result = OfWholes (WholesGive op) left right result

-- ---- quotients, remainders, shifts and powers, which may be refused whatever the left operand is

-- A number is 0.
abbrev pub IsZeroNumber : Num → Type 0
IsZeroNumber y = IsZero y.plain × IsZero y.pi

-- a divisor of what is no number
abbrev pub DividesOther : Num → Result ConstVal Cause → Type 0
DividesOther y result =
    (IsZeroNumber y × (result ≡ Err (cause.Number ByZero)))
    ⊎ (((y.pi.num ≢ pos 0) × (result ≡ Err (cause.Number ByPi)))
    ⊎ (¬ (IsZeroNumber y) × IsZero y.pi × (result ≡ Err NoRule)))

-- a quotient
abbrev pub QuotientGives : ConstVal → ConstVal → Result ConstVal Cause → Type 0
QuotientGives (Number x) (Number y) result = ByResult RatioIs x y result
QuotientGives left (Number y) result = DividesOther y result
QuotientGives left right result = result ≡ Err NoRule

-- the remainder has the dividend's sign
abbrev pub Remains : ℤ → ℤ → Result ConstVal Cause → Type 0
Remains j k result = GivesWhole (int_rem j k) result

-- a remainder: a divisor 0 or with pi is refused, whatever is divided
abbrev pub RemainderGives : ConstVal → ConstVal → Result ConstVal Cause → Type 0
RemainderGives left (Number y) result =
    (IsZeroNumber y × (result ≡ Err (cause.Number ByZero)))
    ⊎ (((y.pi.num ≢ pos 0) × (result ≡ Err (cause.Number ByPi)))
    ⊎ (¬ (IsZeroNumber y) × IsZero y.pi × OfWholes Remains left (Number y) result))
RemainderGives left right result = result ≡ Err NoRule

-- what a shift to the left by so many places gives for a whole number
abbrev pub ShiftsUp : ℤ → ℕ → Result ConstVal Cause → Type 0
ShiftsUp j n result = GivesWhole (j *ℤ pos (2 ^ n)) result

-- what one to the right gives, rounded down
abbrev pub ShiftsDown : ℤ → ℕ → Result ConstVal Cause → Type 0
ShiftsDown j n result = (k : ℤ) × ((k *ℤ pos (2 ^ n)) ≤ℤ j) × (j <ℤ ((k +ℤ pos 1) *ℤ pos (2 ^ n))) × GivesWhole k result

-- what one gives for any operand
abbrev pub ShiftedGives : (ℤ → ℕ → Result ConstVal Cause → Type 0) → ConstVal → ℕ → Result ConstVal Cause → Type 0
ShiftedGives Shifts (Number x) n result = ((j : ℤ) × IsWhole x j × Shifts j n result) ⊎ (IsNotWhole x × (result ≡ Err NoRule))
ShiftedGives Shifts left n result = result ≡ Err NoRule

-- a whole number from 0 to 63, which counts of shifts and exponents are
abbrev pub IsCount : Num → ℕ → Type 0
IsCount y n = IsWhole y (pos n) × (n ≤ 63)

-- a whole number below 0 or above 63
abbrev pub IsNoCount : Num → Type 0
IsNoCount y = (k : ℤ) × IsWhole y k × ((k <ℤ pos 0) ⊎ (pos 63 <ℤ k))

-- a shift: a whole count outside of 0 to 63 is refused, whatever is shifted, and any other count that isn't whole has no rule
abbrev pub ShiftGives : (ℤ → ℕ → Result ConstVal Cause → Type 0) → ConstVal → ConstVal → Result ConstVal Cause → Type 0
ShiftGives Shifts left (Number y) result =
    (IsNoCount y × (result ≡ Err (cause.Number TooWide)))
    ⊎ (((n : ℕ) × IsCount y n × ShiftedGives Shifts left n result)
    ⊎ (IsNotWhole y × (result ≡ Err NoRule)))
ShiftGives Shifts left right result = result ≡ Err NoRule

-- x to the n-th power, where x has pi: a product of two such numbers is refused
abbrev pub IsPowerWithPi : Num → ℕ → Result Num NumRefusal → Type 0
IsPowerWithPi x zero r = NumberIs (pos 1) (pos 1) (pos 0) (pos 1) r
IsPowerWithPi x (suc zero) r = r ≡ Ok x
IsPowerWithPi x (suc (suc n)) r = r ≡ Err PiTimesPi

-- x to the n-th power
abbrev pub IsPower : Num → ℕ → Result Num NumRefusal → Type 0
IsPower x n r =
    (IsZero x.pi × NumberIs (int_pow x.plain.num n) (int_pow x.plain.den n) (pos 0) (pos 1) r)
    ⊎ ((x.pi.num ≢ pos 0) × IsPowerWithPi x n r)

-- what a constant gives to the n-th power: what is no number has none
abbrev pub RaisedGives : ConstVal → ℕ → Result ConstVal Cause → Type 0
RaisedGives (Number x) n result = (r : Result Num NumRefusal) × IsPower x n r × (result ≡ number_result r)
RaisedGives left n result = result ≡ Err NoRule

-- a power: what isn't a whole number from 0 to 63 is no exponent, whatever is raised to it
abbrev pub PowerGives : ConstVal → ConstVal → Result ConstVal Cause → Type 0
PowerGives left (Number y) result = ((IsNotWhole y ⊎ IsNoCount y) × (result ≡ Err BadPower)) ⊎ ((n : ℕ) × IsCount y n × RaisedGives left n result)
PowerGives left right result = result ≡ Err BadPower

-- ---- all of them

-- what an operator between two constants gives; the last row is of comparisons, bits and truth values
abbrev pub PairGives : BinOp → ConstVal → ConstVal → Result ConstVal Cause → Type 0
PairGives Power left right result = PowerGives left right result
PairGives Mul left right result = OfNumbers (ByResult ProductIs) left right result
PairGives Div left right result = QuotientGives left right result
PairGives Rem left right result = RemainderGives left right result
PairGives Add left right result = OfNumbers (ByResult SumIs) left right result
PairGives Sub left right result = OfNumbers (ByResult DifferenceIs) left right result
PairGives ShiftLeft left right result = ShiftGives ShiftsUp left right result
PairGives ShiftRight left right result = ShiftGives ShiftsDown left right result
PairGives op left right result = AlikeGive op left right result
