-- The whole numbers that constants are, and counts among them (OpenQASM 3.0, constant expressions, in this project's exact profile).
use Rattle.std.specs.Prelude.{◌≡◌, ◌⊎◌, ℕ, ◌<◌, ◌^◌, ℤ, unsigned_abs, Option, Some, None}
use Rattle.qs_values.specs.declared.number.Num.{Num}
use Rattle.qs_tree.specs.declared.constant.ConstVal.{ConstVal}
use Rattle.qs_tree.specs.declared.constant.ConstVal.TheVariants.{Number, Truth, Bits}
use Rattle.qs_const.specs.Operations.{IsCount, IsNoCount, IsNotWhole, IsWhole}

-- the whole number that a number is, which is below 10^18 in size, or that it is none
abbrev pub WholeIs : Num → Option ℤ → Type 0
WholeIs x (Some k) = IsWhole x k × (unsigned_abs k < 10 ^ 18)
WholeIs x None = IsNotWhole x

-- the whole number that a constant is, where it is a number and whole
abbrev pub OperandIs : ConstVal → Option ℤ → Type 0
OperandIs (Number x) k = WholeIs x k
OperandIs (Truth b) k = k ≡ None
OperandIs (Bits b) k = k ≡ None

-- the count from 0 to 63 that a number is, or that it is none
abbrev pub CountIs : Num → Option ℕ → Type 0
CountIs y (Some n) = IsCount y n
CountIs y None = IsNotWhole y ⊎ IsNoCount y
