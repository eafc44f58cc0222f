-- A quotient has one answer, and so has an operation on two numbers. This project's own.
use Rattle.std.specs.Prelude.{◌≡◌, ℤ, Result}
use Rattle.qs_values.specs.Number.{QuotientIs}
use Rattle.qs_values.specs.declared.number.Frac.{Frac}
use Rattle.qs_values.specs.declared.number.Num.{Num}
use Rattle.qs_values.specs.declared.refusal.NumRefusal.{NumRefusal}

-- n over d comes to one fraction, or to one refusal
abbrev pub QuotientOnce : Type 0
QuotientOnce = (n d : ℤ) (r s : Result Frac NumRefusal) → QuotientIs n d r → QuotientIs n d s → r ≡ s

-- two numbers come by an operation to one number, or to one refusal
abbrev pub OperationOnce : (Num → Num → Result Num NumRefusal → Type 0) → Type 0
OperationOnce Is = (x y : Num) (r s : Result Num NumRefusal) → Is x y r → Is x y s → r ≡ s
