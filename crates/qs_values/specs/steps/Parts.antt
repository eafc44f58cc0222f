-- What the private steps of the four calls on numbers come to.
use Rattle.std.specs.Prelude.{◌+ℤ◌, ◌-ℤ◌, ◌*ℤ◌, Result}
use Rattle.qs_values.specs.Number.{NumberIs, QuotientIs}
use Rattle.qs_values.specs.declared.number.Frac.{Frac}
use Rattle.qs_values.specs.declared.number.Num.{Num}
use Rattle.qs_values.specs.declared.refusal.NumRefusal.{NumRefusal}

-- the sum of two fractions
abbrev pub FracSumIs : Frac → Frac → Result Frac NumRefusal → Type 0
FracSumIs a b r = QuotientIs ((a.num *ℤ b.den) +ℤ (b.num *ℤ a.den)) (a.den *ℤ b.den) r

-- the difference of two fractions
abbrev pub FracDifferenceIs : Frac → Frac → Result Frac NumRefusal → Type 0
FracDifferenceIs a b r = QuotientIs ((a.num *ℤ b.den) -ℤ (b.num *ℤ a.den)) (a.den *ℤ b.den) r

-- a number over a fraction
abbrev pub DividedIs : Num → Frac → Result Num NumRefusal → Type 0
DividedIs x f r = NumberIs (x.plain.num *ℤ f.den) (x.plain.den *ℤ f.num) (x.pi.num *ℤ f.den) (x.pi.den *ℤ f.num) r
