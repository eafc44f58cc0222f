-- Fractions in lowest terms, and constant numbers a + b pi. This project's exact profile of constant expressions.
use Rattle.std.specs.Prelude.{◌≡◌, ◌≢◌, ◌⊎◌, ℕ, ℤ, pos, ◌+ℤ◌, ◌-ℤ◌, ◌*ℤ◌, Result, Ok, Err}
use Rattle.qs_values.specs.Lowest.{IsLowest, IsWide}
use Rattle.qs_values.specs.declared.number.Frac.{Frac}
use Rattle.qs_values.specs.declared.number.Num.{Num}
use Rattle.qs_values.specs.declared.refusal.NumRefusal.{NumRefusal}
use Rattle.qs_values.specs.declared.refusal.NumRefusal.TheVariants.{TooWide, PiTimesPi, ByZero, ByPi}

-- the number of a refusal
abbrev pub code_of : NumRefusal → ℕ
code_of TooWide = 121
code_of PiTimesPi = 122
code_of ByZero = 123
code_of ByPi = 124

-- A fraction is n over d.
abbrev pub IsFrac : ℤ → ℤ → Frac → Type 0
IsFrac n d f = IsLowest n d f.num f.den

-- What n over d comes to: the fraction, or exactly its refusal.
abbrev pub QuotientIs : ℤ → ℤ → Result Frac NumRefusal → Type 0
QuotientIs n d (Ok f) = (d ≢ pos 0) × IsFrac n d f
QuotientIs n d (Err ByZero) = d ≡ pos 0
QuotientIs n d (Err TooWide) = (d ≢ pos 0) × IsWide n d
QuotientIs n d (Err PiTimesPi) = ⊥
QuotientIs n d (Err ByPi) = ⊥

-- a + b pi with a = an/ad and b = bn/bd comes to: the number, or a refusal where a part is too wide
abbrev pub NumberIs : ℤ → ℤ → ℤ → ℤ → Result Num NumRefusal → Type 0
NumberIs an ad bn bd (Ok x) = IsFrac an ad x.plain × IsFrac bn bd x.pi
NumberIs an ad bn bd (Err TooWide) = IsWide an ad ⊎ IsWide bn bd
NumberIs an ad bn bd (Err PiTimesPi) = ⊥
NumberIs an ad bn bd (Err ByZero) = ⊥
NumberIs an ad bn bd (Err ByPi) = ⊥

-- A fraction is 0.
abbrev pub IsZero : Frac → Type 0
IsZero f = f.num ≡ pos 0

-- the sum
abbrev pub SumIs : Num → Num → Result Num NumRefusal → Type 0
SumIs x y r = NumberIs
    ((x.plain.num *ℤ y.plain.den) +ℤ (y.plain.num *ℤ x.plain.den)) (x.plain.den *ℤ y.plain.den)
    ((x.pi.num *ℤ y.pi.den) +ℤ (y.pi.num *ℤ x.pi.den)) (x.pi.den *ℤ y.pi.den) r

-- the difference
abbrev pub DifferenceIs : Num → Num → Result Num NumRefusal → Type 0
DifferenceIs x y r = NumberIs
    ((x.plain.num *ℤ y.plain.den) -ℤ (y.plain.num *ℤ x.plain.den)) (x.plain.den *ℤ y.plain.den)
    ((x.pi.num *ℤ y.pi.den) -ℤ (y.pi.num *ℤ x.pi.den)) (x.pi.den *ℤ y.pi.den) r

-- a number times a fraction
abbrev pub ScaledIs : Num → Frac → Result Num NumRefusal → Type 0
ScaledIs x f r = NumberIs (x.plain.num *ℤ f.num) (x.plain.den *ℤ f.den) (x.pi.num *ℤ f.num) (x.pi.den *ℤ f.den) r

-- the product: of two numbers with pi it is refused
abbrev pub ProductIs : Num → Num → Result Num NumRefusal → Type 0
ProductIs x y r =
    (IsZero y.pi × ScaledIs x y.plain r)
    ⊎ ((IsZero x.pi × ScaledIs y x.plain r)
    ⊎ ((x.pi.num ≢ pos 0) × (y.pi.num ≢ pos 0) × (r ≡ Err PiTimesPi)))

-- the quotient: by a number without pi, by 0, of two multiples of pi, and by any other number with pi
abbrev pub RatioIs : Num → Num → Result Num NumRefusal → Type 0
RatioIs x y r =
    (IsZero y.pi × (y.plain.num ≢ pos 0) × NumberIs (x.plain.num *ℤ y.plain.den) (x.plain.den *ℤ y.plain.num) (x.pi.num *ℤ y.plain.den) (x.pi.den *ℤ y.plain.num) r)
    ⊎ ((IsZero y.pi × IsZero y.plain × (r ≡ Err ByZero))
    ⊎ (((y.pi.num ≢ pos 0) × IsZero y.plain × IsZero x.plain × NumberIs (x.pi.num *ℤ y.pi.den) (x.pi.den *ℤ y.pi.num) (pos 0) (pos 1) r)
    ⊎ ((y.pi.num ≢ pos 0) × ((y.plain.num ≢ pos 0) ⊎ (x.plain.num ≢ pos 0)) × (r ≡ Err ByPi))))
