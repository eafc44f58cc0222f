-- Stretch solutions: the fractions that satisfy each equation of a group, told by putting them in. This project's own.
-- Fractions are numerators, one for each stretch of the group, over one denominator above 0.
use Rattle.std.specs.Prelude.{◌≡◌, ℕ, ◌<◌, ◌≤◌, ◌^◌, ℤ, pos, ◌+ℤ◌, ◌*ℤ◌, ◌<ℤ◌, ◌≤ℤ◌, unsigned_abs, List, [], ◌∷◌, length, map, take, drop, All, Any, Result, Ok, Err}
use Rattle.qs_values.specs.declared.stretch.Group.{Group}
use Rattle.qs_values.specs.declared.stretch.Row.{Row}
use Rattle.stretch_solve.specs.declared.solution.Solution.{Solution}
use Rattle.stretch_solve.specs.declared.refusal.StretchRefusal.{StretchRefusal}
use Rattle.stretch_solve.specs.declared.refusal.StretchRefusal.TheVariants.{StretchNone, StretchMany, StretchNegative, GroupTooLarge}

-- the sum of each coefficient times the numerator at its place
abbrev pub total : List ℤ → List ℤ → ℤ
total [] nums = pos 0
total (coef ∷ coefs) [] = pos 0
total (coef ∷ coefs) (num ∷ nums) = (coef *ℤ num) +ℤ total coefs nums

-- An equation holds of fractions.
abbrev pub Holds : List ℤ → ℤ → Row → Type 0
Holds nums den row = total row.coefs nums ≡ row.sum *ℤ den

-- Fractions solve a group.
pub record Solves (group : Group) (nums : List ℤ) (den : ℤ) : Type 0 where
  pub count : length nums ≡ length group.unknowns
  pub above : pos 0 <ℤ den
  pub each : All (Holds nums den) group.rows

-- Two lists of fractions are the same, place by place.
abbrev pub AreSame : List ℤ → ℤ → List ℤ → ℤ → Type 0
AreSame nums den others over = map (λ num. num *ℤ over) nums ≡ map (λ other. other *ℤ den) others

-- No fractions solve a group.
abbrev pub HasNone : Group → Type 0
HasNone group = (nums : List ℤ) (den : ℤ) → Solves group nums den → ⊥

-- Fractions that differ solve a group.
pub record HasMany (group : Group) : Type 0 where
  pub nums : List ℤ
  pub den : ℤ
  pub others : List ℤ
  pub over : ℤ
  pub solves : Solves group nums den
  pub solve : Solves group others over
  pub differ : AreSame nums den others over → ⊥

-- Fractions are the only ones that solve a group.
pub record IsOnly (group : Group) (nums : List ℤ) (den : ℤ) : Type 0 where
  pub solves : Solves group nums den
  pub only : (others : List ℤ) (over : ℤ) → Solves group others over → AreSame nums den others over

-- The only fractions that solve a group have a negative one among them.
pub record HasNegative (group : Group) : Type 0 where
  pub nums : List ℤ
  pub den : ℤ
  pub only : IsOnly group nums den
  pub negative : Any (λ num. num <ℤ pos 0) nums

-- how many stretches a group has at most
abbrev pub most : ℕ
most = 4

-- A solution has the only fractions that solve a group, none of them negative, and 0 at the places that are left.
pub record IsSolution (group : Group) (solution : Solution) : Type 0 where
  pub count : solution.count ≡ length group.unknowns
  pub only : IsOnly group (take solution.count solution.nums) solution.den
  pub none_negative : All (λ num. pos 0 ≤ℤ num) solution.nums
  pub rest : All (λ num. num ≡ pos 0) (drop solution.count solution.nums)

-- What a group comes to: too many stretches, or else no solution, many, a negative one, or the only one.
abbrev pub AnswerIs : Group → Result Solution StretchRefusal → Type 0
AnswerIs group (Err GroupTooLarge) = most < length group.unknowns
AnswerIs group (Err StretchNone) = (length group.unknowns ≤ most) × HasNone group
AnswerIs group (Err StretchMany) = (length group.unknowns ≤ most) × HasMany group
AnswerIs group (Err StretchNegative) = (length group.unknowns ≤ most) × HasNegative group
AnswerIs group (Ok solution) = (length group.unknowns ≤ most) × IsSolution group solution

-- An equation has a coefficient for each stretch, each at most 8,190 in size, and a sum below 2^49 in size.
pub record IsEquation (group : Group) (row : Row) : Type 0 where
  pub count : length row.coefs ≡ length group.unknowns
  pub coefs : All (λ coef. unsigned_abs coef ≤ 8190) row.coefs
  pub sum : unsigned_abs row.sum < 2 ^ 49
