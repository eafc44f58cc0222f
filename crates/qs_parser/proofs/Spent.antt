-- How many operators may still come, before a part of a source and after it.
use Rattle.std.proofs.Common.{◌≡◌, ℕ, ◌+◌, ◌≤◌, max, refl, arith, inl, inr}
use Rattle.std.specs.Prelude.{◌⊎◌}

-- Inside an expression (renew is 0) the operators of a part are taken off; outside of one each expression has as many as may come.
abbrev pub Spent : (renew left after operators most : ℕ) → Type 0
Spent renew left after operators most = ((renew ≡ 0) × (left ≡ after + operators)) ⊎ ((left ≡ renew) × (after ≡ renew) × (most ≤ renew))

-- two parts, and how many may come between them
pub record SpentBetween (renew left after o1 m1 o2 m2 : ℕ) : Type 0 where
  pub between : ℕ
  pub first : Spent renew left between o1 m1
  pub second : Spent renew between after o2 m2

pub spent_split : (renew left after o1 m1 o2 m2 : ℕ) → Spent renew left after (o1 + o2) (max m1 m2) → SpentBetween renew left after o1 m1 o2 m2
spent_split renew left after o1 m1 o2 m2 (inl h) = record { between = after + o2; first = inl (h.0, omega (arith, h.1)); second = inl (h.0, refl) }
spent_split renew left after o1 m1 o2 m2 (inr h) = record { between = renew; first = inr (h.0, refl, omega (arith, h.2)); second = inr (refl, h.1, omega (arith, h.2)) }
