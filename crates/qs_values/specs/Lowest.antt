-- Lowest terms and the limit of their parts. This project's exact profile of constant expressions.
use Rattle.std.specs.Prelude.{◌≡◌, ◌⊎◌, ◌<◌, ◌≤◌, ◌^◌, ℤ, pos, ◌*ℤ◌, ◌<ℤ◌, unsigned_abs}
use Rattle.std.specs.Int.{IsGcd}

-- p over q is n over d in lowest terms, with q above 0
pub record IsLowest (n d p q : ℤ) : Type 0 where
  pub same : p *ℤ d ≡ n *ℤ q
  pub above : pos 0 <ℤ q
  pub coprime : IsGcd (unsigned_abs p) (unsigned_abs q) 1

-- Both parts are below 10^18 in size.
pub record IsNarrow (p q : ℤ) : Type 0 where
  pub num : unsigned_abs p < 10 ^ 18
  pub den : unsigned_abs q < 10 ^ 18

-- n over d in lowest terms has a part that reaches 10^18.
pub record IsWide (n d : ℤ) : Type 0 where
  pub num : ℤ
  pub den : ℤ
  pub lowest : IsLowest n d num den
  pub wide : (10 ^ 18 ≤ unsigned_abs num) ⊎ (10 ^ 18 ≤ unsigned_abs den)
