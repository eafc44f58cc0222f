-- The form of an angle value: k steps of 2^-width of a full turn. This project's own limits (OpenQASM 3.0, angle types).
use Rattle.std.specs.Prelude.{ℕ, ◌≤◌, ◌<◌, ◌^◌}

-- The width is from 1 to 32 bits, and the steps are fewer than a full turn has.
pub record IsAngleVal (width k : ℕ) : Type 0 where
  pub low : 1 ≤ width
  pub high : width ≤ 32
  pub below : k < 2 ^ width
