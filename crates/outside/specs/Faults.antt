-- Counts of faults; this project's own.
use Rattle.std.specs.Prelude.{ℕ, ◌+◌, ◌-◌, ◌≤◌, ◌^◌, min}

-- the greatest count, at which it stays
abbrev pub most_faults : ℕ
most_faults = 2 ^ 64 - 1

-- the count after one more fault
abbrev pub one_more : ℕ → ℕ
one_more faults = min (faults + 1) most_faults

-- The count rose, or had nowhere to rise to; it never falls.
pub record Rose (before now : ℕ) : Type 0 where
  pub kept : before ≤ now
  pub more : one_more before ≤ now
