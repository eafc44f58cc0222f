-- What the names of an expression mean to whoever has it judged. This project's own.
use Rattle.std.specs.Prelude.{ℕ, List, Bool}
use Rattle.qs_const.specs.declared.meaning.Meaning.{Meaning}

-- the meaning of each name, and whether the expression stands in a duration
pub record Scope : Type 0 where
  pub means : List ℕ → Meaning
  pub in_duration : Bool
