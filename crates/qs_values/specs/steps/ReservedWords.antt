-- How `is_reserved` looks a word up: among the reserved words with its first byte alone.
use Rattle.std.specs.Prelude.{ℕ, List, [], ◌∷◌, Bool, false, nat_eq}
use Rattle.std.specs.List.{filter}
use Rattle.qs_values.specs.Names.{reserved}

-- whether a word begins with a byte
abbrev pub begins_with : ℕ → List ℕ → Bool
begins_with first [] = false
begins_with first (b ∷ bytes) = nat_eq first b

-- the reserved words that begin with a byte
abbrev pub reserved_with : ℕ → List (List ℕ)
reserved_with first = filter (begins_with first) reserved
