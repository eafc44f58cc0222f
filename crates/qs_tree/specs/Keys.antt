-- What a map from names to values elsewhere has. This project's own.
use Rattle.std.specs.Prelude.{ℕ, List, Option}
use Rattle.std.specs.Borrow.{Bor}
use Rattle.std.specs.HashMap.{HashMap, get_by}
use Rattle.std.specs.Option.{option_copied}
use Rattle.std.specs.Str.{bytes_eq}

-- the value of a name
abbrev pub value_at : {X S : Type 0} → HashMap (Bor (List ℕ)) (Bor X) S → List ℕ → Option X
value_at map name = option_copied (get_by (λ known. bytes_eq name known.now) map)
