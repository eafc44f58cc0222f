-- How a shelf in memory is kept, as contracts see it; this project's own.
use Rattle.std.specs.Prelude.{◌≡◌, ℕ, List, [], map, Result, Ok, Err, Option, Some, None}
use Rattle.outside.specs.declared.memory_shelf.Kept.{Kept}
use Rattle.outside.specs.declared.shelf.Taken.{Taken}
use Rattle.outside.specs.declared.shelf.TakeFault.{TakeFault}
use Rattle.outside.specs.declared.shelf.TakeFault.TheVariants.{Failed, Memory}
use Rattle.outside.specs.Shelf.{File, Reads}

-- the files by their names and bytes
abbrev pub files_of : List Kept → List File
files_of kept = map (λ k. record { name = k.name; bytes = k.bytes }) kept

-- the name, or the empty one before there is any
abbrev pub name_or_empty : Option (List ℕ) → List ℕ
name_or_empty None = []
name_or_empty (Some name) = name

-- A file that is there is read, and one that isn't fails.
abbrev pub ReadsOf : Option (List ℕ) → ℕ → Result Taken TakeFault → Type 0
ReadsOf found limit (Ok taken) = (bytes : List ℕ) × (found ≡ Some bytes) × Reads bytes limit taken
ReadsOf found limit (Err Failed) = found ≡ None
ReadsOf found limit (Err Memory) = Unit {0}
