-- What a shelf means, and what one call of `take` answers; this project's own.
use Rattle.std.specs.Prelude.{◌≡◌, ℕ, ◌<◌, ◌≤◌, List, length, Result, Ok, Err, Option, Some, option_map}
use Rattle.std.specs.List.{find}
use Rattle.std.specs.Str.{bytes_eq}
use Rattle.outside.specs.declared.shelf.Taken.{Taken}
use Rattle.outside.specs.declared.shelf.Taken.TheVariants.{Whole, Longer}
use Rattle.outside.specs.declared.shelf.TakeFault.{TakeFault}
use Rattle.outside.specs.declared.shelf.TakeFault.TheVariants.{Failed, Memory}
use Rattle.outside.specs.Faults.{Rose}

-- a name with its bytes
pub record File : Type 0 where
  pub name : List ℕ
  pub bytes : List ℕ

-- the files, where the shelf tells them; the count of faults; the name whose `take` failed last, empty at first
pub record ShelfState : Type 0 where
  pub files : Option (List File)
  pub faults : ℕ
  pub failed : List ℕ

-- the bytes of the first file of this name
abbrev pub bytes_of : List File → List ℕ → Option (List ℕ)
bytes_of files name = option_map (λ f. f.bytes) (find (λ f. bytes_eq f.name name) files)

-- These bytes are all of the file, or it has more than the limit.
abbrev pub Reads : List ℕ → ℕ → Taken → Type 0
Reads bytes limit (Whole read) = (read ≡ bytes) × (length read ≤ limit)
Reads bytes limit Longer = limit < length bytes

-- What was taken is what some bytes give: those of the named file, where the files are told.
pub record Takes (files : Option (List File)) (name : List ℕ) (limit : ℕ) (taken : Taken) : Type 0 where
  pub bytes : List ℕ
  pub reads : Reads bytes limit taken
  pub told : (known : List File) → files ≡ Some known → bytes_of known name ≡ Some bytes

-- one call of `take`
abbrev pub AnswersTake : ShelfState → ShelfState → List ℕ → ℕ → Result Taken TakeFault → Type 0
AnswersTake old new name limit (Ok taken) = Takes old.files name limit taken × (new ≡ old)
AnswersTake old new name limit (Err Failed) = Rose old.faults new.faults × (new.failed ≡ name) × (new.files ≡ old.files)
AnswersTake old new name limit (Err Memory) = new ≡ old
