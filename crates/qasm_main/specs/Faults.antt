-- Which status tells of a fault of the shelf or the sink. This project's own.
use Rattle.std.specs.Prelude.{◌≡◌, ◌≢◌, ◌↔◌, ℕ, ◌<◌, List}
use Rattle.std.specs.List.{Contains}
use Rattle.outside.specs.Faults.{most_faults}
use Rattle.outside.specs.Shelf.{ShelfState}
use Rattle.outside.specs.Sink.{SinkState}

-- Below the greatest count, status 5 comes always and only where the sink's count rose.
abbrev pub IsWriteFault : SinkState → SinkState → ℕ → Type 0
IsWriteFault old new status = old.faults < most_faults → ((status ≡ 5) ↔ (old.faults < new.faults))

-- Below the greatest count, status 4 comes exactly where the shelf's count rose, unless the sink had a fault too; the name that the shelf keeps is then one of the command's files. Files are always as they were.
pub record IsReadFault (files : List (List ℕ)) (old new : ShelfState) (status : ℕ) : Type 0 where
  pub exact : old.faults < most_faults → status ≢ 5 → ((status ≡ 4) ↔ (old.faults < new.faults))
  pub named : old.faults < most_faults → old.faults < new.faults → Contains files new.failed
  pub same : new.files ≡ old.files
