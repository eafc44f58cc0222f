-- The forms in memory: what contracts see of them, and exactly what they answer; this project's own.
use Rattle.std.specs.Prelude.{◌≡◌, ◌≢◌, ℕ, ◌-◌, List, [], ◌++◌, length, take, min, Contains, Result, Ok, Err, Some, None, ◌⊎◌}
use Rattle.outside.specs.declared.shelf.Taken.{Taken}
use Rattle.outside.specs.declared.shelf.TakeFault.{TakeFault}
use Rattle.outside.specs.declared.shelf.TakeFault.TheVariants.{Failed, Memory}
use Rattle.outside.specs.declared.sink.PutFailed.{PutFailed}
use Rattle.outside.specs.Faults.{one_more}
use Rattle.outside.specs.Shelf.{File, ShelfState, bytes_of, Reads}
use Rattle.outside.specs.Sink.{SinkState}

-- a sink in memory: its bytes, the room that is left, and the most bytes of one put
pub record SinkInMemory : Type 0 where
  pub bytes : List ℕ
  pub room : ℕ
  pub piece : ℕ
  pub faults : ℕ

-- the bytes and the faults of a sink in memory
abbrev pub sink_state : SinkInMemory → SinkState
sink_state s = record { bytes = Some s.bytes; faults = s.faults }

-- one call of `put`: a fault comes exactly where there is something to put and no room
abbrev pub PutsInMemory : SinkInMemory → SinkInMemory → List ℕ → Result ℕ PutFailed → Type 0
PutsInMemory old new piece (Ok count) =
    (piece ≢ [] → old.room ≢ 0)
    × (count ≡ min (length piece) (min old.piece old.room))
    × (new ≡ record old { bytes = old.bytes ++ take count piece; room = old.room - count })
PutsInMemory old new piece (Err failed) = (piece ≢ []) × (old.room ≡ 0) × (new ≡ record old { faults = one_more old.faults })

-- a shelf in memory: its files, the numbers of the calls that fail, and the number of the next call
pub record ShelfInMemory : Type 0 where
  pub files : List File
  pub fails : List ℕ
  pub calls : ℕ
  pub faults : ℕ
  pub failed : List ℕ

-- the files, the faults and the failed name of a shelf in memory
abbrev pub shelf_state : ShelfInMemory → ShelfState
shelf_state s = record { files = Some s.files; faults = s.faults; failed = s.failed }

-- one call of `take`: it fails exactly where it is listed or the name is absent
abbrev pub TakesInMemory : ShelfInMemory → ShelfInMemory → List ℕ → ℕ → Result Taken TakeFault → Type 0
TakesInMemory old new name limit (Ok taken) =
    ¬ Contains old.fails old.calls
    × ((bytes : List ℕ) × (bytes_of old.files name ≡ Some bytes) × Reads bytes limit taken)
    × (new ≡ record old { calls = one_more old.calls })
TakesInMemory old new name limit (Err Failed) =
    (Contains old.fails old.calls ⊎ (bytes_of old.files name ≡ None))
    × (new ≡ record old { calls = one_more old.calls; faults = one_more old.faults; failed = name })
TakesInMemory old new name limit (Err Memory) = new ≡ old
