-- A sink over a writer and a shelf over readers: what their writers hold and their readers have; this project's own.
use Rattle.std.specs.Prelude.{◌≡◌, ℕ, ◌<◌, ◌≤◌, List, length, take, Option, Some, None}
use Rattle.std.specs.Io.KnownBytes.{Appends, Keeps}
use Rattle.outside.specs.declared.shelf.Taken.{Taken}
use Rattle.outside.specs.Shelf.{Reads}
use Rattle.outside.specs.Sink.{SinkState}

-- a sink over a writer: the bytes that the writer holds, where they are known, and the count of faults
pub record StreamState : Type 0 where
  pub held : Option (List ℕ)
  pub faults : ℕ

-- what a sink over a writer tells: its faults alone
abbrev pub stream_state : StreamState → SinkState
stream_state s = record { bytes = None; faults = s.faults }

-- A front of a piece is written, of at least one byte, or nothing.
abbrev pub WritesFront : Option (List ℕ) → Option (List ℕ) → List ℕ → Option ℕ → Type 0
WritesFront old new piece (Some count) = (0 < count) × (count ≤ length piece) × Appends old new (take count piece)
WritesFront old new piece None = Keeps old new

-- What was taken is what some bytes give: those that the reader had, where they are known.
pub record ReadsAll (had : Option (List ℕ)) (limit : ℕ) (taken : Taken) : Type 0 where
  pub bytes : List ℕ
  pub reads : Reads bytes limit taken
  pub known : (all : List ℕ) → had ≡ Some all → bytes ≡ all
