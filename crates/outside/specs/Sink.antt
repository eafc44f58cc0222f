-- What a sink means, and what is put into it; this project's own.
use Rattle.std.specs.Prelude.{◌≡◌, ◌≢◌, ℕ, ◌<◌, ◌≤◌, List, [], ◌++◌, length, take, Result, Ok, Err, Option, Some, None}
use Rattle.outside.specs.declared.sink.PutFailed.{PutFailed}
use Rattle.outside.specs.Faults.{Rose}

-- the bytes so far, where the sink tells them, and the count of faults
pub record SinkState : Type 0 where
  pub bytes : Option (List ℕ)
  pub faults : ℕ

-- the bytes with more after them, where they are told
abbrev pub appended : Option (List ℕ) → List ℕ → Option (List ℕ)
appended None more = None
appended (Some bytes) more = Some (bytes ++ more)

-- the sink after a text was put whole
abbrev pub with_text : SinkState → List ℕ → SinkState
with_text old text = record { bytes = appended old.bytes text; faults = old.faults }

-- A front of the piece was taken, of at least one byte where there is one.
pub record PutsFront (old new : SinkState) (piece : List ℕ) (count : ℕ) : Type 0 where
  pub within : count ≤ length piece
  pub some : piece ≢ [] → 0 < count
  pub state : new ≡ with_text old (take count piece)

-- A fault came, and nothing was taken.
pub record PutsNothing (old new : SinkState) (piece : List ℕ) : Type 0 where
  pub some : piece ≢ []
  pub rose : Rose old.faults new.faults
  pub bytes : new.bytes ≡ old.bytes

-- one call of `put`
abbrev pub AnswersPut : SinkState → SinkState → List ℕ → Result ℕ PutFailed → Type 0
AnswersPut old new piece (Ok count) = PutsFront old new piece count
AnswersPut old new piece (Err failed) = PutsNothing old new piece

-- A fault came when a front of the text was put.
pub record StopsIn (old new : SinkState) (text : List ℕ) : Type 0 where
  pub rose : Rose old.faults new.faults
  pub count : ℕ
  pub within : count ≤ length text
  pub bytes : new.bytes ≡ appended old.bytes (take count text)

-- A text was put: whole, or up to a fault.
abbrev pub PutsText : SinkState → SinkState → List ℕ → Result (Unit {0}) PutFailed → Type 0
PutsText old new text (Ok done) = new ≡ with_text old text
PutsText old new text (Err failed) = StopsIn old new text
