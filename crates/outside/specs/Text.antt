-- A text on its way to a sink, of which the last bytes wait to be put together; this project's own.
use Rattle.std.specs.Prelude.{◌≡◌, ℕ, List, ◌++◌, Bool, true, false}
use Rattle.outside.specs.Sink.{SinkState, StopsIn, with_text}

-- how many bytes wait at most
abbrev pub room_bytes : ℕ
room_bytes = 65536

-- the bytes that wait, and whether a fault came
pub record Waiting : Type 0 where
  pub bytes : List ℕ
  pub failed : Bool

-- All of a text but what waits was put since the start.
pub record HasPut (start now : SinkState) (waiting text : List ℕ) : Type 0 where
  pub front : List ℕ
  pub cut : text ≡ front ++ waiting
  pub state : now ≡ with_text start front

-- the same by whether a fault came
abbrev pub IsAtBy : SinkState → SinkState → List ℕ → List ℕ → Bool → Type 0
IsAtBy start now waiting text false = HasPut start now waiting text
IsAtBy start now waiting text true = StopsIn start now text

-- So far the text was written, or a fault came in it.
abbrev pub IsAt : SinkState → SinkState → Waiting → List ℕ → Type 0
IsAt start now w text = IsAtBy start now w.bytes text w.failed

-- A text was put, and whether a fault came.
abbrev pub PutsBy : SinkState → SinkState → List ℕ → Bool → Type 0
PutsBy old new text false = new ≡ with_text old text
PutsBy old new text true = StopsIn old new text

-- A text was put where no fault came before.
abbrev pub PutsUnless : Bool → SinkState → SinkState → List ℕ → Bool → Type 0
PutsUnless true old new text after = (new ≡ old) × (after ≡ true)
PutsUnless false old new text after = PutsBy old new text after

-- The text goes on with more: whatever was written before, this is written after it.
pub record GoesOn (old : SinkState) (w : Waiting) (new : SinkState) (w' : Waiting) (more : List ℕ) : Type 0 where
  pub on : (start : SinkState) (before : List ℕ) → IsAt start old w before → IsAt start new w' (before ++ more)
