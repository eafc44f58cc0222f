-- Runs of ASCII with which the reader's state stays as it is, and a piece of ASCII alone. This project's own.
use Rattle.std.specs.Prelude.{◌≡◌, ◌≢◌, ◌⊎◌, ℕ, ◌-◌, ◌<◌, List, [], ◌∷◌, ◌++◌, Bool, true, ◌||◌, not, nat_eq, nat_lt, length, Some, IsTrue, slice_get}
use Rattle.std.specs.List.{list_all}
use Rattle.std.specs.Str.{IsAscii, chars}
use Rattle.qs_lexer.specs.declared.shape.Shape.{Shape}
use Rattle.qs_lexer.specs.declared.state.State.{State}
use Rattle.qs_lexer.specs.declared.state.State.TheVariants.{Nothing, Start, Word}
use Rattle.qs_lexer.specs.Forms.{is_in_line}
use Rattle.qs_lexer.specs.steps.Scan.{longest_from, run, shape_before, step}

-- `( ) [ ] { } : ; , ~`, the signs with which no longer sign begins
abbrev pub is_single_sign : ℕ → Bool
is_single_sign c =
    nat_eq c 40 || nat_eq c 41 || nat_eq c 91 || nat_eq c 93 || nat_eq c 123 || nat_eq c 125 || nat_eq c 58 || nat_eq c 59 || nat_eq c 44 || nat_eq c 126

-- With this byte, which is of ASCII and no line feed, a piece stays in a state.
pub record StaysWith (state : State) (byte : ℕ) : Type 0 where
  pub ascii : byte < 128
  pub in_line : byte ≢ 10
  pub stays : step state byte ≡ state

-- With this byte, which is of ASCII, a word begins that can't be a pragma.
pub record BeginsOnlyWord (first : Bool) (byte : ℕ) : Type 0 where
  pub ascii : byte < 128
  pub begins : step (Start first) byte ≡ Word

-- With each of these bytes a piece stays in a state.
abbrev pub AllStay : State → List ℕ → Type 0
AllStay state [] = Unit {0}
AllStay state (b ∷ bytes) = StaysWith state b × AllStay state bytes

-- `rest` stands after bytes with which a piece stays in a state.
pub record IsPast (state : State) (bytes rest : List ℕ) : Type 0 where
  pub front : List ℕ
  pub whole : bytes ≡ front ++ rest
  pub stay : AllStay state front

-- What ends a piece: the end of the text, or a byte of ASCII that doesn't go on with it.
abbrev pub Stops : State → List ℕ → Type 0
Stops state rest = (rest ≡ []) ⊎ ((b : ℕ) × (after : List ℕ) × (rest ≡ b ∷ after) × (b < 128) × (step state b ≡ Nothing))

-- One byte of ASCII goes on with a piece; `in_line` says whether it is no line feed.
abbrev pub GoesOn : State → List ℕ → State → List ℕ → Bool → Type 0
GoesOn state bytes next after in_line = (b : ℕ) × (bytes ≡ b ∷ after) × (b < 128) × (next ≡ step state b) × ¬ (next ≡ Nothing) × (in_line ≡ not (nat_eq b 10))

-- After a run one byte goes on with a piece, or it stops.
pub record ReadsOn (state : State) (bytes : List ℕ) (next : State) (rest : List ℕ) (in_line : Bool) : Type 0 where
  pub run_end : List ℕ
  pub past : IsPast state bytes run_end
  pub then : ((next ≡ Nothing) × (rest ≡ run_end) × Stops state run_end) ⊎ GoesOn state run_end next rest in_line

-- whether a byte is of ASCII
abbrev pub is_ascii_byte : ℕ → Bool
is_ascii_byte b = nat_lt b 128

-- So far these bytes are read, all of them of ASCII, and this is the state.
pub record IsRead (first : Bool) (bytes : List ℕ) (state : State) (in_line : Bool) (rest : List ℕ) : Type 0 where
  pub front : List ℕ
  pub whole : bytes ≡ front ++ rest
  pub ascii : list_all is_ascii_byte front ≡ true
  pub at : run (Start first) front ≡ state
  pub line : in_line ≡ true → list_all is_in_line front ≡ true

-- A piece that was read on from a state is in the next one; or nothing goes on with it, and this is where it stops.
abbrev pub ReadsTo : Bool → List ℕ → State → Bool → State → List ℕ → Bool → Type 0
ReadsTo first bytes state in_line next rest next_in_line =
    ((next ≡ Nothing) × IsRead first bytes state in_line rest × Stops state rest) ⊎ (¬ (next ≡ Nothing) × IsRead first bytes next next_in_line rest)

-- A piece in this state may end before `rest`, with this shape, after so many bytes.
abbrev pub MayEnd : State → List ℕ → List ℕ → Shape → ℕ → Type 0
MayEnd state bytes rest shape count = (shape_before state (slice_get rest 0) ≡ Some shape) × (count ≡ length bytes - length rest)

-- The longest piece that begins a text has this shape, is of ASCII alone and so many bytes long; `in_line` says that no line feed is in it.
pub record IsAsciiPiece (first : Bool) (bytes : List ℕ) (shape : Shape) (size : ℕ) (in_line : Bool) : Type 0 where
  pub piece : List ℕ
  pub after : List ℕ
  pub whole : bytes ≡ piece ++ after
  pub count : length piece ≡ size
  pub some : 0 < size
  pub ascii : IsAscii piece
  pub found : longest_from (Start first) (chars bytes) ≡ Some (shape, chars after)
  pub line : in_line ≡ true → IsTrue (list_all is_in_line piece)

-- A text that is said to be in its line is of ASCII alone and has no line feed.
abbrev pub IsInLine : Bool → List ℕ → Type 0
IsInLine in_line text = in_line ≡ true → IsAscii text × IsTrue (list_all is_in_line text)
