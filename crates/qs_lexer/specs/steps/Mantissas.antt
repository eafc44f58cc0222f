-- How a mantissa is read, character by character or byte by byte. This project's own.
use Rattle.std.specs.Prelude.{◌≡◌, ◌⊎◌, ℕ, ◌+◌, ◌-◌, ◌<◌, ◌≤◌, ◌^◌, List, [], Bool, true, false, ◌&&◌, ◌||◌, if◌then◌else◌, nat_eq, length, min, drop}
use Rattle.std.specs.Char.{is_ascii_digit}
use Rattle.std.specs.List.{count_by, fold}
use Rattle.std.specs.Str.{chars}
use Rattle.qs_lexer.specs.Forms.{begins}
use Rattle.qs_lexer.specs.Values.{behind_mantissa, is_mantissa, mantissa, places, value_of, with_digit}
use Rattle.qs_lexer.specs.steps.Scan.{IsBehind}

-- how many digits stand after the point, with one more character
abbrev pub places_with : Bool → ℕ → ℕ → ℕ
places_with pointed n c = if pointed && is_ascii_digit c then n + 1 else n

-- how many digits are still to come that stand after the point, which was read or not
abbrev pub places_ahead : Bool → List ℕ → ℕ
places_ahead true t = count_by is_ascii_digit t
places_ahead false t = places t

-- a number with one more digit, cut to 10^36
abbrev pub cut_digit_of : ℕ → ℕ → ℕ
cut_digit_of n d = min (with_digit 10 n d) (10 ^ 36)

-- So much is read of a mantissa, where `text` is left of `all`.
pub record IsReadTo (all text : List ℕ) (value places_read : ℕ) (pointed : Bool) : Type 0 where
  pub same : fold cut_digit_of value (mantissa text) ≡ fold cut_digit_of 0 (mantissa all)
  pub places : places_read + places_ahead pointed (mantissa text) ≡ places (mantissa all)
  pub behind : behind_mantissa text ≡ behind_mantissa all

-- This is the mantissa of a text: its digits as a number, cut to 10^36, how many of them stand after the point, and what follows it.
pub record IsMantissa (text : List ℕ) (number count : ℕ) (rest : List ℕ) : Type 0 where
  pub value : number ≡ min (value_of 10 (mantissa (chars text))) (10 ^ 36)
  pub places : count ≡ places (mantissa (chars text))
  pub behind : chars rest ≡ behind_mantissa (chars text)

-- With this byte, which is of ASCII, a mantissa goes on, on the same side of its point.
pub record GoesOn (pointed : Bool) (byte : ℕ) : Type 0 where
  pub ascii : byte < 128
  pub inside : is_mantissa byte ≡ true
  pub same : (pointed || nat_eq byte 46) ≡ pointed

-- Bytes of ASCII are read on in a mantissa of at most 18 bytes, up to `rest`.
pub record ReadsUpTo (onto : Bool) (pointed : Bool) (bytes : List ℕ) (before count value places_read : ℕ) (rest : List ℕ) : Type 0 where
  pub few : places_read + length rest ≤ 18
  pub small : value < 10 ^ (18 - length rest)
  pub behind : (all : List ℕ) → IsBehind all bytes → IsBehind all rest
  pub read : (all : List ℕ) → IsReadTo all (chars bytes) before count pointed → IsReadTo all (chars rest) value places_read onto

-- They are read on one side of the point.
abbrev pub ReadsSide : Bool → List ℕ → ℕ → ℕ → ℕ → ℕ → List ℕ → Type 0
ReadsSide pointed bytes before count value places_read rest = ReadsUpTo pointed pointed bytes before count value places_read rest

-- They are read from the point on, or from where none stands.
abbrev pub ReadsPart : List ℕ → ℕ → ℕ → ℕ → ℕ → List ℕ → Type 0
ReadsPart bytes before count value places_read rest = (onto : Bool) × ReadsUpTo onto false bytes before count value places_read rest

-- A mantissa doesn't go on with this text.
pub record EndsMantissa (rest : List ℕ) : Type 0 where
  pub none : mantissa (chars rest) ≡ []
  pub behind : behind_mantissa (chars rest) ≡ chars rest

-- A number has so many decimals, by its mantissa's places and what follows the mantissa: no exponent, or one that isn't above 0.
pub record HasDecimals (places_read : ℕ) (rest : List ℕ) (count : ℕ) : Type 0 where
  pub few : count ≤ 17
  pub sum : count ≡ places_read + value_of 10 rest
  pub below : (value_of 10 rest ≡ 0) ⊎ (begins (nat_eq 45) (drop 1 rest) ≡ true)
