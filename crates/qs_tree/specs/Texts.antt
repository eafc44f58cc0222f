-- The digits of a text (OpenQASM 3.0, bit string literals).
use Rattle.std.specs.Prelude.{ℕ, ◌-◌, List, Bool, false, ◌&&◌, if◌then◌else◌, nat_le, drop, take, length, Option, Some, None}
use Rattle.std.specs.List.{filter, list_all}
use Rattle.qs_lexer.specs.Forms.{goes_on, is_binary_digit}

-- whether a list is from 1 to 64 digits `0` and `1`
abbrev pub is_bits : List ℕ → Bool
is_bits digits = list_all is_binary_digit digits && (nat_le 1 (length digits) && nat_le (length digits) 64)

-- what stands between the quotes
abbrev pub inner_text : List ℕ → List ℕ
inner_text text = take (length text - 2) (drop 1 text)

-- the digits among other characters
abbrev pub digits_alone : List ℕ → List ℕ
digits_alone text = filter is_binary_digit text

-- the digits of a text without its quotes: `0` and `1`, with single `_` between, from 1 to 64
abbrev pub digits_of : List ℕ → Option (List ℕ)
digits_of text = if goes_on is_binary_digit false text && nat_le (length (digits_alone text)) 64 then Some (digits_alone text) else None

-- the digits of a text in quotes
abbrev pub bits_of : List ℕ → Option (List ℕ)
bits_of text = digits_of (inner_text text)
