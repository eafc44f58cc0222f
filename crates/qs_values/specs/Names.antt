-- Names: words that aren't reserved (OpenQASM 3.0, identifiers, in this project's profile; categories of Unicode).
use Rattle.std.specs.Prelude.{ℕ, List, [], ◌∷◌, Bool, true, false, ◌&&◌, ◌||◌, not, codes, nat_eq, nat_le}
use Rattle.std.specs.List.{list_any, list_all}
use Rattle.std.specs.Char.{is_ascii_alphabetic}
use Rattle.std.specs.Str.{bytes_eq, chars}
use Rattle.unicode.specs.declared.properties.GeneralCategory.{GeneralCategory}
use Rattle.unicode.specs.declared.properties.GeneralCategory.TheVariants.{UppercaseLetter, LowercaseLetter, TitlecaseLetter, ModifierLetter, OtherLetter, LetterNumber}
use Rattle.unicode.specs.GeneralCategory.{general_category}

-- the categories whose characters begin a word
abbrev pub is_letter : GeneralCategory → Bool
is_letter UppercaseLetter = true
is_letter LowercaseLetter = true
is_letter TitlecaseLetter = true
is_letter ModifierLetter = true
is_letter OtherLetter = true
is_letter LetterNumber = true
is_letter _ = false

-- whether a character begins a word: `_`, an ASCII letter, or a letter by its category
abbrev pub begins_word : ℕ → Bool
begins_word c = nat_eq c 95 || is_ascii_alphabetic c || is_letter (general_category c)

-- whether a character goes on with a word
abbrev pub continues_word : ℕ → Bool
continues_word c = begins_word c || (nat_le 48 c && nat_le c 57)

-- whether characters are a word
abbrev pub is_word : List ℕ → Bool
is_word [] = false
is_word (c ∷ cs) = begins_word c && list_all continues_word cs

-- the reserved words, those that this project leaves out among them
abbrev pub reserved : List (List ℕ)
reserved =
    codes "OPENQASM" ∷ codes "include" ∷ codes "defcalgrammar" ∷ codes "qubit" ∷ codes "bit" ∷ codes "bool" ∷ codes "int" ∷ codes "uint" ∷ codes "angle" ∷ codes "duration"
    ∷ codes "stretch" ∷ codes "const" ∷ codes "input" ∷ codes "output" ∷ codes "gate" ∷ codes "measure" ∷ codes "reset" ∷ codes "barrier" ∷ codes "delay" ∷ codes "box"
    ∷ codes "if" ∷ codes "else" ∷ codes "while" ∷ codes "for" ∷ codes "in" ∷ codes "break" ∷ codes "continue" ∷ codes "end" ∷ codes "cal" ∷ codes "defcal"
    ∷ codes "inv" ∷ codes "pow" ∷ codes "ctrl" ∷ codes "negctrl" ∷ codes "true" ∷ codes "false" ∷ codes "durationof" ∷ codes "port" ∷ codes "frame" ∷ codes "waveform"
    ∷ codes "extern" ∷ codes "return"
    ∷ codes "array" ∷ codes "let" ∷ codes "complex" ∷ codes "float" ∷ codes "qreg" ∷ codes "creg" ∷ codes "switch" ∷ codes "case" ∷ codes "default" ∷ codes "def"
    ∷ codes "sizeof" ∷ codes "void" ∷ codes "readonly" ∷ codes "mutable" ∷ []

-- whether these bytes are a reserved word
abbrev pub is_reserved : List ℕ → Bool
is_reserved bytes = list_any (bytes_eq bytes) reserved

-- whether a text, which is its bytes, is a name
abbrev pub is_name : List ℕ → Bool
is_name text = is_word (chars text) && not (is_reserved text)
