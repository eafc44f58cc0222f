-- The gaps and lexemes of a source, and what is left open in one (OpenQASM 3.0, lexical structure, in this project's profile).
use Rattle.std.specs.Prelude.{◌≡◌, ◌⊎◌, ℕ, List, [], ◌∷◌, ◌++◌, Bool, true, false, ◌&&◌, ◌||◌, not, if◌then◌else◌, codes, nat_eq, IsTrue}
use Rattle.std.specs.Char.{is_ascii_digit, is_ascii_hexdigit}
use Rattle.std.specs.Int.{is_in_range}
use Rattle.std.specs.List.{list_all, list_any}
use Rattle.std.specs.Str.{bytes_eq}
use Rattle.qs_values.specs.Names.{is_word, continues_word}
use Rattle.qs_lexer.specs.declared.shape.Shape.{Shape}
use Rattle.qs_lexer.specs.declared.shape.Shape.TheVariants.{Gap, OpenComment, OpenText, Word, Physical, Whole, Decimal, Time, Text, Sign}
use Rattle.qs_lexer.specs.declared.token.Unit.{Unit as TimeUnit}
use Rattle.qs_lexer.specs.declared.token.Unit.TheVariants.{Dt, Ns, Us, Ms, S}

-- ---- gaps

-- a blank, a tab, a line feed or a carriage return
abbrev pub is_blank : ℕ → Bool
is_blank c = nat_eq c 32 || nat_eq c 9 || nat_eq c 10 || nat_eq c 13

-- any character but the line feed, which alone ends a line
abbrev pub is_in_line : ℕ → Bool
is_in_line c = not (nat_eq c 10)

-- whether the first character of a text passes a test
abbrev pub begins : (ℕ → Bool) → List ℕ → Bool
begins test [] = false
begins test (c ∷ cs) = test c

-- whether `*/` stands in a text
abbrev pub has_end : List ℕ → Bool
has_end [] = false
has_end (c ∷ cs) = (nat_eq c 42 && begins (nat_eq 47) cs) || has_end cs

-- a gap of one character: a blank, a tab, a line feed or a carriage return
abbrev pub IsBlank : List ℕ → Type 0
IsBlank t = (c : ℕ) × (t ≡ c ∷ []) × IsTrue (is_blank c)

-- What follows is the end of the line, or of the text.
abbrev pub EndsLine : List ℕ → Type 0
EndsLine after = begins is_in_line after ≡ false

-- `//` to the end of the line
abbrev pub IsLineComment : List ℕ → List ℕ → Type 0
IsLineComment t after = (line : List ℕ) × (t ≡ codes "//" ++ line) × IsTrue (list_all is_in_line line) × EndsLine after

-- `/*` to the first `*/` after it
abbrev pub IsComment : List ℕ → Type 0
IsComment t = (inner : List ℕ) × (t ≡ codes "/*" ++ inner ++ codes "*/") × (has_end inner ≡ false)

-- an annotation: `@`, as the first lexeme of its line, to the end of the line
abbrev pub IsAnnotation : Bool → List ℕ → List ℕ → Type 0
IsAnnotation first t after = IsTrue first × (line : List ℕ) × (t ≡ codes "@" ++ line) × IsTrue (list_all is_in_line line) × EndsLine after

-- a pragma: `pragma` or `#pragma`, as the first lexeme of its line and not as a part of a longer word, to the end of the line
abbrev pub IsPragma : Bool → List ℕ → List ℕ → Type 0
IsPragma first t after =
    IsTrue first × (word : List ℕ) × (line : List ℕ) × (t ≡ word ++ line) × ((word ≡ codes "pragma") ⊎ (word ≡ codes "#pragma"))
    × IsTrue (list_all is_in_line line) × (begins continues_word line ≡ false) × EndsLine after

-- a gap, after which `after` stands: a blank, a comment, an annotation or a pragma
abbrev pub IsGap : Bool → List ℕ → List ℕ → Type 0
IsGap first t after = IsBlank t ⊎ (IsLineComment t after ⊎ (IsComment t ⊎ (IsAnnotation first t after ⊎ IsPragma first t after)))

-- ---- words, texts and signs

-- a word, but for `pragma` where it begins a pragma
abbrev pub IsWord : Bool → List ℕ → Type 0
IsWord first t = IsTrue (is_word t) × ¬ (IsTrue first × (t ≡ codes "pragma"))

-- a character that may stand between the quotes of a text: none of `"` and the line feed
abbrev pub is_in_text : ℕ → Bool
is_in_text c = not (nat_eq c 34) && is_in_line c

-- a text ends on its line
abbrev pub IsText : List ℕ → Type 0
IsText t = (inner : List ℕ) × (t ≡ codes "\"" ++ inner ++ codes "\"") × IsTrue (list_all is_in_text inner)

-- the brackets, operators and marks
unfoldable pub signs : List (List ℕ)
signs =
    codes "[" ∷ codes "]" ∷ codes "{" ∷ codes "}" ∷ codes "(" ∷ codes ")" ∷ codes ":" ∷ codes ";" ∷ codes "," ∷ codes "@" ∷ codes "->"
    ∷ codes "=" ∷ codes "+=" ∷ codes "-=" ∷ codes "*=" ∷ codes "/=" ∷ codes "%=" ∷ codes "&=" ∷ codes "|=" ∷ codes "^=" ∷ codes "<<=" ∷ codes ">>="
    ∷ codes "==" ∷ codes "!=" ∷ codes "<" ∷ codes "<=" ∷ codes ">" ∷ codes ">="
    ∷ codes "+" ∷ codes "-" ∷ codes "*" ∷ codes "**" ∷ codes "/" ∷ codes "%" ∷ codes "<<" ∷ codes ">>"
    ∷ codes "!" ∷ codes "~" ∷ codes "&" ∷ codes "&&" ∷ codes "|" ∷ codes "||" ∷ codes "^" ∷ []

-- a sign, but for `@` where it begins an annotation
abbrev pub IsSign : Bool → List ℕ → Type 0
IsSign first t = IsTrue (list_any (bytes_eq t) signs) × ¬ (IsTrue first × (t ≡ codes "@"))

-- ---- numbers

-- whether a character is `0` or `1`
abbrev pub is_binary_digit : ℕ → Bool
is_binary_digit c = is_in_range 48 49 c

-- whether a character is one of `0` to `7`
abbrev pub is_octal_digit : ℕ → Bool
is_octal_digit c = is_in_range 48 55 c

-- whether a text goes on with digits and single `_` between them, and whether its last character is a digit; `behind` says whether a digit stands before it
abbrev pub goes_on : (ℕ → Bool) → Bool → List ℕ → Bool
goes_on digit behind [] = behind
goes_on digit behind (c ∷ cs) = if digit c then goes_on digit true cs else (nat_eq c 95 && behind && goes_on digit false cs)

-- digits, with single `_` between digits
abbrev pub AreDigits : (ℕ → Bool) → List ℕ → Type 0
AreDigits digit t = IsTrue (goes_on digit false t)

-- `0`, the letter of a base in either of these forms, and digits
abbrev pub IsBased : ℕ → ℕ → (ℕ → Bool) → List ℕ → Type 0
IsBased small large digit t = (letter : ℕ) × (ds : List ℕ) × (t ≡ 48 ∷ letter ∷ ds) × ((letter ≡ small) ⊎ (letter ≡ large)) × AreDigits digit ds

-- a whole number: decimal, hexadecimal by `x`, binary by `b` or octal by `o`
abbrev pub IsWhole : List ℕ → Type 0
IsWhole t =
    AreDigits is_ascii_digit t
    ⊎ (IsBased 120 88 is_ascii_hexdigit t ⊎ (IsBased 98 66 is_binary_digit t ⊎ IsBased 111 111 is_octal_digit t))

-- digits, or nothing
abbrev pub MayBeDigits : List ℕ → Type 0
MayBeDigits t = (t ≡ []) ⊎ AreDigits is_ascii_digit t

-- digits with a point before, in or after them
abbrev pub IsPointed : List ℕ → Type 0
IsPointed t =
    (whole : List ℕ) × (part : List ℕ) × (t ≡ whole ++ codes "." ++ part)
    × ((AreDigits is_ascii_digit whole × MayBeDigits part) ⊎ ((whole ≡ []) × AreDigits is_ascii_digit part))

-- `e` or `E`, a sign or none, and digits
abbrev pub IsExponent : List ℕ → Type 0
IsExponent t =
    (letter : ℕ) × (sign : List ℕ) × (ds : List ℕ) × (t ≡ letter ∷ sign ++ ds) × ((letter ≡ 101) ⊎ (letter ≡ 69))
    × ((sign ≡ []) ⊎ ((sign ≡ codes "+") ⊎ (sign ≡ codes "-"))) × AreDigits is_ascii_digit ds

-- a number with a point, or an exponent, or both
abbrev pub IsDecimal : List ℕ → Type 0
IsDecimal t =
    IsPointed t
    ⊎ ((number : List ℕ) × (exponent : List ℕ) × (t ≡ number ++ exponent) × (AreDigits is_ascii_digit number ⊎ IsPointed number) × IsExponent exponent)

-- a unit of time, of which `us` may have either micro sign
abbrev pub IsUnit : TimeUnit → List ℕ → Type 0
IsUnit Dt t = t ≡ codes "dt"
IsUnit Ns t = t ≡ codes "ns"
IsUnit Us t = (t ≡ codes "us") ⊎ ((t ≡ 181 ∷ codes "s") ⊎ (t ≡ 956 ∷ codes "s"))
IsUnit Ms t = t ≡ codes "ms"
IsUnit S t = t ≡ codes "s"

-- a number, and at once a unit
abbrev pub IsTime : TimeUnit → List ℕ → Type 0
IsTime u t = (number : List ℕ) × (unit : List ℕ) × (t ≡ number ++ unit) × (AreDigits is_ascii_digit number ⊎ IsDecimal number) × IsUnit u unit

-- ---- all of them

-- A text, after which `after` stands, is a gap, a lexeme, or a comment or text that is left open. `first` says whether the first lexeme of its line would begin there.
abbrev pub Form : Bool → Shape → List ℕ → List ℕ → Type 0
Form first Gap t after = IsGap first t after
Form first OpenComment t after = (inner : List ℕ) × (t ≡ codes "/*" ++ inner) × (has_end inner ≡ false) × (after ≡ [])
Form first OpenText t after = (inner : List ℕ) × (t ≡ codes "\"" ++ inner) × IsTrue (list_all is_in_text inner) × EndsLine after
Form first Word t after = IsWord first t
Form first Physical t after = (ds : List ℕ) × (t ≡ codes "$" ++ ds) × IsTrue (list_all is_ascii_digit ds) × ¬ (ds ≡ [])
Form first Whole t after = IsWhole t
Form first Decimal t after = IsDecimal t
Form first (Time u) t after = IsTime u t
Form first Text t after = IsText t
Form first Sign t after = IsSign first t
