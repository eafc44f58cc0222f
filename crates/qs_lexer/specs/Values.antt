-- The values of numbers, and the limits that they keep (OpenQASM 3.0, literals; limits and cut are this project's own).
use Rattle.std.specs.Prelude.{◌≡◌, ℕ, pos, ◌+◌, ◌*◌, ◌<◌, ◌≤◌, ◌^◌, ◌/◌, List, [], ◌∷◌, Bool, ◌||◌, not, if◌then◌else◌, nat_eq, drop}
use Rattle.std.specs.Char.{digit_value, is_ascii_digit, is_digit}
use Rattle.std.specs.List.{prefix_len, take_while, fold, count_by}
use Rattle.qs_values.specs.Lowest.{IsWide}
use Rattle.qs_values.specs.Number.{IsFrac}
use Rattle.qs_values.specs.declared.number.Frac.{Frac}
use Rattle.qs_lexer.specs.declared.shape.Shape.{Shape}
use Rattle.qs_lexer.specs.declared.shape.Shape.TheVariants.{Gap, OpenComment, OpenText, Word, Physical, Whole, Decimal, Time, Text, Sign}
use Rattle.qs_lexer.specs.declared.token.TokenKind.{TokenKind}
use Rattle.qs_lexer.specs.declared.token.TokenKind.TheVariants as kind
use Rattle.qs_lexer.specs.Forms.{begins}

-- a number with one more digit; other characters add none
abbrev pub with_digit : ℕ → ℕ → ℕ → ℕ
with_digit base n c = if is_digit c base then n * base + digit_value c else n

-- the digits of a text as a number of a base
abbrev pub value_of : ℕ → List ℕ → ℕ
value_of base t = fold (with_digit base) 0 t

-- the value of a whole number whose second character is this and stands before the digits
abbrev pub based_value : List ℕ → ℕ → List ℕ → ℕ
based_value t letter ds =
    if nat_eq letter 120 || nat_eq letter 88 then value_of 16 ds
    else (if nat_eq letter 98 || nat_eq letter 66 then value_of 2 ds
    else (if nat_eq letter 111 then value_of 8 ds else value_of 10 t))

-- the value of a whole number: by the letter of its base, which stands second, or decimal
abbrev pub whole_value : List ℕ → ℕ
whole_value [] = 0
whole_value (head ∷ []) = value_of 10 (head ∷ [])
whole_value (head ∷ letter ∷ ds) = based_value (head ∷ letter ∷ ds) letter ds

-- ---- numbers with a point, an exponent or a unit

-- the characters before an exponent and a unit
abbrev pub is_mantissa : ℕ → Bool
is_mantissa c = is_ascii_digit c || nat_eq c 95 || nat_eq c 46

-- the front of a number, before its exponent and its unit
abbrev pub mantissa : List ℕ → List ℕ
mantissa t = take_while is_mantissa t

-- the exponent and the unit
abbrev pub behind_mantissa : List ℕ → List ℕ
behind_mantissa t = drop (prefix_len is_mantissa t) t

-- any character but the point
abbrev pub is_no_point : ℕ → Bool
is_no_point c = not (nat_eq c 46)

-- how many digits stand after the point
abbrev pub places : List ℕ → ℕ
places m = count_by is_ascii_digit (drop (prefix_len is_no_point m) m)

-- the size of the exponent, 0 where there is none; a unit has no digits
abbrev pub exponent : List ℕ → ℕ
exponent t = value_of 10 (behind_mantissa t)

-- whether a minus stands before the exponent
abbrev pub has_minus : List ℕ → Bool
has_minus t = begins (nat_eq 45) (drop 1 (behind_mantissa t))

-- the number without its unit times 10^17, cut to a whole number
abbrev pub scaled : List ℕ → ℕ
scaled t =
    let m = value_of 10 (mantissa t) in
    let p = places (mantissa t) in
    if has_minus t then (m * 10 ^ 17) / (10 ^ (p + exponent t)) else (m * 10 ^ (17 + exponent t)) / (10 ^ p)

-- a fraction is the number cut to 17 decimals
abbrev pub IsCutOf : List ℕ → Frac → Type 0
IsCutOf t f = IsFrac (pos (scaled t)) (pos (10 ^ 17)) f

-- ---- what a token holds, and when a number is past its limit

-- a text of this shape is a token of this kind
abbrev pub KindIs : Shape → List ℕ → TokenKind → Type 0
KindIs Gap t k = ⊥
KindIs OpenComment t k = ⊥
KindIs OpenText t k = ⊥
KindIs Word t k = k ≡ kind.Word
KindIs Physical t k = (value_of 10 t < 2 ^ 32) × (k ≡ kind.Physical (value_of 10 t))
KindIs Whole t k = (whole_value t < 2 ^ 64) × (k ≡ kind.Whole (whole_value t))
KindIs Decimal t k = (f : Frac) × IsCutOf t f × (k ≡ kind.Decimal f)
KindIs (Time u) t k = (f : Frac) × IsCutOf t f × (k ≡ kind.Time f u)
KindIs Text t k = k ≡ kind.Text
KindIs Sign t k = k ≡ kind.Sign

-- a text of this shape is a number past its limit
abbrev pub IsTooWide : Shape → List ℕ → Type 0
IsTooWide Gap t = ⊥
IsTooWide OpenComment t = ⊥
IsTooWide OpenText t = ⊥
IsTooWide Word t = ⊥
IsTooWide Physical t = 2 ^ 32 ≤ value_of 10 t
IsTooWide Whole t = 2 ^ 64 ≤ whole_value t
IsTooWide Decimal t = IsWide (pos (scaled t)) (pos (10 ^ 17))
IsTooWide (Time u) t = IsWide (pos (scaled t)) (pos (10 ^ 17))
IsTooWide Text t = ⊥
IsTooWide Sign t = ⊥

-- a shape of lexemes
abbrev pub IsLexeme : Shape → Type 0
IsLexeme Gap = ⊥
IsLexeme OpenComment = ⊥
IsLexeme OpenText = ⊥
IsLexeme _ = Unit {0}
