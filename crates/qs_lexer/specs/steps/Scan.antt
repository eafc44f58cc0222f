-- What a piece is after some of its characters, and the longest piece that begins here: the reader's own account of its state, of which the definitions know nothing. This project's own.
use Rattle.std.specs.Prelude.{◌≡◌, ◌⊎◌, ℕ, ◌+◌, ◌<◌, ◌≤◌, List, [], ◌∷◌, ◌++◌, length, Bool, true, false, ◌&&◌, ◌||◌, not, if◌then◌else◌, nat_eq, nat_lt, Option, Some, None, is_some, codes, get_or, slice_get}
use Rattle.std.specs.Char.{is_ascii_digit, is_ascii_hexdigit}
use Rattle.std.specs.List.{fold}
use Rattle.std.specs.Str.{IsUtf8, chars}
use Rattle.qs_values.specs.Names.{begins_word, continues_word}
use Rattle.qs_values.specs.declared.span.Span.{Span}
use Rattle.qs_lexer.specs.declared.shape.Shape.{Shape}
use Rattle.qs_lexer.specs.declared.shape.Shape.TheVariants as shape
use Rattle.qs_lexer.specs.declared.state.Base.{Base}
use Rattle.qs_lexer.specs.declared.state.Base.TheVariants.{Hexadecimal, Binary, Octal}
use Rattle.qs_lexer.specs.declared.state.State.{State}
use Rattle.qs_lexer.specs.declared.state.State.TheVariants.{Start, Nothing, Blank, Line, Slash, Comment, Pragma, Word, Dollar, Physical, Quote, Text, One, Two, Three, Zero, Digits, Based, Point, Pointed, Part, Letter, Signed, Exponent, Half, Ended}
use Rattle.qs_lexer.specs.declared.token.Token.{Token}
use Rattle.qs_lexer.specs.declared.token.TokenKind.{TokenKind}
use Rattle.qs_lexer.specs.declared.token.Unit.{Unit as TimeUnit}
use Rattle.qs_lexer.specs.declared.token.Unit.TheVariants.{Dt, Ns, Us, Ms, S}
use Rattle.qs_lexer.specs.Forms.{is_blank, is_binary_digit, is_octal_digit}
use Rattle.qs_lexer.specs.Values.{IsLexeme, KindIs}
use Rattle.qs_lexer.specs.declared.refusal.LexRefusal.{LexRefusal}
use Rattle.qs_lexer.specs.declared.refusal.LexRefusal.TheVariants.{Memory}
use Rattle.qs_lexer.specs.Cut.{AreTokens, IsLongest, place_behind_all}
use Rattle.qs_lexer.specs.Lexed.{IsFaultAt, most_tokens}

-- a letter of `pragma` by its place
abbrev pub letter_of_pragma : ℕ → ℕ
letter_of_pragma n = get_or (codes "pragma") n 0

-- whether a character is a digit of a base
abbrev pub is_digit_of : Base → ℕ → Bool
is_digit_of Hexadecimal c = is_ascii_hexdigit c
is_digit_of Binary c = is_binary_digit c
is_digit_of Octal c = is_octal_digit c

-- `[ ] { } ( ) : ; , @ = < > + - * / % ! ~ & | ^`
abbrev pub is_one_sign : ℕ → Bool
is_one_sign a =
    nat_eq a 91 || nat_eq a 93 || nat_eq a 123 || nat_eq a 125 || nat_eq a 40 || nat_eq a 41 || nat_eq a 58 || nat_eq a 59 || nat_eq a 44 || nat_eq a 64
    || nat_eq a 61 || nat_eq a 60 || nat_eq a 62 || nat_eq a 43 || nat_eq a 45 || nat_eq a 42 || nat_eq a 47 || nat_eq a 37 || nat_eq a 33 || nat_eq a 126
    || nat_eq a 38 || nat_eq a 124 || nat_eq a 94

-- `= < > + - * / % ! & | ^`, which may stand before `=`
abbrev pub takes_equals : ℕ → Bool
takes_equals a =
    nat_eq a 61 || nat_eq a 60 || nat_eq a 62 || nat_eq a 43 || nat_eq a 45 || nat_eq a 42 || nat_eq a 47 || nat_eq a 37 || nat_eq a 33 || nat_eq a 38 || nat_eq a 124 || nat_eq a 94

-- the signs of two characters: those that end in `=`, and `->`, `>>`, `<<`, `**`, `&&` and `||`
abbrev pub is_two_signs : ℕ → ℕ → Bool
is_two_signs a b =
    if nat_eq b 61 then takes_equals a
    else (if nat_eq b 62 then nat_eq a 45 || nat_eq a 62
    else (if nat_eq b 60 || nat_eq b 42 || nat_eq b 38 || nat_eq b 124 then nat_eq a b else false))

-- `<<=` and `>>=`, the signs of three characters
abbrev pub is_three_signs : ℕ → ℕ → ℕ → Bool
is_three_signs a b c = nat_eq c 61 && nat_eq a b && (nat_eq a 60 || nat_eq a 62)

-- whether a line or the text ends before the character that comes next
abbrev pub ends_line : Option ℕ → Bool
ends_line None = true
ends_line (Some c) = nat_eq c 10

-- the shape, where a piece may have it
abbrev pub where_so : Bool → Shape → Option Shape
where_so true shape = Some shape
where_so false shape = None

-- what a piece is that ends in a state, before this character or the end of the text, where one may end there
abbrev pub shape_before : State → Option ℕ → Option Shape
shape_before Blank next = Some shape.Gap
shape_before Line next = where_so (ends_line next) shape.Gap
shape_before (Comment star) next = where_so (not (is_some next)) shape.OpenComment
shape_before (Pragma hash letters) next = if nat_eq letters 6 then where_so (ends_line next) shape.Gap else where_so (not hash) shape.Word
shape_before Word next = Some shape.Word
shape_before Physical next = Some shape.Physical
shape_before Quote next = where_so (ends_line next) shape.OpenText
shape_before Text next = Some shape.Text
shape_before Slash next = Some shape.Sign
shape_before (One a) next = Some shape.Sign
shape_before (Two a b) next = Some shape.Sign
shape_before Three next = Some shape.Sign
shape_before Zero next = Some shape.Whole
shape_before (Digits ended) next = where_so ended shape.Whole
shape_before (Based base ended) next = where_so ended shape.Whole
shape_before Pointed next = Some shape.Decimal
shape_before (Part ended) next = where_so ended shape.Decimal
shape_before (Exponent ended) next = where_so ended shape.Decimal
shape_before (Ended unit) next = Some (shape.Time unit)
shape_before _ next = None

-- after a number: `s`, which is a unit alone, or the first letter of another unit
abbrev pub unit_begun : ℕ → State
unit_begun c =
    if nat_eq c 100 then Half Dt else (if nat_eq c 110 then Half Ns else (if nat_eq c 117 || nat_eq c 181 || nat_eq c 956 then Half Us
    else (if nat_eq c 109 then Half Ms else (if nat_eq c 115 then Ended S else Nothing))))

-- the first character of a piece
abbrev pub at_start : Bool → ℕ → State
at_start first c =
    if is_blank c then Blank
    else (if nat_eq c 47 then Slash
    else (if nat_eq c 64 && first then Line
    else (if nat_eq c 35 && first then Pragma true 0
    else (if nat_eq c 112 && first then Pragma false 1
    else (if nat_eq c 36 then Dollar
    else (if nat_eq c 34 then Quote
    else (if nat_eq c 48 then Zero
    else (if nat_eq c 46 then Point
    else (if is_ascii_digit c then Digits true
    else (if is_one_sign c then One c
    else (if begins_word c then Word else Nothing)))))))))))

-- after `/`: a comment of either kind, or `/=`
abbrev pub at_slash : ℕ → State
at_slash c = if nat_eq c 47 then Line else (if nat_eq c 42 then Comment false else (if nat_eq c 61 then Two 47 61 else Nothing))

-- in a comment, whose last character is a `*` or not: its end, or one more character of it
abbrev pub at_comment : Bool → ℕ → State
at_comment star c = if star && nat_eq c 47 then Blank else Comment (nat_eq c 42)

-- after so many letters of `pragma`, with `#` before them or not: one more of them, a longer word, or the rest of its line
abbrev pub at_pragma : Bool → ℕ → ℕ → State
at_pragma hash letters c =
    if nat_lt letters 6 && nat_eq c (letter_of_pragma letters) then Pragma hash (letters + 1)
    else (if continues_word c then (if hash then Nothing else Word)
    else (if nat_lt letters 6 || nat_eq c 10 then Nothing else Line))

-- after digits or a point: the letter of an exponent, or a unit
abbrev pub at_number : ℕ → State
at_number c = if nat_eq c 101 || nat_eq c 69 then Letter else unit_begun c

-- after decimal digits and single `_` between them: more of them, a point, or what may follow a number
abbrev pub at_digits : Bool → ℕ → State
at_digits ended c =
    if is_ascii_digit c then Digits true
    else (if not ended then Nothing else (if nat_eq c 95 then Digits false else (if nat_eq c 46 then Pointed else at_number c)))

-- after `0`: the letter of a base, or what may follow decimal digits
abbrev pub at_zero : ℕ → State
at_zero c =
    if nat_eq c 120 || nat_eq c 88 then Based Hexadecimal false
    else (if nat_eq c 98 || nat_eq c 66 then Based Binary false else (if nat_eq c 111 then Based Octal false else at_digits true c))

-- after `0`, the letter of a base, and digits: more of them
abbrev pub at_based : Base → Bool → ℕ → State
at_based base ended c = if is_digit_of base c then Based base true else (if ended && nat_eq c 95 then Based base false else Nothing)

-- after a point and digits: more of them, or what may follow a number
abbrev pub at_part : Bool → ℕ → State
at_part ended c = if is_ascii_digit c then Part true else (if not ended then Nothing else (if nat_eq c 95 then Part false else at_number c))

-- after the digits of an exponent: more of them, or a unit
abbrev pub at_exponent : Bool → ℕ → State
at_exponent ended c = if is_ascii_digit c then Exponent true else (if not ended then Nothing else (if nat_eq c 95 then Exponent false else unit_begun c))

-- a digit, which alone may follow
abbrev pub at_digit : State → ℕ → State
at_digit next c = if is_ascii_digit c then next else Nothing

-- the second letter of a unit
abbrev pub last_letter : TimeUnit → ℕ
last_letter Dt = 116
last_letter _ = 115

-- after a number and the first letter of a unit: its second letter
abbrev pub at_half : TimeUnit → ℕ → State
at_half unit c = if nat_eq c (last_letter unit) then Ended unit else Nothing

-- in a text: the quote that ends it, or one more character of its line
abbrev pub at_quote : ℕ → State
at_quote c = if nat_eq c 34 then Text else (if nat_eq c 10 then Nothing else Quote)

-- what a number is with one more character
abbrev pub at_numeral : State → ℕ → State
at_numeral Zero c = at_zero c
at_numeral (Digits ended) c = at_digits ended c
at_numeral (Based base ended) c = at_based base ended c
at_numeral Point c = at_digit (Part true) c
at_numeral Pointed c = if is_ascii_digit c then Part true else at_number c
at_numeral (Part ended) c = at_part ended c
at_numeral Letter c = if nat_eq c 43 || nat_eq c 45 then Signed else at_digit (Exponent true) c
at_numeral Signed c = at_digit (Exponent true) c
at_numeral (Exponent ended) c = at_exponent ended c
at_numeral (Half unit) c = at_half unit c
at_numeral _ c = Nothing

-- a piece with one more character
abbrev pub step : State → ℕ → State
step (Start first) c = at_start first c
step Line c = if nat_eq c 10 then Nothing else Line
step Slash c = at_slash c
step (Comment star) c = at_comment star c
step (Pragma hash letters) c = at_pragma hash letters c
step Word c = if continues_word c then Word else Nothing
step Dollar c = at_digit Physical c
step Physical c = at_digit Physical c
step Quote c = at_quote c
step (One a) c = if is_two_signs a c then Two a c else Nothing
step (Two a b) c = if is_three_signs a b c then Three else Nothing
step Nothing c = Nothing
step Blank c = Nothing
step Text c = Nothing
step Three c = Nothing
step (Ended unit) c = Nothing
step state c = at_numeral state c

-- a piece with several more characters
abbrev pub run : State → List ℕ → State
run state t = fold step state t

-- a found piece: its shape and what stands after it
abbrev pub Found : Type 0
Found = Shape × List ℕ

-- the later of two
abbrev pub later : Option Found → Option Found → Option Found
later None before = before
later (Some found) before = Some found

-- a piece that may end here, before `behind`
abbrev pub found_at : Option Shape → List ℕ → Option Found
found_at None behind = None
found_at (Some shape) behind = Some (shape, behind)

-- the longest piece that begins here, where so much was read of it
abbrev pub longest_from : State → List ℕ → Option Found
longest_from state [] = None
longest_from state (c ∷ cs) = later (longest_from (step state c) cs) (found_at (shape_before (step state c) (slice_get cs 0)) cs)

-- A text is some characters and then `behind`.
abbrev pub IsBehind : List ℕ → List ℕ → Type 0
IsBehind text behind = (front : List ℕ) × IsUtf8 front × IsUtf8 behind × (text ≡ front ++ behind)

-- ---- the steps of the reader of tokens

-- The longest piece that begins a text: it isn't empty, and `after` follows it.
pub record Begins (first : Bool) (text : List ℕ) (form : Shape) (piece after : List ℕ) : Type 0 where
  pub whole : text ≡ piece ++ after
  pub piece_utf8 : IsUtf8 piece
  pub after_utf8 : IsUtf8 after
  pub longest : IsLongest first (chars text) form (chars piece) (chars after)
  pub some : 0 < length (chars piece)

-- whether the next lexeme is the first of its line, after a piece that ends on a line below or not
abbrev pub first_of : Bool → Shape → Bool → Bool
first_of first shape.Gap below = first || below
first_of first _ below = false

-- what a piece gives: nothing for a gap, the kind of a token for a lexeme
abbrev pub GivesKind : Shape → List ℕ → Option TokenKind → Type 0
GivesKind form t None = form ≡ shape.Gap
GivesKind form t (Some kind) = IsLexeme form × KindIs form t kind

-- A piece adds its token to others, if it gives one, and they are within their limit.
pub record Adds (place : Span) (form : Shape) (t : List ℕ) (before after : List Token) : Type 0 where
  pub tokens : List Token
  pub added : after ≡ before ++ tokens
  pub are : AreTokens place ((form, t) ∷ []) tokens
  pub few : length after ≤ most_tokens

-- The longest piece that begins a text is taken: its token is added to others, if it gives one. `end` is the place after it, and `left` what is left of the text.
pub record TakesNext (first : Bool) (place : Span) (text : List ℕ) (before after : List Token) (end : Span) (next_first : Bool) (left : List ℕ) : Type 0 where
  pub form : Shape
  pub piece : List ℕ
  pub begins : Begins first text form piece left
  pub ends : end ≡ place_behind_all place (chars piece)
  pub adds : Adds place form (chars piece) before after
  pub next : next_first ≡ first_of first form (nat_lt place.line end.line)

-- What begins a text is a fault, after so many tokens; or memory is out.
abbrev pub FailsNext : Bool → Span → List ℕ → List ℕ → ℕ → LexRefusal → Type 0
FailsNext first place text tail count refusal = (refusal ≡ Memory) ⊎ IsFaultAt first (chars text) tail count place refusal
