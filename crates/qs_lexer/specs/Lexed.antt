-- The tokens of a source, or its first fault. This project's own.
use Rattle.std.specs.Prelude.{◌≡◌, ◌⊎◌, ℕ, ◌≤◌, List, [], ◌++◌, Bool, true, length, Result, Ok, Err, Option, Some, None}
use Rattle.std.specs.List.{flat_map}
use Rattle.std.specs.Str.{IsUtf8, StartsWithNoChar, chars}
use Rattle.qs_values.specs.declared.span.Span.{Span}
use Rattle.qs_lexer.specs.declared.refusal.LexRefusal.{LexRefusal}
use Rattle.qs_lexer.specs.declared.refusal.LexRefusal.TheVariants.{NotUtf8, BadChar, OpenComment as OpenCommentFault, OpenText as OpenTextFault, NumberTooWide, TooManyTokens, Memory}
use Rattle.qs_lexer.specs.declared.shape.Shape.{Shape}
use Rattle.qs_lexer.specs.declared.shape.Shape.TheVariants.{OpenComment, OpenText}
use Rattle.qs_lexer.specs.declared.token.Token.{Token}
use Rattle.qs_lexer.specs.Values.{IsLexeme, IsTooWide}
use Rattle.qs_lexer.specs.Cut.{AreTokens, BeginsNothing, IsCut, IsLongest, Piece, first_behind_all, place_behind_all, start}

-- how many bytes a source has at most
abbrev pub longest_source : ℕ
longest_source = 1048576

-- how many tokens a source has at most
abbrev pub most_tokens : ℕ
most_tokens = 262144

-- the characters of pieces, one after another
abbrev pub text_of : List Piece → List ℕ
text_of pieces = flat_map (λ p. p.1) pieces

-- These are the tokens of a source: it is UTF-8, and cut whole into gaps and lexemes within their limits.
pub record Lexes (bytes : List ℕ) (tokens : List Token) : Type 0 where
  pub utf8 : IsUtf8 bytes
  pub pieces : List Piece
  pub cut : IsCut true (chars bytes) pieces []
  pub are : AreTokens start pieces tokens
  pub few : length tokens ≤ most_tokens

-- The characters of a source up to the first byte that belongs to none, and the bytes from that one on.
pub record IsReadable (bytes front tail : List ℕ) : Type 0 where
  pub whole : bytes ≡ front ++ tail
  pub utf8 : IsUtf8 front
  pub ends : (tail ≡ []) ⊎ StartsWithNoChar tail

-- Behind a text a source goes on: with other characters, or not at all, so that no byte that belongs to no character stands there.
abbrev pub IsClear : List ℕ → List ℕ → Type 0
IsClear after tail = ¬ (after ≡ []) ⊎ (tail ≡ [])

-- A piece of this shape begins here and doesn't run up to a byte that belongs to no character.
abbrev pub Stands : Bool → List ℕ → List ℕ → Shape → List ℕ → Type 0
Stands first rest tail shape piece = (after : List ℕ) × IsLongest first rest shape piece after × IsClear after tail

-- A piece is at fault: it is left open, a number past its limit, or a token past the most. So many tokens are before it; `place` is where it begins.
abbrev pub IsPieceFault : ℕ → Span → Shape → List ℕ → LexRefusal → Type 0
IsPieceFault count place shape piece (OpenCommentFault span) = (shape ≡ OpenComment) × (span ≡ place)
IsPieceFault count place shape piece (OpenTextFault span) = (shape ≡ OpenText) × (span ≡ place)
IsPieceFault count place shape piece (NumberTooWide span) = IsTooWide shape piece × (span ≡ place)
IsPieceFault count place shape piece (TooManyTokens span) = (count ≡ most_tokens) × IsLexeme shape × ¬ (IsTooWide shape piece) × (span ≡ place)
IsPieceFault count place shape piece _ = ⊥

-- What stands after a faultless front of a source is a fault: a byte that belongs to no character, a character that begins nothing, or a piece at fault. So many tokens are before it; `place` is where it begins.
abbrev pub IsFaultAt : Bool → List ℕ → List ℕ → ℕ → Span → LexRefusal → Type 0
IsFaultAt first rest tail count place (NotUtf8 span) =
    ¬ (tail ≡ []) × (((rest ≡ []) × (span ≡ place)) ⊎ ((shape : Shape) × (piece : List ℕ) × IsLongest first rest shape piece [] × (span ≡ place_behind_all place piece)))
IsFaultAt first rest tail count place (BadChar span) = ¬ (rest ≡ []) × BeginsNothing first rest × (span ≡ place)
IsFaultAt first rest tail count place Memory = ⊥
IsFaultAt first rest tail count place refusal = (shape : Shape) × (piece : List ℕ) × Stands first rest tail shape piece × IsPieceFault count place shape piece refusal

-- A source's first fault: what stands before it is cut into gaps and lexemes within their limits.
pub record HasFault (bytes : List ℕ) (refusal : LexRefusal) : Type 0 where
  pub front : List ℕ
  pub tail : List ℕ
  pub readable : IsReadable bytes front tail
  pub pieces : List Piece
  pub rest : List ℕ
  pub tokens : List Token
  pub cut : IsCut true (chars front) pieces rest
  pub are : AreTokens start pieces tokens
  pub few : length tokens ≤ most_tokens
  pub fault : IsFaultAt (first_behind_all true pieces) rest tail (length tokens) (place_behind_all start (text_of pieces)) refusal

-- the number of a refusal
abbrev pub code_of : LexRefusal → ℕ
code_of (NotUtf8 span) = 101
code_of (BadChar span) = 102
code_of (OpenCommentFault span) = 103
code_of (OpenTextFault span) = 104
code_of (NumberTooWide span) = 105
code_of (TooManyTokens span) = 106
code_of Memory = 0

-- the place of a refusal; out of memory has none
abbrev pub span_of : LexRefusal → Option Span
span_of (NotUtf8 span) = Some span
span_of (BadChar span) = Some span
span_of (OpenCommentFault span) = Some span
span_of (OpenTextFault span) = Some span
span_of (NumberTooWide span) = Some span
span_of (TooManyTokens span) = Some span
span_of Memory = None

-- What `lex` answers: the tokens, or the first fault. Out of memory is free.
abbrev pub LexIs : List ℕ → Result (List Token) LexRefusal → Type 0
LexIs bytes (Ok tokens) = Lexes bytes tokens
LexIs bytes (Err Memory) = Unit {0}
LexIs bytes (Err fault) = HasFault bytes fault
