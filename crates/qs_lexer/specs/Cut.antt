-- A text cut into its longest gaps and lexemes, and the tokens of a cut. This project's own.
use Rattle.std.specs.Prelude.{◌≡◌, ℕ, ◌+◌, ◌≤◌, List, [], ◌∷◌, ◌++◌, Bool, false, ◌||◌, not, if◌then◌else◌, nat_eq, length}
use Rattle.std.specs.List.{list_all, fold}
use Rattle.std.specs.Str.{IsUtf8, chars}
use Rattle.qs_values.specs.declared.span.Span.{Span}
use Rattle.qs_lexer.specs.declared.shape.Shape.{Shape}
use Rattle.qs_lexer.specs.declared.shape.Shape.TheVariants.{Gap}
use Rattle.qs_lexer.specs.declared.token.Token.{Token}
use Rattle.qs_lexer.specs.Forms.{Form, is_in_line}
use Rattle.qs_lexer.specs.Values.{KindIs}

-- The longest text of any form that begins here is this piece, and `after` follows it.
pub record IsLongest (first : Bool) (text : List ℕ) (shape : Shape) (piece after : List ℕ) : Type 0 where
  pub whole : text ≡ piece ++ after
  pub form : Form first shape piece after
  pub longest : (other : Shape) (t rest : List ℕ) → text ≡ t ++ rest → Form first other t rest → length t ≤ length piece

-- No text of any form begins here.
abbrev pub BeginsNothing : Bool → List ℕ → Type 0
BeginsNothing first text = (shape : Shape) (t rest : List ℕ) → text ≡ t ++ rest → ¬ (Form first shape t rest)

-- a shape, and the characters that have it
abbrev pub Piece : Type 0
Piece = Shape × List ℕ

-- whether the next lexeme is the first of its line: a gap with a line feed begins a line
abbrev pub first_behind : Bool → Shape → List ℕ → Bool
first_behind first Gap t = first || not (list_all is_in_line t)
first_behind first _ t = false

-- A text is these pieces, each the longest that begins at its place, and then `rest`.
abbrev pub IsCut : Bool → List ℕ → List Piece → List ℕ → Type 0
IsCut first text [] rest = text ≡ rest
IsCut first text (p ∷ ps) rest = (after : List ℕ) × IsLongest first text p.0 p.1 after × IsCut (first_behind first p.0 p.1) after ps rest

-- whether the next lexeme after these pieces is the first of its line
abbrev pub first_behind_all : Bool → List Piece → Bool
first_behind_all first [] = first
first_behind_all first (p ∷ ps) = first_behind_all (first_behind first p.0 p.1) ps

-- the place after a character that stands at a place
abbrev pub place_behind : Span → ℕ → Span
place_behind s c = if nat_eq c 10 then record { line = s.line + 1; col = 1 } else record { line = s.line; col = s.col + 1 }

-- the place after a text that begins at a place
abbrev pub place_behind_all : Span → List ℕ → Span
place_behind_all s t = fold place_behind s t

-- where a source begins
abbrev pub start : Span
start = record { line = 1; col = 1 }

-- a token is what a piece of this shape at this place gives
pub record IsToken (place : Span) (shape : Shape) (piece : List ℕ) (token : Token) : Type 0 where
  pub span : token.span ≡ place
  pub utf8 : IsUtf8 token.text
  pub text : chars token.text ≡ piece
  pub kind : KindIs shape piece token.kind

-- A gap gives no token and a lexeme gives one; then `More` holds of the other tokens.
abbrev pub Gives : Span → Shape → List ℕ → List Token → (List Token → Type 0) → Type 0
Gives place Gap piece tokens More = More tokens
Gives place shape piece tokens More = (token : Token) × (others : List Token) × (tokens ≡ token ∷ others) × IsToken place shape piece token × More others

-- these are the tokens of a cut that begins at this place
abbrev pub AreTokens : Span → List Piece → List Token → Type 0
AreTokens place [] tokens = tokens ≡ []
AreTokens place (p ∷ ps) tokens = Gives place p.0 p.1 tokens (AreTokens (place_behind_all place p.1) ps)
