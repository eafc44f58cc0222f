-- Which tokens are a source, and why others are none. This project's own; the grammar is that of OpenQASM 3.0, in this project's profile.
use Rattle.std.specs.Prelude.{◌≡◌, ◌⊎◌, ℕ, ◌≤◌, List, [], ◌∷◌, ◌++◌, length, IsTrue, IsFalse, codes, Option, Some, None, Result, Ok, Err}
use Rattle.std.specs.List.{list_any}
use Rattle.std.specs.Str.{bytes_eq}
use Rattle.qs_values.specs.declared.span.Span.{Span}
use Rattle.qs_lexer.specs.declared.token.Token.{Token}
use Rattle.qs_lexer.specs.declared.token.TokenKind.TheVariants as kind
use Rattle.qs_tree.specs.declared.source.Source.{Source}
use Rattle.qs_tree.specs.declared.statement.Stmt.{Stmt}
use Rattle.qs_tree.specs.Spelling.{IsNumber, Spells, spell_source, spell_stmt}
use Rattle.qs_tree.specs.WellFormed.{IsSource, IsWellFormed, is_version, twice_limits}
use Rattle.qs_parser.specs.declared.refusal.ParseRefusal.{ParseRefusal}
use Rattle.qs_parser.specs.declared.refusal.ParseRefusal.TheVariants.{NoStatement, TooDeep, Unsupported, VersionUnknown, Memory}
use Rattle.qs_parser.specs.Refusals.{span_of}

-- This is a tree of these tokens: it follows the grammar, and they are its spelling.
pub record IsTreeOf (tokens : List Token) (source : Source) : Type 0 where
  pub follows : IsSource source
  pub spelled : Spells (spell_source source) tokens

-- After whole statements, with a version line before them or without, this rest is left.
pub record Leaves (tokens rest : List Token) : Type 0 where
  pub front : List Token
  pub split : tokens ≡ front ++ rest
  pub source : Source
  pub is : IsTreeOf front source

-- The rest: what the longest list of whole statements leaves.
pub record IsRest (tokens rest : List Token) : Type 0 where
  pub left : Leaves tokens rest
  pub least : (other : List Token) → Leaves tokens other → length rest ≤ length other

-- where tokens begin
abbrev pub first_place : List Token → Option Span
first_place [] = None
first_place (t ∷ ts) = Some t.span

-- A token is this word.
pub record IsWord (word : List ℕ) (t : Token) : Type 0 where
  pub kind : t.kind ≡ kind.Word
  pub text : t.text ≡ word

-- the words of OpenQASM and OpenPulse that this project leaves out: in any place, and outside of `cal` and `defcal`
abbrev pub left_out : List (List ℕ)
left_out =
    codes "array" ∷ codes "let" ∷ codes "complex" ∷ codes "float" ∷ codes "qreg" ∷ codes "creg" ∷ codes "switch" ∷ codes "case" ∷ codes "default" ∷ codes "def"
    ∷ codes "sizeof" ∷ codes "void" ∷ codes "readonly" ∷ codes "mutable"
    ∷ codes "extern" ∷ codes "return" ∷ codes "port" ∷ codes "frame" ∷ codes "waveform" ∷ []

-- whether a word is one of them
abbrev pub is_left_out : List ℕ → Type 0
is_left_out word = IsTrue (list_any (bytes_eq word) left_out)

-- The tokens begin with a word that is left out.
abbrev pub BeginsLeftOut : List ℕ → List Token → Type 0
BeginsLeftOut word [] = ⊥
BeginsLeftOut word (t ∷ ts) = IsWord word t × is_left_out word

-- A token is one of the words after which a type stands.
abbrev pub IsBeforeType : Token → Type 0
IsBeforeType t = IsWord (codes "const") t ⊎ IsWord (codes "input") t ⊎ IsWord (codes "output") t

-- 113: the tokens begin with a word that is left out, or it follows `const`, `input` or `output`.
abbrev pub IsUnsupported : List ℕ → List Token → Type 0
IsUnsupported word [] = ⊥
IsUnsupported word (t ∷ ts) = BeginsLeftOut word (t ∷ ts) ⊎ (IsBeforeType t × BeginsLeftOut word ts)

-- 114: the tokens begin with a version line whose number isn't a known version.
abbrev pub IsVersionUnknown : List Token → Type 0
IsVersionUnknown [] = ⊥
IsVersionUnknown (t ∷ []) = ⊥
IsVersionUnknown (t ∷ number ∷ ts) = IsWord (codes "OPENQASM") t × IsNumber number.kind × IsFalse (is_version number.text)

-- 112: the tokens begin with a statement that follows the grammar within twice the limits.
pub record IsTooDeep (tokens : List Token) : Type 0 where
  pub front : List Token
  pub after : List Token
  pub split : tokens ≡ front ++ after
  pub stmt : Stmt
  pub follows : IsWellFormed twice_limits stmt
  pub spelled : Spells (spell_stmt stmt) front

-- The cause of a refusal, by the tokens and their rest: 111 where there is no other one.
abbrev pub IsCause : List Token → List Token → ParseRefusal → Type 0
IsCause tokens rest (NoStatement span) = ¬ (IsTooDeep rest) × ((word : List ℕ) → ¬ (IsUnsupported word rest)) × ¬ (IsVersionUnknown tokens)
IsCause tokens rest (TooDeep span) = IsTooDeep rest
IsCause tokens rest (Unsupported span word) = IsUnsupported word rest
IsCause tokens rest (VersionUnknown span) = IsVersionUnknown tokens
IsCause tokens rest Memory = ⊥

-- Tokens are refused: their rest has the cause, and it is refused at its first token.
pub record IsRefusedBy (tokens : List Token) (refusal : ParseRefusal) : Type 0 where
  pub rest : List Token
  pub is : IsRest tokens rest
  pub cause : IsCause tokens rest refusal
  pub place : first_place rest ≡ span_of refusal

-- What `parse` answers: the only tree, or the refusal. Out of memory is free.
abbrev pub ParseIs : List Token → Result Source ParseRefusal → Type 0
ParseIs tokens (Ok source) = IsTreeOf tokens source × ((other : Source) → IsTreeOf tokens other → other ≡ source)
ParseIs tokens (Err Memory) = Unit {0}
ParseIs tokens (Err refusal) = IsRefusedBy tokens refusal
