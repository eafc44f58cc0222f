-- The refusals of a source and of a file, and the line of a refusal, as the main program has them. This project's own.
use Rattle.std.specs.Prelude.{◌≡◌, ◌≢◌, ℕ, List, [], ◌∷◌, None, unwrap_or}
use Rattle.qs_values.specs.declared.refusal.Refusal.{Refusal}
use Rattle.qs_values.specs.declared.refusal.Halt.{Halt}
use Rattle.qs_values.specs.declared.refusal.Halt.TheVariants.{Refused, Memory}
use Rattle.qs_lexer.specs.declared.refusal.LexRefusal.{LexRefusal}
use Rattle.qs_lexer.specs.declared.refusal.LexRefusal.TheVariants.{Memory as LexMemory}
use Rattle.qs_lexer.specs.Lexed.{HasFault, Lexes, code_of, span_of}
use Rattle.qs_lexer.specs.declared.token.Token.{Token}
use Rattle.qs_parser.specs.declared.refusal.ParseRefusal.{ParseRefusal}
use Rattle.qs_parser.specs.declared.refusal.ParseRefusal.TheVariants.{NoStatement, TooDeep, Unsupported, VersionUnknown, Memory as ParseMemory}
use Rattle.qs_parser.specs.Language.{IsRefusedBy}
use Rattle.qs_parser.specs.Refusals.{code_of as parse_code, span_of as parse_span}
use Rattle.timeline_board.specs.Refused.{name_of, refusal_line}

-- the refusal of a file that is too long, which tells its name
abbrev pub too_long : List ℕ → Refusal
too_long name = record { code = 10; span = None; words = name ∷ [] }

-- the refusal of a fault among lexemes
abbrev pub fault_refusal : LexRefusal → Refusal
fault_refusal fault = record { code = code_of fault; span = span_of fault; words = [] }

-- A source has a first fault among its lexemes.
pub record IsFaulty (bytes : List ℕ) (refusal : Refusal) : Type 0 where
  pub fault : LexRefusal
  pub has : HasFault bytes fault
  pub same : refusal ≡ fault_refusal fault

-- A fault among lexemes ends a pass with its refusal, and one of memory ends it as such.
abbrev pub HaltIs : LexRefusal → Halt → Type 0
HaltIs fault (Refused refusal) = (fault ≢ LexMemory) × (refusal ≡ fault_refusal fault)
HaltIs fault Memory = fault ≡ LexMemory

-- the words of a refusal of tokens: the word that is left out
abbrev pub words_of : ParseRefusal → List (List ℕ)
words_of (NoStatement span) = []
words_of (TooDeep span) = []
words_of (Unsupported span word) = word ∷ []
words_of (VersionUnknown span) = []
words_of ParseMemory = []

-- the refusal of a source by that of its tokens
abbrev pub malformed_by : ParseRefusal → Refusal
malformed_by cause = record { code = parse_code cause; span = parse_span cause; words = words_of cause }

-- A source has tokens, and they have no tree.
pub record IsMalformed (bytes : List ℕ) (refusal : Refusal) : Type 0 where
  pub tokens : List Token
  pub lexes : Lexes bytes tokens
  pub cause : ParseRefusal
  pub has : IsRefusedBy tokens cause
  pub same : refusal ≡ malformed_by cause

-- What tokens without a tree end a pass with. Out of memory may come in its place.
abbrev pub MalformedHalt : ParseRefusal → Halt → Type 0
MalformedHalt ParseMemory (Refused refusal) = ⊥
MalformedHalt cause (Refused refusal) = refusal ≡ malformed_by cause
MalformedHalt cause Memory = Unit {0}

-- the line of a refusal, with the name of its code
abbrev pub refusal_text : Refusal → List ℕ
refusal_text refusal = refusal_line (unwrap_or (name_of refusal.code) []) refusal
