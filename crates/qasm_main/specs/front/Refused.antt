-- The refusals of a source, and how a pass's refusal becomes one. This project's own.
use Rattle.std.specs.Prelude.{◌≡◌, ℕ, List, [], ◌∷◌, Option, Some, None, nat_eq, if◌then◌else◌}
use Rattle.qs_values.specs.declared.span.Span.{Span}
use Rattle.qs_values.specs.declared.refusal.Refusal.{Refusal}
use Rattle.qs_values.specs.declared.refusal.Halt.{Halt}
use Rattle.qs_values.specs.declared.refusal.Halt.TheVariants.{Refused, Memory}
use Rattle.qs_parser.specs.declared.refusal.ParseRefusal.{ParseRefusal}
use Rattle.qs_parser.specs.declared.refusal.ParseRefusal.TheVariants.{NoStatement, TooDeep, Unsupported, VersionUnknown, Memory as ParseMemory}
use Rattle.qs_parser.specs.Refusals.{code_of, span_of}
use Rattle.box_schedule.specs.declared.refusal.BoxRefusal.{BoxRefusal}
use Rattle.box_schedule.specs.declared.refusal.BoxRefusal.TheVariants.{TickOut, DelayNegative, Memory as BoxMemory}

-- the code of what isn't built
abbrev pub not_built : ℕ
not_built = 199

-- a refusal without words, at a place where it has one
abbrev pub refusal_at : ℕ → Option Span → Refusal
refusal_at code place = record { code = code; span = place; words = [] }

-- the refusal at the place where something that isn't built begins
abbrev pub not_built_at : Span → Refusal
not_built_at place = refusal_at not_built (Some place)

-- what a pass ends a compilation with, by the code and the place of its refusal: the code 0 is that of being out of memory
abbrev pub halt_of : ℕ → Option Span → Halt
halt_of code place = if nat_eq code 0 then Memory else Refused (refusal_at code place)

-- the words of a refusal of tokens: the word that is left out
abbrev pub words_of : ParseRefusal → List (List ℕ)
words_of (NoStatement span) = []
words_of (TooDeep span) = []
words_of (Unsupported span word) = word ∷ []
words_of (VersionUnknown span) = []
words_of ParseMemory = []

-- the refusal of a source by that of its tokens
abbrev pub malformed_by : ParseRefusal → Refusal
malformed_by cause = record { code = code_of cause; span = span_of cause; words = words_of cause }

-- What a refusal of tokens ends a compilation with. Out of memory may come in its place.
abbrev pub MalformedHalt : ParseRefusal → Halt → Type 0
MalformedHalt ParseMemory (Refused refusal) = ⊥
MalformedHalt cause (Refused refusal) = refusal ≡ malformed_by cause
MalformedHalt cause Memory = Unit {0}

-- the place of a refusal of a block
abbrev pub place_of : BoxRefusal → Option Span
place_of (TickOut span) = Some span
place_of (DelayNegative span) = Some span
place_of BoxMemory = None
