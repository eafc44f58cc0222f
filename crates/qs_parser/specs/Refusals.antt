-- The numbers and the places of refusals. This project's own.
use Rattle.std.specs.Prelude.{ℕ, Option, Some, None}
use Rattle.qs_values.specs.declared.span.Span.{Span}
use Rattle.qs_parser.specs.declared.refusal.ParseRefusal.{ParseRefusal}
use Rattle.qs_parser.specs.declared.refusal.ParseRefusal.TheVariants.{NoStatement, TooDeep, Unsupported, VersionUnknown, Memory}

-- the number of a refusal
abbrev pub code_of : ParseRefusal → ℕ
code_of (NoStatement span) = 111
code_of (TooDeep span) = 112
code_of (Unsupported span word) = 113
code_of (VersionUnknown span) = 114
code_of Memory = 0

-- the place of a refusal; out of memory has none
abbrev pub span_of : ParseRefusal → Option Span
span_of (NoStatement span) = Some span
span_of (TooDeep span) = Some span
span_of (Unsupported span word) = Some span
span_of (VersionUnknown span) = Some span
span_of Memory = None
