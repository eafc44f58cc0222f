-- The codes that are told have names.
use Rattle.std.proofs.Common.{◌≢◌, ℕ, List, inl, inr, refl, subst, sym}
use Rattle.std.specs.Prelude.{IsSome}
use Rattle.qs_values.specs.declared.refusal.Refusal.{Refusal}
use Rattle.qs_lexer.specs.declared.refusal.LexRefusal.{LexRefusal}
use Rattle.qs_lexer.specs.declared.refusal.LexRefusal.TheVariants.{NotUtf8, BadChar, OpenComment, OpenText, NumberTooWide, TooManyTokens, Memory as LexMemory}
use Rattle.qs_lexer.specs.Lexed.{HasFault}
use Rattle.qs_lexer.specs.declared.token.Token.{Token}
use Rattle.qs_parser.specs.declared.refusal.ParseRefusal.{ParseRefusal}
use Rattle.qs_parser.specs.declared.refusal.ParseRefusal.TheVariants.{NoStatement, TooDeep, Unsupported, VersionUnknown, Memory as ParseMemory}
use Rattle.qs_parser.specs.Language.{IsRefusedBy}
use Rattle.timeline_board.specs.Refused.{name_of, names}
use Rattle.qasm_dump.specs.declared.output.Pass.{Pass}
use Rattle.qasm_dump.specs.declared.output.Pass.TheVariants.{Tokens, Tree}
use Rattle.qasm_dump.specs.Output.{Refuses}
use Rattle.qasm_dump.specs.Refusals.{IsFaulty, IsMalformed, fault_refusal, malformed_by, too_long}

pub long-named : (name : List ℕ) → IsSome (name_of (too_long name).code)
unfolding names
long-named name = refl

fault-named : (fault : LexRefusal) → fault ≢ LexMemory → IsSome (name_of (fault_refusal fault).code)
unfolding names
fault-named (NotUtf8 span) other = refl
fault-named (BadChar span) other = refl
fault-named (OpenComment span) other = refl
fault-named (OpenText span) other = refl
fault-named (NumberTooWide span) other = refl
fault-named (TooManyTokens span) other = refl
fault-named LexMemory other = absurd (other refl)

no-memory : (bytes : List ℕ) (fault : LexRefusal) → HasFault bytes fault → fault ≢ LexMemory
no-memory bytes fault has is = let none = subst (HasFault bytes) is has in absurd none.fault

faulty-named : (bytes : List ℕ) (refusal : Refusal) → IsFaulty bytes refusal → IsSome (name_of refusal.code)
faulty-named bytes refusal faulty = subst (λ r. IsSome (name_of r.code)) (sym faulty.same) (fault-named faulty.fault (no-memory bytes faulty.fault faulty.has))

cause-named : (cause : ParseRefusal) → cause ≢ ParseMemory → IsSome (name_of (malformed_by cause).code)
unfolding names
cause-named (NoStatement span) other = refl
cause-named (TooDeep span) other = refl
cause-named (Unsupported span word) other = refl
cause-named (VersionUnknown span) other = refl
cause-named ParseMemory other = absurd (other refl)

caused : (tokens : List Token) (cause : ParseRefusal) → IsRefusedBy tokens cause → cause ≢ ParseMemory
caused tokens cause has is = let none = subst (IsRefusedBy tokens) is has in absurd none.cause

malformed-named : (bytes : List ℕ) (refusal : Refusal) → IsMalformed bytes refusal → IsSome (name_of refusal.code)
malformed-named bytes refusal malformed = subst (λ r. IsSome (name_of r.code)) (sym malformed.same) (cause-named malformed.cause (caused malformed.tokens malformed.cause malformed.has))

-- The code of a source's refusal has a name.
pub refused-named : (pass : Pass) (bytes : List ℕ) (refusal : Refusal) → Refuses pass bytes refusal → IsSome (name_of refusal.code)
refused-named Tokens bytes refusal faulty = faulty-named bytes refusal faulty
refused-named Tree bytes refusal (inl faulty) = faulty-named bytes refusal faulty
refused-named Tree bytes refusal (inr malformed) = malformed-named bytes refusal malformed
