-- A source has one list of tokens, or one first fault. This project's own.
use Rattle.std.specs.Prelude.{◌≡◌, ℕ, List}
use Rattle.qs_lexer.specs.declared.refusal.LexRefusal.{LexRefusal}
use Rattle.qs_lexer.specs.declared.token.Token.{Token}
use Rattle.qs_lexer.specs.Lexed.{HasFault, Lexes}

-- A source has at most one list of tokens.
abbrev pub TokensOnce : Type 0
TokensOnce = (bytes : List ℕ) (tokens others : List Token) → Lexes bytes tokens → Lexes bytes others → tokens ≡ others

-- A source that has tokens has no fault.
abbrev pub NoFaultBesideTokens : Type 0
NoFaultBesideTokens = (bytes : List ℕ) (tokens : List Token) (refusal : LexRefusal) → Lexes bytes tokens → ¬ (HasFault bytes refusal)

-- A source has at most one first fault.
abbrev pub FaultOnce : Type 0
FaultOnce = (bytes : List ℕ) (refusal other : LexRefusal) → HasFault bytes refusal → HasFault bytes other → refusal ≡ other
