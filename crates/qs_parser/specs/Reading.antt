-- What the account of a reader has to do with the grammar. This project's own.
use Rattle.std.specs.Prelude.{ℕ, List}
use Rattle.qs_lexer.specs.declared.token.Token.{Token}
use Rattle.qs_parser.specs.Language.{Leaves}
use Rattle.qs_parser.specs.steps.Sources.{statements_at, version_at}

-- the tokens that are left where a version line and then, in so many turns at most, whole statements are read
abbrev pub left_after : ℕ → List Token → List Token
left_after turns tokens = (statements_at turns (version_at tokens).1).1

-- Whatever the tokens, those that were read are the spelling of a source that follows the grammar.
abbrev pub ReadIsSpelled : Type 0
ReadIsSpelled = (turns : ℕ) (tokens : List Token) → Leaves tokens (left_after turns tokens)
