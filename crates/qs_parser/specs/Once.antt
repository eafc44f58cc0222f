-- Tokens have one tree, or one refusal. This project's own.
use Rattle.std.specs.Prelude.{◌≡◌, List}
use Rattle.qs_lexer.specs.declared.token.Token.{Token}
use Rattle.qs_tree.specs.declared.source.Source.{Source}
use Rattle.qs_parser.specs.declared.refusal.ParseRefusal.{ParseRefusal}
use Rattle.qs_parser.specs.Language.{IsRefusedBy, IsTreeOf}

-- Tokens have at most one tree.
abbrev pub TreeOnce : Type 0
TreeOnce = (tokens : List Token) (source other : Source) → IsTreeOf tokens source → IsTreeOf tokens other → source ≡ other

-- Tokens that have a tree aren't refused.
abbrev pub NoRefusalBesideTree : Type 0
NoRefusalBesideTree = (tokens : List Token) (source : Source) (refusal : ParseRefusal) → IsTreeOf tokens source → ¬ (IsRefusedBy tokens refusal)

-- Tokens have at most one refusal.
abbrev pub RefusalOnce : Type 0
RefusalOnce = (tokens : List Token) (refusal other : ParseRefusal) → IsRefusedBy tokens refusal → IsRefusedBy tokens other → refusal ≡ other
