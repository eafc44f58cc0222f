-- What reading a source answers. This project's own.
use Rattle.std.specs.Prelude.{◌≡◌, ◌⊎◌, ℕ, List, Result, Ok, Err}
use Rattle.qs_values.specs.declared.span.Span.{Span}
use Rattle.qs_values.specs.declared.refusal.Refusal.{Refusal}
use Rattle.qs_values.specs.declared.refusal.Halt.{Halt}
use Rattle.qs_values.specs.declared.refusal.Halt.TheVariants.{Refused, Memory}
use Rattle.qs_lexer.specs.declared.refusal.LexRefusal.{LexRefusal}
use Rattle.qs_lexer.specs.declared.token.Token.{Token}
use Rattle.qs_lexer.specs.Lexed.{HasFault, Lexes, code_of, span_of}
use Rattle.qs_tree.specs.declared.source.Source.{Source}
use Rattle.qs_tree.specs.declared.statement.Stmt.{Stmt}
use Rattle.qs_parser.specs.declared.refusal.ParseRefusal.{ParseRefusal}
use Rattle.qs_parser.specs.Language.{IsRefusedBy, IsTreeOf}
use Rattle.qasm_main.specs.declared.front.statement.LocatedStatement.{LocatedStatement}
use Rattle.qasm_main.specs.front.Source.{Built, NotBuilt, most_statements, reading_of}
use Rattle.qasm_main.specs.front.Refused.{malformed_by, not_built_at, refusal_at}

-- A source has a tree: that of its tokens.
pub record IsParsed (source : List ℕ) (tree : Source) : Type 0 where
  pub tokens : List Token
  pub lexes : Lexes source tokens
  pub is : IsTreeOf tokens tree

-- A source is these statements, at their places.
pub record IsSource (source : List ℕ) (statements : List LocatedStatement) : Type 0 where
  pub tree : Source
  pub parsed : IsParsed source tree
  pub built : reading_of most_statements tree.body ≡ Built statements

-- A source has a first fault among its lexemes.
pub record IsFaulty (source : List ℕ) (refusal : Refusal) : Type 0 where
  pub fault : LexRefusal
  pub has : HasFault source fault
  pub same : refusal ≡ refusal_at (code_of fault) (span_of fault)

-- A source has tokens, and they have no tree.
pub record IsMalformed (source : List ℕ) (refusal : Refusal) : Type 0 where
  pub tokens : List Token
  pub lexes : Lexes source tokens
  pub cause : ParseRefusal
  pub has : IsRefusedBy tokens cause
  pub same : refusal ≡ malformed_by cause

-- A source has a tree, and one of its statements isn't built, or is one too many.
pub record IsNotBuilt (source : List ℕ) (refusal : Refusal) : Type 0 where
  pub tree : Source
  pub parsed : IsParsed source tree
  pub place : Span
  pub not_built : reading_of most_statements tree.body ≡ NotBuilt place
  pub same : refusal ≡ not_built_at place

-- A source is refused before it is compiled: for its lexemes, else for its tokens, and else for its statements.
abbrev pub IsUnreadable : List ℕ → Refusal → Type 0
IsUnreadable source refusal = IsFaulty source refusal ⊎ (IsMalformed source refusal ⊎ IsNotBuilt source refusal)

-- What a source is read as: its statements at their places, or its first refusal.
abbrev pub Reads : List ℕ → Result (List LocatedStatement) Halt → Type 0
Reads source (Ok statements) = IsSource source statements
Reads source (Err (Refused refusal)) = IsUnreadable source refusal
Reads source (Err Memory) = Unit {0}

-- What statements of a tree are read as, where so many may be.
abbrev pub ReadsStatements : ℕ → List Stmt → Result (List LocatedStatement) Halt → Type 0
ReadsStatements most stmts (Ok statements) = reading_of most stmts ≡ Built statements
ReadsStatements most stmts (Err (Refused refusal)) = (place : Span) × (reading_of most stmts ≡ NotBuilt place) × (refusal ≡ not_built_at place)
ReadsStatements most stmts (Err Memory) = Unit {0}
