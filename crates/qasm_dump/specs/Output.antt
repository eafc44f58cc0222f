-- What each pass makes of a source, or refuses it with, and the text of what it makes. This project's own.
use Rattle.std.specs.Prelude.{◌≡◌, ◌⊎◌, ℕ, List, Result, Ok, Err}
use Rattle.qs_values.specs.declared.refusal.Refusal.{Refusal}
use Rattle.qs_values.specs.declared.refusal.Halt.{Halt}
use Rattle.qs_values.specs.declared.refusal.Halt.TheVariants.{Refused, Memory}
use Rattle.qs_lexer.specs.declared.token.Token.{Token}
use Rattle.qs_lexer.specs.Lexed.{Lexes}
use Rattle.qasm_dump.specs.declared.output.Pass.{Pass}
use Rattle.qasm_dump.specs.declared.output.Pass.TheVariants as pass
use Rattle.qasm_dump.specs.declared.output.Output.{Output}
use Rattle.qasm_dump.specs.declared.output.Output.TheVariants as output
use Rattle.qs_tree.specs.declared.source.Source.{Source}
use Rattle.qs_parser.specs.Language.{IsTreeOf}
use Rattle.qasm_dump.specs.Refusals.{IsFaulty, IsMalformed}
use Rattle.qasm_dump.specs.Tokens.{tokens_text}
use Rattle.qasm_dump.specs.Trees.{tree_text}

-- A source has a tree: that of its tokens.
pub record IsParsed (bytes : List ℕ) (tree : Source) : Type 0 where
  pub tokens : List Token
  pub lexes : Lexes bytes tokens
  pub is : IsTreeOf tokens tree

-- A source has a tree, and this is its text.
abbrev pub IsTreeText : List ℕ → List ℕ → Type 0
IsTreeText bytes text = (tree : Source) × IsParsed bytes tree × (text ≡ tree_text tree)

-- A source is refused before it has a tree: for its lexemes, else for its tokens.
abbrev pub IsUnparsed : List ℕ → Refusal → Type 0
IsUnparsed bytes refusal = IsFaulty bytes refusal ⊎ IsMalformed bytes refusal

-- A pass makes this of a source.
abbrev pub Makes : Pass → List ℕ → Output → Type 0
Makes pass.Tokens bytes (output.Tokens tokens) = Lexes bytes tokens
Makes pass.Tokens bytes (output.Tree text) = ⊥
Makes pass.Tree bytes (output.Tokens tokens) = ⊥
Makes pass.Tree bytes (output.Tree text) = IsTreeText bytes text

-- A pass refuses a source with this.
abbrev pub Refuses : Pass → List ℕ → Refusal → Type 0
Refuses pass.Tokens bytes refusal = IsFaulty bytes refusal
Refuses pass.Tree bytes refusal = IsUnparsed bytes refusal

-- What a pass comes to on a source: what it makes, or its refusal. Running out of memory is free.
abbrev pub OutputIs : Pass → List ℕ → Result Output Halt → Type 0
OutputIs p bytes (Ok made) = Makes p bytes made
OutputIs p bytes (Err (Refused refusal)) = Refuses p bytes refusal
OutputIs p bytes (Err Memory) = Unit {0}

-- the same of the lexer alone
abbrev pub LexedIs : List ℕ → Result (List Token) Halt → Type 0
LexedIs bytes (Ok tokens) = Lexes bytes tokens
LexedIs bytes (Err (Refused refusal)) = IsFaulty bytes refusal
LexedIs bytes (Err Memory) = Unit {0}

-- the same of the lexer and the parser
abbrev pub ParsedIs : List ℕ → Result Source Halt → Type 0
ParsedIs bytes (Ok tree) = IsParsed bytes tree
ParsedIs bytes (Err (Refused refusal)) = IsUnparsed bytes refusal
ParsedIs bytes (Err Memory) = Unit {0}

-- the same with the text of the tree
abbrev pub TreeTextIs : List ℕ → Result (List ℕ) Halt → Type 0
TreeTextIs bytes (Ok text) = IsTreeText bytes text
TreeTextIs bytes (Err (Refused refusal)) = IsUnparsed bytes refusal
TreeTextIs bytes (Err Memory) = Unit {0}

-- the text of what a pass makes
abbrev pub output_text : Output → List ℕ
output_text (output.Tokens tokens) = tokens_text tokens
output_text (output.Tree text) = text
