-- How a source is read, and why it isn't: an account of what `parse` does, beside what is true of trees.
use Rattle.std.specs.Prelude.{ℕ, zero, suc, List, [], ◌∷◌, Bool, true, false, ◌&&◌, ◌||◌, not, if◌then◌else◌, codes, Option, Some, None}
use Rattle.std.specs.List.{list_any}
use Rattle.std.specs.Str.{bytes_eq}
use Rattle.qs_lexer.specs.declared.token.Token.{Token}
use Rattle.qs_lexer.specs.declared.token.TokenKind.{TokenKind}
use Rattle.qs_lexer.specs.declared.token.TokenKind.TheVariants as kind
use Rattle.qs_tree.specs.declared.statement.Stmt.{Stmt}
use Rattle.qs_tree.specs.WellFormed.{is_version, limits, twice_limits}
use Rattle.qs_parser.specs.Language.{left_out}
use Rattle.qs_parser.specs.declared.refusal.ParseRefusal.{ParseRefusal}
use Rattle.qs_parser.specs.declared.refusal.ParseRefusal.TheVariants.{NoStatement, TooDeep, Unsupported, VersionUnknown}
use Rattle.qs_parser.specs.steps.Tokens.{after_sign, begins_sign, has_word, is_word}
use Rattle.qs_parser.specs.steps.Globals.{statement_at}

-- whether a token is a version's number
abbrev pub is_number : TokenKind → Bool
is_number (kind.Whole value) = true
is_number (kind.Decimal value) = true
is_number other = false

-- the version of a source, and the tokens after its line
abbrev pub version_at : List Token → Option (List ℕ) × List Token
version_at [] = (None, [])
version_at (t ∷ []) = (None, t ∷ [])
version_at (t ∷ number ∷ ts) =
    if is_word (codes "OPENQASM") t && is_number number.kind && is_version number.text && begins_sign (codes ";") ts
    then elim (after_sign (codes ";") ts) [ Some rest ↦ (Some number.text, rest) | None ↦ (None, t ∷ number ∷ ts) ]
    else (None, t ∷ number ∷ ts)

-- whether a version line begins whose number is no known version
abbrev pub unknown_version : List Token → Bool
unknown_version [] = false
unknown_version (t ∷ []) = false
unknown_version (t ∷ number ∷ ts) = is_word (codes "OPENQASM") t && is_number number.kind && not (is_version number.text)

-- the statements at the front, in so many turns at most, and the rest
unfoldable pub statements_at : ℕ → List Token → List Stmt × List Token
statements_at zero ts = ([], ts)
statements_at (suc n) ts = elim (statement_at limits.depth limits.operators ts) [
  | None ↦ ([], ts)
  | Some s ↦ let others = statements_at n s.1 in (s.0 ∷ others.0, others.1)
]

-- whether a token is a word that is left out
abbrev pub is_left_out_word : Token → Bool
is_left_out_word t = has_word t.kind && list_any (bytes_eq t.text) left_out

-- the word at the front that is left out, or the one after `const`, `input` or `output`
abbrev pub unsupported : List Token → Option (List ℕ)
unsupported [] = None
unsupported (t ∷ ts) =
    if is_left_out_word t then Some t.text
    else if is_word (codes "const") t || is_word (codes "input") t || is_word (codes "output") t then second ts
    else None
  where
    second : List Token → Option (List ℕ)
    second [] = None
    second (u ∷ us) = if is_left_out_word u then Some u.text else None

-- why these tokens have no tree, by the rest that begins with this one
unfoldable pub refusal_of : List Token → Token → List Token → ParseRefusal
refusal_of tokens t rest =
    if unknown_version tokens then VersionUnknown t.span
    else elim (unsupported rest) [
      | Some word ↦ Unsupported t.span word
      | None ↦ elim (statement_at twice_limits.depth twice_limits.operators rest) [ Some s ↦ TooDeep t.span | None ↦ NoStatement t.span ]
    ]
