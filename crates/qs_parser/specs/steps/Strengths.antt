-- Which level's operator stands after an operand: an account of what the readers do.
use Rattle.std.specs.Prelude.{ℕ, List, [], ◌∷◌, ◌||◌, if◌then◌else◌, codes}
use Rattle.std.specs.Str.{bytes_eq}
use Rattle.qs_lexer.specs.declared.token.Token.{Token}
use Rattle.qs_parser.specs.steps.Tokens.{has_sign}

-- how many levels of operators bind more tightly than the one of a sign between two operands, or ten of any other sign
abbrev pub strength : List ℕ → ℕ
strength text =
    if bytes_eq text (codes ")") || bytes_eq text (codes ",") || bytes_eq text (codes ";") || bytes_eq text (codes "]") then 10
    else if bytes_eq text (codes "*") || bytes_eq text (codes "/") || bytes_eq text (codes "%") then 0
    else if bytes_eq text (codes "+") || bytes_eq text (codes "-") then 1
    else if bytes_eq text (codes "<<") || bytes_eq text (codes ">>") then 2
    else if bytes_eq text (codes "<") || bytes_eq text (codes "<=") || bytes_eq text (codes ">") || bytes_eq text (codes ">=") then 3
    else if bytes_eq text (codes "==") || bytes_eq text (codes "!=") then 4
    else if bytes_eq text (codes "&") then 5
    else if bytes_eq text (codes "^") then 6
    else if bytes_eq text (codes "|") then 7
    else if bytes_eq text (codes "&&") then 8
    else if bytes_eq text (codes "||") then 9
    else 10

-- the same of the token at the front
abbrev pub strength_at : List Token → ℕ
strength_at [] = 10
strength_at (t ∷ ts) = if has_sign t.kind then strength t.text else 10
