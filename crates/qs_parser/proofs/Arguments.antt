-- Arguments of a call, by what is read one construct deeper.
use Rattle.std.proofs.Common.{◌≡◌, ℕ, zero, suc, ◌+◌, true, false, codes, drop, List, [], Option, Some, None, refl, arith}
use Rattle.qs_lexer.specs.declared.token.Token.{Token}
use Rattle.qs_tree.specs.declared.expr.Expr.{Expr}
use Rattle.qs_parser.specs.steps.Tokens.{◌>>=◌, Readers, Reads, after_sign, begins_sign, commas}
use Rattle.qs_parser.specs.steps.Asking.{deeper_whole}
use Rattle.qs_parser.specs.steps.Expressions.{args_at, args_to}
use Rattle.qs_parser.specs.steps.Knot.{below, readers}
use Rattle.qs_parser.proofs.ItemByItem.{drop_next, no_sign_here, sign_here}

-- what is listed up to a closing bracket, or the bracket alone, where these are the tokens after it
abbrev pub listed_to : Option (List Token) → (ℕ → List Token → Reads Expr) → ℕ → List Token → Reads (List Expr)
listed_to (Some after) item left ts = Some ([], left, after)
listed_to None item left ts = do
  es ← commas item left ts
  after ← after_sign (codes ")") es.2
  Some (es.0, es.1, after)

pub args_unopened : (b : Option Readers) (renew left : ℕ) (ts : List Token) → after_sign (codes "(") ts ≡ None → args_at b renew left ts ≡ None
unfolding args_at
args_unopened b renew left ts e = rw e refl

pub args_none : (depth renew left : ℕ) (ts : List Token) → depth ≡ 0 → args_at (below depth) renew left ts ≡ None
unfolding below args_at
args_none zero renew left ts e = none_after (after_sign (codes "(") ts)
  where
    none_after : (r : Option (List Token)) → (r >>= λ (rest : List Token). None >>= λ (b : Readers). args_to (after_sign (codes ")") rest) b renew left rest) ≡ None
    none_after None = refl
    none_after (Some rest) = refl
args_none (suc d) renew left ts e = absurd (omega (arith, e))

listed_as : (after : Option (List Token)) (b : Readers) (renew left : ℕ) (ts : List Token) → args_to after b renew left ts ≡ listed_to after (deeper_whole (Some b) renew) left ts
unfolding args_to
listed_as None b renew left ts = refl
listed_as (Some after) b renew left ts = refl

pub args_as : (depth renew left : ℕ) (ts rest : List Token) → ¬ (depth ≡ 0) → after_sign (codes "(") ts ≡ Some rest → args_at (below depth) renew left ts ≡ listed_to (after_sign (codes ")") rest) (deeper_whole (below depth) renew) left rest
unfolding below args_at
args_as zero renew left ts rest n e = absurd (n refl)
args_as (suc d) renew left ts rest n e = rw e (listed_as (after_sign (codes ")") rest) (readers (below d)) renew left rest)

pub args_closed : (item : ℕ → List Token → Reads Expr) (left at : ℕ) (tokens : List Token) → begins_sign (codes ")") (drop at tokens) ≡ true
    → listed_to (after_sign (codes ")") (drop at tokens)) item left (drop at tokens) ≡ Some ([], left, drop (at + 1) tokens)
args_closed item left at tokens e = rw (sign_here (codes ")") (drop at tokens) e, drop_next at tokens) refl

pub args_unlisted : (item : ℕ → List Token → Reads Expr) (left : ℕ) (ts : List Token) → begins_sign (codes ")") ts ≡ false → commas item left ts ≡ None
    → listed_to (after_sign (codes ")") ts) item left ts ≡ None
args_unlisted item left ts e r = rw (no_sign_here (codes ")") ts e, r) refl

pub args_unclosed : (item : ℕ → List Token → Reads Expr) (left : ℕ) (ts : List Token) (es : List Expr) (l : ℕ) (rest : List Token) → begins_sign (codes ")") ts ≡ false → commas item left ts ≡ Some (es, l, rest)
    → after_sign (codes ")") rest ≡ None → listed_to (after_sign (codes ")") ts) item left ts ≡ None
args_unclosed item left ts es l rest e r p = rw (no_sign_here (codes ")") ts e, r, p) refl

pub args_listed : (item : ℕ → List Token → Reads Expr) (left : ℕ) (ts : List Token) (es : List Expr) (l : ℕ) (rest after : List Token) → begins_sign (codes ")") ts ≡ false → commas item left ts ≡ Some (es, l, rest)
    → after_sign (codes ")") rest ≡ Some after → listed_to (after_sign (codes ")") ts) item left ts ≡ Some (es, l, after)
args_listed item left ts es l rest after e r p = rw (no_sign_here (codes ")") ts e, r, p) refl
