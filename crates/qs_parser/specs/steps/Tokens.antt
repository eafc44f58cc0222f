-- How tokens are read one by one: an account of what the readers do, beside what is true of trees.
use Rattle.std.specs.Prelude.{◌≡◌, ℕ, zero, suc, max, List, [], ◌∷◌, length, Bool, true, false, ◌&&◌, if◌then◌else◌, codes, Option, Some, None, Result, Ok, Err}
use Rattle.std.specs.Str.{bytes_eq}
use Rattle.qs_values.specs.Names.{is_name}
use Rattle.qs_lexer.specs.declared.token.Token.{Token}
use Rattle.qs_lexer.specs.declared.token.TokenKind.{TokenKind}
use Rattle.qs_lexer.specs.declared.token.TokenKind.TheVariants as kind
use Rattle.qs_tree.specs.declared.expr.Expr.{Expr}
use Rattle.qs_tree.specs.declared.name.Ident.{Ident}
use Rattle.qs_tree.specs.declared.statement.Stmt.{Stmt}
use Rattle.qs_parser.specs.declared.stop.Stop.{Stop}
use Rattle.qs_parser.specs.declared.stop.Stop.TheVariants.{Unread, Memory}

infixl 10 ◌>>=◌
abbrev pub ◌>>=◌ : {A B : Type 0} → Option A → (A → Option B) → Option B
None >>= f = None
(Some x) >>= f = f x

-- what a function answered, seen by view, is what is read, unless memory ran out
abbrev pub Stops : {Y : Type 0} → Stop → Option Y → Type 0
Stops Memory read = Unit {0}
Stops Unread read = read ≡ None

abbrev pub Gives : {X Y : Type 0} → (X → Y) → Result X Stop → Option Y → Type 0
Gives view (Ok x) read = read ≡ Some (view x)
Gives view (Err stop) read = Stops stop read

-- what is read at the front, how many operators may still come, and the tokens after it
abbrev pub Reads : Type 0 → Type 0
Reads T = Option (T × ℕ × List Token)

-- one less, where there is one
abbrev pub one_less : ℕ → Option ℕ
one_less zero = None
one_less (suc n) = Some n

-- whether a token is of the kind of words, or of signs
abbrev pub has_word : TokenKind → Bool
has_word kind.Word = true
has_word other = false

abbrev pub has_sign : TokenKind → Bool
has_sign kind.Sign = true
has_sign other = false

-- whether a token is this word, or this sign
abbrev pub is_word : List ℕ → Token → Bool
is_word text t = has_word t.kind && bytes_eq t.text text

abbrev pub is_sign : List ℕ → Token → Bool
is_sign text t = has_sign t.kind && bytes_eq t.text text

-- whether the tokens begin with this word, or with this sign
abbrev pub begins_word : List ℕ → List Token → Bool
begins_word text [] = false
begins_word text (t ∷ ts) = is_word text t

abbrev pub begins_sign : List ℕ → List Token → Bool
begins_sign text [] = false
begins_sign text (t ∷ ts) = is_sign text t

-- the tokens after this word, or after this sign, where they begin with it
abbrev pub after_word : List ℕ → List Token → Option (List Token)
after_word text [] = None
after_word text (t ∷ ts) = if is_word text t then Some ts else None

abbrev pub after_sign : List ℕ → List Token → Option (List Token)
after_sign text [] = None
after_sign text (t ∷ ts) = if is_sign text t then Some ts else None

-- a name, and the tokens after it
abbrev pub name_at : List Token → Option (Ident × List Token)
name_at [] = None
name_at (t ∷ ts) = if has_word t.kind && is_name t.text then Some (record { span = t.span; name = t.text }, ts) else None

-- What is read one construct deeper: `renew` is how many operators an expression may have at least, which is none inside an expression.
pub record Readers : Type 0 where
  pub expr : (left : ℕ) → List Token → Reads Expr
  pub unary : (left : ℕ) → List Token → Reads Expr
  pub stmt : (renew left : ℕ) → List Token → Reads Stmt
  pub nested : (renew left : ℕ) → List Token → Reads Stmt
  pub block : (renew left : ℕ) → List Token → Reads (List Stmt)

-- the expression of a reader, after which so many operators may come at least
abbrev pub renewed : ℕ → Reads Expr → Reads Expr
renewed renew None = None
renewed renew (Some e) = Some (e.0, max e.1 renew, e.2)

-- what more is read after commas, in so many turns at most
unfoldable pub after_commas : {A : Type 0} → ℕ → ((left : ℕ) → List Token → Reads A) → ℕ → List Token → Reads (List A)
after_commas zero item left ts = Some ([], left, ts)
after_commas (suc n) item left ts = elim (after_sign (codes ",") ts) [
  | None ↦ Some ([], left, ts)
  | Some rest ↦ do
    x ← item left rest
    xs ← after_commas n item x.1 x.2
    Some (x.0 ∷ xs.0, xs.1, xs.2)
]

-- what is read with commas between
abbrev pub commas : {A : Type 0} → ((left : ℕ) → List Token → Reads A) → ℕ → List Token → Reads (List A)
commas item left ts = do
  x ← item left ts
  xs ← after_commas (length x.2) item x.1 x.2
  Some (x.0 ∷ xs.0, xs.1, xs.2)

-- what is read up to a closing brace, in so many turns at most, and the tokens after the brace
unfoldable pub up_to_brace : {A : Type 0} → ℕ → ((left : ℕ) → List Token → Reads A) → ℕ → List Token → Reads (List A)
up_to_brace zero item left ts = None
up_to_brace (suc n) item left ts = elim (after_sign (codes "}") ts) [
  | Some rest ↦ Some ([], left, rest)
  | None ↦ do
    x ← item left ts
    xs ← up_to_brace n item x.1 x.2
    Some (x.0 ∷ xs.0, xs.1, xs.2)
]
