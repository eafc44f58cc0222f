-- How an expression is read: an account of what the readers do, beside what is true of trees.
use Rattle.std.specs.Prelude.{ℕ, zero, suc, nat_eq, List, [], ◌∷◌, length, Bool, true, false, ◌&&◌, if◌then◌else◌, codes, Option, Some, None}
use Rattle.std.specs.Str.{bytes_eq}
use Rattle.qs_values.specs.Names.{is_name}
use Rattle.qs_values.specs.declared.span.Span.{Span}
use Rattle.qs_lexer.specs.declared.token.Token.{Token}
use Rattle.qs_lexer.specs.declared.token.TokenKind.TheVariants as kind
use Rattle.qs_tree.specs.declared.operator.UnOp.{UnOp}
use Rattle.qs_tree.specs.declared.operator.UnOp.TheVariants.{Not, Neg, Invert}
use Rattle.qs_tree.specs.declared.operator.BinOp.{BinOp}
use Rattle.qs_tree.specs.declared.operator.BinOp.TheVariants.{Power, Mul, Div, Rem, Add, Sub, ShiftLeft, ShiftRight, Less, LessEqual, Greater, GreaterEqual, Equal, NotEqual, BitAnd, BitXor, BitOr, And, Or}
use Rattle.qs_tree.specs.declared.expr.TypeWord.{TypeWord}
use Rattle.qs_tree.specs.declared.expr.TypeWord.TheVariants.{Bit, Int, Uint, Angle, Bool as BoolWord, Duration}
use Rattle.qs_tree.specs.declared.expr.Expr.{Expr}
use Rattle.qs_tree.specs.declared.expr.TypeExpr.{TypeExpr, roll-TypeExpr}
use Rattle.qs_tree.specs.declared.expr.ExprKind.{ExprKind}
use Rattle.qs_tree.specs.declared.expr.ExprKind.TheVariants.{Whole, Decimal, Time, Text, Truth, Name, Index, Physical, Call, Cast, DurationOf, Group, Unary, Binary}
use Rattle.qs_parser.specs.steps.Tokens.{◌>>=◌, Readers, Reads, after_sign, commas, begins_sign, has_sign, is_sign, one_less, renewed}

-- an expression at its first token
abbrev pub placed : Span → ExprKind → Expr
placed span kind = record { span = span; kind = kind }

-- an expression one construct deeper, and the sign of the bracket after it
unfoldable pub closed : List ℕ → Option Readers → (renew left : ℕ) → List Token → Reads Expr
closed after below renew left ts = do
  b ← below
  e ← renewed renew (b.expr left ts)
  rest ← after_sign after e.2
  Some (e.0, e.1, rest)

-- an expression in brackets of two signs
unfoldable pub enclosed : List ℕ → List ℕ → Option Readers → (renew left : ℕ) → List Token → Reads Expr
enclosed before after below renew left ts = do
  rest ← after_sign before ts
  closed after below renew left rest

-- expressions with commas between up to a closing bracket, or the bracket alone, where these are the tokens after it
unfoldable pub args_to : Option (List Token) → Readers → (renew left : ℕ) → List Token → Reads (List Expr)
args_to (Some after) b renew left ts = Some ([], left, after)
args_to None b renew left ts = do
  es ← commas (λ l us. renewed renew (b.expr l us)) left ts
  after ← after_sign (codes ")") es.2
  Some (es.0, es.1, after)

-- expressions in brackets, with commas between, or none
unfoldable pub args_at : Option Readers → (renew left : ℕ) → List Token → Reads (List Expr)
args_at below renew left ts = do
  rest ← after_sign (codes "(") ts
  b ← below
  args_to (after_sign (codes ")") rest) b renew left rest

-- the type of a word
abbrev pub type_word : List ℕ → Option TypeWord
type_word text =
    if bytes_eq text (codes "bit") then Some Bit
    else if bytes_eq text (codes "int") then Some Int
    else if bytes_eq text (codes "uint") then Some Uint
    else if bytes_eq text (codes "angle") then Some Angle
    else if bytes_eq text (codes "bool") then Some BoolWord
    else if bytes_eq text (codes "duration") then Some Duration
    else None

-- whether a type may have a width
abbrev pub has_width : TypeWord → Bool
has_width BoolWord = false
has_width Duration = false
has_width word = true

-- a type of this word, which begins here; the tokens after the word
unfoldable pub type_of : Option Readers → (renew left : ℕ) → Span → TypeWord → List Token → Reads TypeExpr
type_of below renew left span word ts =
    if has_width word && begins_sign (codes "[") ts
    then (do
      width ← enclosed (codes "[") (codes "]") below renew left ts
      Some (roll-TypeExpr (record { span = span; word = word; width = Some width.0 }), width.1, width.2))
    else Some (roll-TypeExpr (record { span = span; word = word; width = None }), left, ts)

-- the length of statements, after the word
unfoldable pub duration_at : Option Readers → (left : ℕ) → List Token → Reads ExprKind
duration_at below left ts = do
  rest ← after_sign (codes "(") ts
  b ← below
  body ← b.block 0 left rest
  after ← after_sign (codes ")") body.2
  Some (DurationOf body.0, body.1, after)

-- a cast to a type of this word, which begins here; the tokens after the word
unfoldable pub cast_at : Option Readers → (left : ℕ) → Span → TypeWord → List Token → Reads ExprKind
cast_at below left span word ts = do
  type ← type_of below 0 left span word ts
  e ← enclosed (codes "(") (codes ")") below 0 type.1 type.2
  Some (Cast type.0 e.0, e.1, e.2)

-- what begins with a name; the tokens after it
unfoldable pub named_at : Option Readers → (left : ℕ) → List ℕ → List Token → Reads ExprKind
named_at below left name ts =
    if begins_sign (codes "[") ts then (do
      e ← enclosed (codes "[") (codes "]") below 0 left ts
      Some (Index name e.0, e.1, e.2))
    else if begins_sign (codes "(") ts then (do
      es ← args_at below 0 left ts
      Some (Call name es.0, es.1, es.2))
    else Some (Name name, left, ts)

-- an expression that begins with a word; the tokens after it
unfoldable pub word_at : Option Readers → (left : ℕ) → Span → List ℕ → List Token → Reads ExprKind
word_at below left span text ts =
    if bytes_eq text (codes "true") then Some (Truth true, left, ts)
    else if bytes_eq text (codes "false") then Some (Truth false, left, ts)
    else if bytes_eq text (codes "durationof") then duration_at below left ts
    else elim (type_word text) [
      | Some word ↦ cast_at below left span word ts
      | None ↦ if is_name text then named_at below left text ts else None
    ]

-- an expression in brackets, at the first of them
unfoldable pub group_at : Option Readers → (left : ℕ) → Token → List Token → Reads ExprKind
group_at below left t ts = if is_sign (codes "(") t then (do
  e ← closed (codes ")") below 0 left ts
  Some (Group e.0, e.1, e.2)) else None

-- what an expression that binds most tightly is, at its first token and the tokens after it
unfoldable pub kind_at : Option Readers → (left : ℕ) → Token → List Token → Reads ExprKind
kind_at below left t ts = elim t.kind [
  | kind.Word ↦ word_at below left t.span t.text ts
  | kind.Physical number ↦ Some (Physical number, left, ts)
  | kind.Whole value ↦ Some (Whole value, left, ts)
  | kind.Decimal value ↦ Some (Decimal value, left, ts)
  | kind.Time value unit ↦ Some (Time value unit, left, ts)
  | kind.Text ↦ Some (Text t.text, left, ts)
  | kind.Sign ↦ group_at below left t ts
]

-- what binds most tightly
unfoldable pub primary : Option Readers → (left : ℕ) → List Token → Reads Expr
primary below left [] = None
primary below left (t ∷ ts) = do
  e ← kind_at below left t ts
  Some (placed t.span e.0, e.1, e.2)

-- the operator of a sign before an operand
abbrev pub un_op : List ℕ → Option UnOp
un_op text =
    if bytes_eq text (codes "!") then Some Not
    else if bytes_eq text (codes "-") then Some Neg
    else if bytes_eq text (codes "~") then Some Invert
    else None

-- the operator before an operand at the front
abbrev pub un_op_at : List Token → Option UnOp
un_op_at [] = None
un_op_at (t ∷ ts) = if has_sign t.kind then un_op t.text else None

-- an operator and its operand
unfoldable pub signed : UnOp → Option Readers → (left : ℕ) → List Token → Reads Expr
signed op below left [] = None
signed op below left (t ∷ ts) = do
  b ← below
  fewer ← one_less left
  e ← b.unary fewer ts
  Some (placed t.span (Unary op e.0), e.1, e.2)

-- a power with this base, by the reader of its right operand
unfoldable pub raised : Option ((left : ℕ) → List Token → Reads Expr) → Expr → (left : ℕ) → List Token → Reads Expr
raised None base left ts = None
raised (Some right) base left ts = do
  fewer ← one_less left
  e ← right fewer ts
  Some (placed base.span (Binary base Power e.0), e.1, e.2)

-- what binds most tightly, or a power of it, by the reader of its right operand
unfoldable pub power : Option ((left : ℕ) → List Token → Reads Expr) → Option Readers → (left : ℕ) → List Token → Reads Expr
power right below left ts = do
  base ← primary below left ts
  elim (after_sign (codes "**") base.2) [ None ↦ Some base | Some rest ↦ raised right base.0 base.1 rest ]

-- an operator and its operand, or what binds more tightly, by the reader of a power's right operand
unfoldable pub tight : Option ((left : ℕ) → List Token → Reads Expr) → Option Readers → (left : ℕ) → List Token → Reads Expr
tight right below left ts = elim (un_op_at ts) [ Some op ↦ signed op below left ts | None ↦ power right below left ts ]

-- the same, with so many powers to the right of each other at most
unfoldable pub unary : ℕ → Option Readers → (left : ℕ) → List Token → Reads Expr
unary zero below left ts = tight None below left ts
unary (suc n) below left ts = tight (Some (unary n below)) below left ts

-- the operator of a sign between two operands, by how many levels of operators bind more tightly
abbrev pub bin_op : ℕ → List ℕ → Option BinOp
bin_op n text =
    if nat_eq n 0 then (if bytes_eq text (codes "*") then Some Mul else if bytes_eq text (codes "/") then Some Div else if bytes_eq text (codes "%") then Some Rem else None)
    else if nat_eq n 1 then (if bytes_eq text (codes "+") then Some Add else if bytes_eq text (codes "-") then Some Sub else None)
    else if nat_eq n 2 then (if bytes_eq text (codes "<<") then Some ShiftLeft else if bytes_eq text (codes ">>") then Some ShiftRight else None)
    else if nat_eq n 3 then (if bytes_eq text (codes "<") then Some Less else if bytes_eq text (codes "<=") then Some LessEqual else if bytes_eq text (codes ">") then Some Greater else if bytes_eq text (codes ">=") then Some GreaterEqual else None)
    else if nat_eq n 4 then (if bytes_eq text (codes "==") then Some Equal else if bytes_eq text (codes "!=") then Some NotEqual else None)
    else if nat_eq n 5 then (if bytes_eq text (codes "&") then Some BitAnd else None)
    else if nat_eq n 6 then (if bytes_eq text (codes "^") then Some BitXor else None)
    else if nat_eq n 7 then (if bytes_eq text (codes "|") then Some BitOr else None)
    else if nat_eq n 8 then (if bytes_eq text (codes "&&") then Some And else None)
    else if nat_eq n 9 then (if bytes_eq text (codes "||") then Some Or else None)
    else None

-- such an operator, and the tokens after it
abbrev pub bin_op_at : ℕ → List Token → Option (BinOp × List Token)
bin_op_at n [] = None
bin_op_at n (t ∷ ts) = if has_sign t.kind then (do
  op ← bin_op n t.text
  Some (op, ts)) else None

-- an operand with more operators of a level and their right operands, in so many turns at most
unfoldable pub chained : ℕ → ℕ → ((left : ℕ) → List Token → Reads Expr) → Expr → (left : ℕ) → List Token → Reads Expr
chained zero n operand e left ts = Some (e, left, ts)
chained (suc m) n operand e left ts = elim (bin_op_at n ts) [
  | None ↦ Some (e, left, ts)
  | Some op ↦ do
    fewer ← one_less left
    right ← operand fewer op.1
    chained m n operand (placed e.span (Binary e op.0 right.0)) right.1 right.2
]

-- an expression of operators of so many levels
unfoldable pub binary : ℕ → Option Readers → (left : ℕ) → List Token → Reads Expr
binary zero below left ts = unary left below left ts
binary (suc n) below left ts = do
  e ← binary n below left ts
  chained (length e.2) n (binary n below) e.0 e.1 e.2

-- how many levels of operators there are, but for `**` and the operators before an operand
abbrev pub levels : ℕ
levels = 10

-- an expression
unfoldable pub expr_at : Option Readers → (left : ℕ) → List Token → Reads Expr
expr_at below left ts = binary levels below left ts

-- an expression, after which so many operators may come at least
unfoldable pub whole_at : Option Readers → (renew left : ℕ) → List Token → Reads Expr
whole_at below renew left ts = renewed renew (expr_at below left ts)
