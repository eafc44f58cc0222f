-- Operators and their operands, step by step.
use Rattle.std.proofs.Common.{◌≡◌, ℕ, zero, suc, ◌+◌, ◌-◌, ◌<◌, true, false, codes, drop, length, List, Option, Some, None, refl, sym, ap, ◌∙◌, subst, arith}
use Rattle.qs_lexer.specs.declared.token.Token.{Token}
use Rattle.qs_tree.specs.declared.expr.Expr.{Expr}
use Rattle.qs_tree.specs.declared.expr.ExprKind.TheVariants.{Binary}
use Rattle.qs_tree.specs.declared.operator.BinOp.{BinOp}
use Rattle.qs_tree.specs.declared.operator.BinOp.TheVariants.{Power}
use Rattle.qs_tree.specs.declared.operator.UnOp.{UnOp}
use Rattle.qs_parser.specs.steps.Tokens.{◌>>=◌, Readers, Reads, after_sign, begins_sign, one_less}
use Rattle.qs_parser.specs.steps.Expressions.{bin_op_at, binary, chained, placed, power, primary, raised, signed, tight, un_op_at, unary}
use Rattle.qs_parser.specs.steps.Powers.{right_of}
use Rattle.qs_parser.proofs.ItemByItem.{drop_next, no_sign_here, sign_here}

-- an operand, by the operator before it
unary_as : (n : ℕ) (b : Option Readers) (left : ℕ) (ts : List Token) → unary n b left ts ≡ tight (right_of n b) b left ts
unfolding unary
unary_as zero b left ts = refl
unary_as (suc n) b left ts = refl

tight_found : (right : Option ((left : ℕ) → List Token → Reads Expr)) (b : Option Readers) (left : ℕ) (ts : List Token) (found : Option UnOp) → un_op_at ts ≡ found
    → tight right b left ts ≡ elim found [ Some op ↦ signed op b left ts | None ↦ power right b left ts ]
unfolding tight
tight_found right b left ts found e = ap (λ (o : Option UnOp). elim o [ Some op ↦ signed op b left ts | None ↦ power right b left ts ]) e

unary_found : (n : ℕ) (b : Option Readers) (left : ℕ) (ts : List Token) (found : Option UnOp) → un_op_at ts ≡ found
    → unary n b left ts ≡ elim found [ Some op ↦ signed op b left ts | None ↦ power (right_of n b) b left ts ]
unary_found n b left ts found e = unary_as n b left ts ∙ tight_found (right_of n b) b left ts found e

-- a power, by the sign after its base
power_found : (right : Option ((left : ℕ) → List Token → Reads Expr)) (b : Option Readers) (left : ℕ) (ts : List Token) (x : Expr) (l : ℕ) (rest : List Token) (found : Option (List Token)) → primary b left ts ≡ Some (x, l, rest) → after_sign (codes "**") rest ≡ found
    → power right b left ts ≡ elim found [ None ↦ Some (x, l, rest) | Some us ↦ raised right x l us ]
unfolding power
power_found right b left ts x l rest found p q =
    ap (λ (r : Reads Expr). r >>= λ base. elim (after_sign (codes "**") base.2) [ None ↦ Some base | Some us ↦ raised right base.0 base.1 us ]) p
    ∙ ap (λ (r : Option (List Token)). elim r [ None ↦ Some (x, l, rest) | Some us ↦ raised right x l us ]) q

-- an operator before an operand, however many powers there may be
pub unary_signed : (n : ℕ) (op : UnOp) (b : Option Readers) (left : ℕ) (ts : List Token) → un_op_at ts ≡ Some op → unary n b left ts ≡ signed op b left ts
unary_signed n op b left ts e = unary_found n b left ts (Some op) e

-- and none
pub unary_power : (n : ℕ) (b : Option Readers) (left : ℕ) (ts : List Token) → un_op_at ts ≡ None → unary n b left ts ≡ power (right_of n b) b left ts
unary_power n b left ts e = unary_found n b left ts None e

-- what binds most tightly isn't read, or stands alone
pub power_stops : (right : Option (ℕ → List Token → Reads Expr)) (b : Option Readers) (left : ℕ) (ts : List Token) → primary b left ts ≡ None → power right b left ts ≡ None
unfolding power
power_stops right b left ts p = rw p refl

pub power_base : (right : Option (ℕ → List Token → Reads Expr)) (b : Option Readers) (left : ℕ) (ts : List Token) (x : Expr) (l : ℕ) (rest : List Token) → primary b left ts ≡ Some (x, l, rest)
    → begins_sign (codes "**") rest ≡ false → power right b left ts ≡ Some (x, l, rest)
power_base right b left ts x l rest p s = power_found right b left ts x l rest None p (no_sign_here (codes "**") rest s)

-- a power where there may be none
no_right : (base : Expr) (n : ℕ) (us : List Token) → raised None base n us ≡ None
unfolding raised
no_right base n us = refl

pub power_spent : (n : ℕ) (b : Option Readers) (left : ℕ) (ts : List Token) (x : Expr) (l : ℕ) (rest : List Token) → primary b left ts ≡ Some (x, l, rest)
    → begins_sign (codes "**") rest ≡ true → n ≡ 0 → power (right_of n b) b left ts ≡ None
power_spent zero b left ts x l rest p s k = power_found None b left ts x l rest (Some (drop 1 rest)) p (sign_here (codes "**") rest s) ∙ no_right x l (drop 1 rest)
power_spent (suc n) b left ts x l rest p s k = absurd (omega (arith, k))

-- a power, by the reader of its right operand
pub power_goes : (n : ℕ) (b : Option Readers) (left at : ℕ) (ts tokens : List Token) (x : Expr) (l : ℕ) → primary b left ts ≡ Some (x, l, drop at tokens)
    → begins_sign (codes "**") (drop at tokens) ≡ true → ¬ (n ≡ 0) → power (right_of n b) b left ts ≡ raised (Some (unary (n - 1) b)) x l (drop (at + 1) tokens)
power_goes zero b left at ts tokens x l p s k = absurd (k refl)
power_goes (suc n) b left at ts tokens x l p s k =
    let same : suc n - 1 ≡ n = omega arith in
    power_found (Some (unary n b)) b left ts x l (drop at tokens) (Some (drop 1 (drop at tokens))) p (sign_here (codes "**") (drop at tokens) s)
    ∙ ap (λ (us : List Token). raised (Some (unary n b)) x l us) (drop_next at tokens)
    ∙ ap (λ (m : ℕ). raised (Some (unary m b)) x l (drop (at + 1) tokens)) (sym same)

pub raised_stops : (right : ℕ → List Token → Reads Expr) (base : Expr) (left : ℕ) (ts : List Token) → one_less left ≡ None → raised (Some right) base left ts ≡ None
unfolding raised
raised_stops right base left ts e = rw e refl

pub raised_unread : (right : ℕ → List Token → Reads Expr) (base : Expr) (left fewer : ℕ) (ts : List Token) → one_less left ≡ Some fewer → right fewer ts ≡ None → raised (Some right) base left ts ≡ None
unfolding raised
raised_unread right base left fewer ts e r = rw (e, r) refl

pub raised_as : (right : ℕ → List Token → Reads Expr) (base : Expr) (left fewer : ℕ) (ts : List Token) (x : Expr) (l : ℕ) (rest : List Token) → one_less left ≡ Some fewer → right fewer ts ≡ Some (x, l, rest)
    → raised (Some right) base left ts ≡ Some (placed base.span (Binary base Power x), l, rest)
unfolding raised
raised_as right base left fewer ts x l rest e r = rw (e, r) refl

-- a turn of a chain, by the operator that stands there
chain_found : (m n : ℕ) (operand : (left : ℕ) → List Token → Reads Expr) (x : Expr) (left : ℕ) (ts : List Token) (found : Option (BinOp × List Token)) → bin_op_at n ts ≡ found
    → chained (suc m) n operand x left ts ≡ elim found [
      | None ↦ Some (x, left, ts)
      | Some op ↦ do
        fewer ← one_less left
        right ← operand fewer op.1
        chained m n operand (placed x.span (Binary x op.0 right.0)) right.1 right.2
    ]
unfolding chained
chain_found m n operand x left ts found e =
    ap (λ (o : Option (BinOp × List Token)). elim o [
      | None ↦ Some (x, left, ts)
      | Some op ↦ do
        fewer ← one_less left
        right ← operand fewer op.1
        chained m n operand (placed x.span (Binary x op.0 right.0)) right.1 right.2
    ]) e

-- an operand, where no operator of the level comes after it
pub chain_ends : (m n : ℕ) (operand : ℕ → List Token → Reads Expr) (x : Expr) (left : ℕ) (ts : List Token) (whole : Reads Expr)
    → whole ≡ chained m n operand x left ts → bin_op_at n ts ≡ None → whole ≡ Some (x, left, ts)
unfolding chained
chain_ends zero n operand x left ts whole w e = w
chain_ends (suc m) n operand x left ts whole w e = w ∙ chain_found m n operand x left ts None e

-- the same, where no turn is left
pub chain_spent : (m n : ℕ) (operand : ℕ → List Token → Reads Expr) (x : Expr) (left : ℕ) (ts : List Token) (whole : Reads Expr)
    → whole ≡ chained m n operand x left ts → m ≡ 0 → whole ≡ Some (x, left, ts)
unfolding chained
chain_spent zero n operand x left ts whole w k = w
chain_spent (suc m) n operand x left ts whole w k = absurd (omega (arith, k))

-- an operator more than may come
pub chain_stops : (m n : ℕ) (operand : ℕ → List Token → Reads Expr) (x : Expr) (left : ℕ) (ts rest : List Token) (op : BinOp) (whole : Reads Expr)
    → whole ≡ chained m n operand x left ts → 0 < m → bin_op_at n ts ≡ Some (op, rest) → one_less left ≡ None → whole ≡ None
unfolding chained
chain_stops zero n operand x left ts rest op whole w k e f = absurd (omega (arith, k))
chain_stops (suc m) n operand x left ts rest op whole w k e f = w ∙ chain_found m n operand x left ts (Some (op, rest)) e ∙ rw f refl

-- an operator whose right operand isn't read
pub chain_unread : (m n : ℕ) (operand : ℕ → List Token → Reads Expr) (x : Expr) (left fewer : ℕ) (ts rest : List Token) (op : BinOp) (whole : Reads Expr)
    → whole ≡ chained m n operand x left ts → 0 < m → bin_op_at n ts ≡ Some (op, rest) → one_less left ≡ Some fewer → operand fewer rest ≡ None → whole ≡ None
unfolding chained
chain_unread zero n operand x left fewer ts rest op whole w k e f r = absurd (omega (arith, k))
chain_unread (suc m) n operand x left fewer ts rest op whole w k e f r = w ∙ chain_found m n operand x left ts (Some (op, rest)) e ∙ rw (f, r) refl

-- one operator more
pub chain_goes : (m k n : ℕ) (operand : ℕ → List Token → Reads Expr) (x y z : Expr) (left fewer l : ℕ) (ts rest us : List Token) (op : BinOp) (whole : Reads Expr)
    → whole ≡ chained m n operand x left ts → m ≡ suc k → bin_op_at n ts ≡ Some (op, rest) → one_less left ≡ Some fewer → operand fewer rest ≡ Some (y, l, us) → z ≡ placed x.span (Binary x op y)
    → whole ≡ chained k n operand z l us
unfolding chained
chain_goes zero k n operand x y z left fewer l ts rest us op whole w h e f r p = absurd (omega (arith, h))
chain_goes (suc m) k n operand x y z left fewer l ts rest us op whole w h e f r p =
    let same : m ≡ k = omega (arith, h) in
    w ∙ chain_found m n operand x left ts (Some (op, rest)) e ∙ rw (f, r, p, same) refl

-- an expression of no level
pub no_level : (b : Option Readers) (left : ℕ) (ts : List Token) → binary 0 b left ts ≡ unary left b left ts
unfolding binary
no_level b left ts = refl

-- where an expression of some levels isn't read, none of more levels is
pub levels_stop : (n k m : ℕ) (b : Option Readers) (left : ℕ) (ts : List Token) → n + k ≡ m → binary n b left ts ≡ None → binary m b left ts ≡ None
unfolding binary
levels_stop n zero m b left ts h e =
    let same : n ≡ m = omega (arith, h) in
    subst (λ i. binary i b left ts ≡ None) same e
levels_stop n (suc k) m b left ts h e =
    let same : suc (n + k) ≡ m = omega (arith, h) in
    subst (λ i. binary i b left ts ≡ None) same (above_stops (n + k) (levels_stop n k (n + k) b left ts refl e))
  where
    above_stops : (i : ℕ) → binary i b left ts ≡ None → binary (suc i) b left ts ≡ None
    above_stops i none = rw none refl

-- one level more
pub one_level : (n : ℕ) (b : Option Readers) (left : ℕ) (ts : List Token) (x : Expr) (l : ℕ) (rest : List Token) → binary n b left ts ≡ Some (x, l, rest)
    → binary (suc n) b left ts ≡ chained (length rest) n (binary n b) x l rest
unfolding binary
one_level n b left ts x l rest e = rw e refl

-- one level more, of which no operator comes
pub level_passes : (n : ℕ) (b : Option Readers) (left : ℕ) (ts : List Token) (x : Expr) (l : ℕ) (rest : List Token) → binary n b left ts ≡ Some (x, l, rest) → bin_op_at n rest ≡ None
    → binary (suc n) b left ts ≡ Some (x, l, rest)
level_passes n b left ts x l rest e none = chain_ends (length rest) n (binary n b) x l rest (binary (suc n) b left ts) (one_level n b left ts x l rest e) none
