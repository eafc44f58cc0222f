-- Expressions are read as they are spelled.
use Rattle.std.proofs.Common.{◌≡◌, ℕ, zero, suc, ◌+◌, ◌≤◌, true, List, [], ◌∷◌, length, codes, Option, Some, None, refl, ap, ◌∙◌, arith}
use Rattle.std.specs.Prelude.{nat_eq}
use Rattle.std.specs.Str.{bytes_eq}
use Rattle.std.proofs.lemmas.Bool.{and_from, eqb-true, le-leb, lt-ltb}
use Rattle.qs_lexer.specs.declared.token.Token.{Token}
use Rattle.qs_tree.specs.declared.operator.UnOp.{UnOp}
use Rattle.qs_tree.specs.declared.operator.UnOp.TheVariants.{Not, Neg, Invert}
use Rattle.qs_tree.specs.declared.operator.BinOp.{BinOp}
use Rattle.qs_tree.specs.declared.operator.BinOp.TheVariants.{Power, Mul, Div, Rem, Add, Sub, ShiftLeft, ShiftRight, Less, LessEqual, Greater, GreaterEqual, Equal, NotEqual, BitAnd, BitXor, BitOr, And, Or}
use Rattle.qs_tree.specs.declared.expr.Expr.{Expr}
use Rattle.qs_tree.specs.declared.expr.ExprKind.TheOpen as layer
use Rattle.qs_tree.specs.declared.expr.ExprKind.TheVariants.{Unary, Binary}
use Rattle.qs_tree.specs.Spelling.{sign, sign_of_bin, sign_of_un, spell, spell_kind}
use Rattle.qs_tree.specs.WellFormed.{Features, binds, kind_features, level_of, of_expr, of_kind, unary_level}
use Rattle.qs_tree.proofs.Spelled.{spell-Binary, spell-Unary}
use Rattle.qs_parser.specs.steps.Tokens.{Readers, Reads, after_sign, has_sign, one_less}
use Rattle.qs_parser.specs.steps.Expressions.{bin_op, bin_op_at, binary, chained, expr_at, levels, placed, power, raised, signed, tight, un_op, un_op_at, unary, whole_at}
use Rattle.qs_parser.proofs.Featured.{features-Binary, features-Unary}
use Rattle.qs_parser.proofs.TokenPieces.{Took, same_text, sign_kind, took_one, took_sign, took_then}
use Rattle.qs_parser.proofs.SoundParts.{Counted, Holds, Read, holds_at, holds_bind, holds_either, holds_if, holds_some, holds_with}
use Rattle.qs_parser.proofs.SoundReaders.{BeginsAt, IsSoundBelow, ReadExpr}
use Rattle.qs_parser.proofs.SoundExprParts.{level_placed, read_as, read_placed, sound-renewed}
use Rattle.qs_parser.proofs.SoundPrimary.{ReadPrimary, sound-primary}

-- one operator less
pub one_less_is : (left : ℕ) → Holds (one_less left) (λ fewer. left ≡ suc fewer)
one_less_is zero = record { is = tt }
one_less_is (suc n) = holds_some n refl

-- ---- an operator before its operand

un_op_is : (text : List ℕ) → Holds (un_op text) (λ op. text ≡ sign_of_un op)
un_op_is text =
    holds_if (bytes_eq text (codes "!")) (λ e. holds_some Not (same_text _ _ e)) (λ n1.
    holds_if (bytes_eq text (codes "-")) (λ e. holds_some Neg (same_text _ _ e)) (λ n2.
    holds_if (bytes_eq text (codes "~")) (λ e. holds_some Invert (same_text _ _ e)) (λ n3.
    record { is = tt })))

-- the sign at the front is the one of an operator
un_op_taken : (t : Token) (ts : List Token) → Holds (un_op_at (t ∷ ts)) (λ op. Took (sign (sign_of_un op)) (t ∷ ts) ts)
un_op_taken t ts = holds_if (has_sign t.kind) (λ y. holds_with (un_op_is t.text) (λ op e. took_one _ t ts ((sign_kind t.kind y, e), tt))) (λ n. record { is = tt })

counted_unary : (op : UnOp) (f : Features) (e d left fewer after : ℕ) → suc e ≤ d → left ≡ suc fewer → unary_level ≤ f.level → Counted f e 0 fewer after → Counted (kind_features (layer.Unary op f)) d 0 left after
counted_unary op f e d left fewer after room less ok c =
    let s : fewer ≡ after + f.operators = c.spent.inside refl in
    record {
      follows = and_from _ _ (le-leb unary_level f.level ok) c.follows;
      depth = omega (arith, room, c.depth);
      spent = record { inside = λ z. omega arith; whole = λ z. (omega arith, omega arith) };
    }

level_unary : (op : UnOp) (e : Expr) → (of_kind (Unary op e)).level ≡ unary_level
level_unary op e = ap (λ (f : Features). f.level) (features-Unary op e)

sound-signed : (op : UnOp) (below : Option Readers) (d : ℕ) → IsSoundBelow d below → (left : ℕ) (ts : List Token) → un_op_at ts ≡ Some op → Holds (signed op below left ts) (ReadExpr 0 d left ts)
unfolding signed
sound-signed op below d h left [] e = record { is = tt }
sound-signed op below d h left (t ∷ ts) is =
    let s = holds_at (un_op_at (t ∷ ts)) op (un_op_taken t ts) is in
    holds_bind h (λ b one.
    holds_bind (one_less_is left) (λ fewer less.
    holds_bind (one.sound.unary fewer ts) (λ e r.
    let k : Read _ _ d 0 left (t ∷ ts) e.1 e.2 = read_as (spell-Unary op e.0) (features-Unary op e.0) (took_then s r.read.took) (counted_unary op (of_expr e.0) one.e d left fewer e.1 one.room less (omega (arith, r.binds)) r.read.counted) in
    let level : (of_expr (placed t.span (Unary op e.0))).level ≡ unary_level = level_placed t.span (Unary op e.0) ∙ level_unary op e.0 in
    holds_some (placed t.span (Unary op e.0), e.1, e.2) (record { read = read_placed t.span (Unary op e.0) d left e.1 (t ∷ ts) e.2 refl k; binds = omega (arith, level); begins = refl }))))

-- ---- an operator between two operands

counted_binary : (f : Features) (op : BinOp) (g : Features) (d left between fewer after : ℕ) → between ≡ suc fewer → binds f.level op g.level ≡ true → Counted f d 0 left between → Counted g d 0 fewer after → Counted (kind_features (layer.Binary f op g)) d 0 left after
counted_binary f op g d left between fewer after less ok x y =
    let s : left ≡ between + f.operators = x.spent.inside refl in
    let t : fewer ≡ after + g.operators = y.spent.inside refl in
    record {
      follows = and_from _ _ ok (and_from _ _ x.follows y.follows);
      depth = omega (arith, x.depth, y.depth);
      spent = record { inside = λ z. omega arith; whole = λ z. (omega arith, omega arith) };
    }

level_binary : (l : Expr) (op : BinOp) (r : Expr) → (of_kind (Binary l op r)).level ≡ level_of op
level_binary l op r = ap (λ (f : Features). f.level) (features-Binary l op r)

-- two operands with the operator between
read_binary : (l : Expr) (op : BinOp) (r : Expr) (d left between fewer after : ℕ) (ts us vs rest : List Token) → Read (spell l) (of_expr l) d 0 left ts between us → BeginsAt l.span ts → Took (sign (sign_of_bin op)) us vs → between ≡ suc fewer → Read (spell r) (of_expr r) d 0 fewer vs after rest → binds (of_expr l).level op (of_expr r).level ≡ true → Read (spell (placed l.span (Binary l op r))) (of_expr (placed l.span (Binary l op r))) d 0 left ts after rest
read_binary l op r d left between fewer after ts us vs rest x begins s less y ok =
    let k : Read (spell_kind (Binary l op r)) (of_kind (Binary l op r)) d 0 left ts after rest = read_as (spell-Binary l op r) (features-Binary l op r) (took_then (took_then x.took s) y.took) (counted_binary (of_expr l) op (of_expr r) d left between fewer after less ok x.counted y.counted) in
    read_placed l.span (Binary l op r) d left after ts rest begins k

-- ---- powers

-- a reader of the right operand of a power
abbrev IsRight : (d : ℕ) → Option ((left : ℕ) → List Token → Reads Expr) → Type 0
IsRight d right = Holds right (λ r. (left : ℕ) (ts : List Token) → Holds (r left ts) (ReadExpr 0 d left ts))

sound-raised : (right : Option ((left : ℕ) → List Token → Reads Expr)) (d : ℕ) → IsRight d right → (base : Expr) (left between : ℕ) (ts us vs : List Token) → ReadPrimary d left ts (base, between, us) → Took (sign (codes "**")) us vs → Holds (raised right base between vs) (ReadExpr 0 d left ts)
unfolding raised
sound-raised None d h base left between ts us vs b s = record { is = tt }
sound-raised (Some right) d h base left between ts us vs b s =
    holds_bind (one_less_is between) (λ fewer less.
    holds_bind (h.is fewer vs) (λ e r.
    let ok : binds (of_expr base).level Power (of_expr e.0).level ≡ true = and_from _ _ (lt-ltb (level_of Power) (of_expr base).level (omega (arith, b.level))) (le-leb unary_level (of_expr e.0).level (omega (arith, r.binds))) in
    let level : (of_expr (placed base.span (Binary base Power e.0))).level ≡ level_of Power = level_placed base.span (Binary base Power e.0) ∙ level_binary base Power e.0 in
    holds_some (placed base.span (Binary base Power e.0), e.1, e.2) (record {
      read = read_binary base Power e.0 d left between fewer e.1 ts us vs e.2 b.is.read b.is.begins s less r.read ok;
      binds = omega (arith, level);
      begins = b.is.begins;
    })))

sound-power : (right : Option ((left : ℕ) → List Token → Reads Expr)) (below : Option Readers) (d : ℕ) → IsSoundBelow d below → IsRight d right → (left : ℕ) (ts : List Token) → Holds (power right below left ts) (ReadExpr 0 d left ts)
unfolding power
sound-power right below d h g left ts =
    holds_bind (sound-primary below d h left ts) (λ base b.
    holds_either (after_sign (codes "**") base.2) (λ n. holds_some base b.is) (λ rest e.
    sound-raised right d g base.0 left base.1 ts base.2 rest b (took_sign (codes "**") base.2 rest e)))

sound-tight : (right : Option ((left : ℕ) → List Token → Reads Expr)) (below : Option Readers) (d : ℕ) → IsSoundBelow d below → IsRight d right → (left : ℕ) (ts : List Token) → Holds (tight right below left ts) (ReadExpr 0 d left ts)
unfolding tight
sound-tight right below d h g left ts = holds_either (un_op_at ts) (λ n. sound-power right below d h g left ts) (λ op e. sound-signed op below d h left ts e)

pub sound-unary : (n : ℕ) (below : Option Readers) (d : ℕ) → IsSoundBelow d below → (left : ℕ) (ts : List Token) → Holds (unary n below left ts) (ReadExpr 0 d left ts)
unfolding unary
sound-unary zero below d h left ts = sound-tight None below d h (record { is = tt }) left ts
sound-unary (suc n) below d h left ts = sound-tight (Some (unary n below)) below d h (record { is = λ l us. sound-unary n below d h l us }) left ts

-- ---- chains of operators of a level

-- an operator, before which so many levels bind more tightly
pub record IsBinOp (n : ℕ) (text : List ℕ) (op : BinOp) : Type 0 where
  pub text_is : text ≡ sign_of_bin op
  pub level_is : level_of op + n ≡ 9

one_of_them : (n k : ℕ) (text : List ℕ) (op : BinOp) → nat_eq n k ≡ true → level_of op + k ≡ 9 → bytes_eq text (sign_of_bin op) ≡ true → Holds (Some op) (IsBinOp n text)
one_of_them n k text op e l t = holds_some op (record { text_is = same_text text (sign_of_bin op) t; level_is = omega (arith, eqb-true n k e, l) })

pub bin_op_is : (n : ℕ) (text : List ℕ) → Holds (bin_op n text) (IsBinOp n text)
bin_op_is n text =
    holds_if (nat_eq n 0) (λ k. holds_if (bytes_eq text (codes "*")) (λ e. one_of_them n 0 text Mul k refl e) (λ n1. holds_if (bytes_eq text (codes "/")) (λ e. one_of_them n 0 text Div k refl e) (λ n2. holds_if (bytes_eq text (codes "%")) (λ e. one_of_them n 0 text Rem k refl e) (λ n3. record { is = tt })))) (λ k0.
    holds_if (nat_eq n 1) (λ k. holds_if (bytes_eq text (codes "+")) (λ e. one_of_them n 1 text Add k refl e) (λ n1. holds_if (bytes_eq text (codes "-")) (λ e. one_of_them n 1 text Sub k refl e) (λ n2. record { is = tt }))) (λ k1.
    holds_if (nat_eq n 2) (λ k. holds_if (bytes_eq text (codes "<<")) (λ e. one_of_them n 2 text ShiftLeft k refl e) (λ n1. holds_if (bytes_eq text (codes ">>")) (λ e. one_of_them n 2 text ShiftRight k refl e) (λ n2. record { is = tt }))) (λ k2.
    holds_if (nat_eq n 3) (λ k. holds_if (bytes_eq text (codes "<")) (λ e. one_of_them n 3 text Less k refl e) (λ n1. holds_if (bytes_eq text (codes "<=")) (λ e. one_of_them n 3 text LessEqual k refl e) (λ n2. holds_if (bytes_eq text (codes ">")) (λ e. one_of_them n 3 text Greater k refl e) (λ n3. holds_if (bytes_eq text (codes ">=")) (λ e. one_of_them n 3 text GreaterEqual k refl e) (λ n4. record { is = tt }))))) (λ k3.
    holds_if (nat_eq n 4) (λ k. holds_if (bytes_eq text (codes "==")) (λ e. one_of_them n 4 text Equal k refl e) (λ n1. holds_if (bytes_eq text (codes "!=")) (λ e. one_of_them n 4 text NotEqual k refl e) (λ n2. record { is = tt }))) (λ k4.
    holds_if (nat_eq n 5) (λ k. holds_if (bytes_eq text (codes "&")) (λ e. one_of_them n 5 text BitAnd k refl e) (λ n1. record { is = tt })) (λ k5.
    holds_if (nat_eq n 6) (λ k. holds_if (bytes_eq text (codes "^")) (λ e. one_of_them n 6 text BitXor k refl e) (λ n1. record { is = tt })) (λ k6.
    holds_if (nat_eq n 7) (λ k. holds_if (bytes_eq text (codes "|")) (λ e. one_of_them n 7 text BitOr k refl e) (λ n1. record { is = tt })) (λ k7.
    holds_if (nat_eq n 8) (λ k. holds_if (bytes_eq text (codes "&&")) (λ e. one_of_them n 8 text And k refl e) (λ n1. record { is = tt })) (λ k8.
    holds_if (nat_eq n 9) (λ k. holds_if (bytes_eq text (codes "||")) (λ e. one_of_them n 9 text Or k refl e) (λ n1. record { is = tt })) (λ k9.
    record { is = tt }))))))))))

-- operators that group to the left
binds_left : (op : BinOp) (l r : ℕ) → level_of op ≤ 9 → level_of op ≤ l → suc (level_of op) ≤ r → binds l op r ≡ true
binds_left Power l r h a b = absurd (omega arith)
binds_left Mul l r h a b = and_from _ _ (le-leb _ _ a) (lt-ltb _ _ (omega arith))
binds_left Div l r h a b = and_from _ _ (le-leb _ _ a) (lt-ltb _ _ (omega arith))
binds_left Rem l r h a b = and_from _ _ (le-leb _ _ a) (lt-ltb _ _ (omega arith))
binds_left Add l r h a b = and_from _ _ (le-leb _ _ a) (lt-ltb _ _ (omega arith))
binds_left Sub l r h a b = and_from _ _ (le-leb _ _ a) (lt-ltb _ _ (omega arith))
binds_left ShiftLeft l r h a b = and_from _ _ (le-leb _ _ a) (lt-ltb _ _ (omega arith))
binds_left ShiftRight l r h a b = and_from _ _ (le-leb _ _ a) (lt-ltb _ _ (omega arith))
binds_left Less l r h a b = and_from _ _ (le-leb _ _ a) (lt-ltb _ _ (omega arith))
binds_left LessEqual l r h a b = and_from _ _ (le-leb _ _ a) (lt-ltb _ _ (omega arith))
binds_left Greater l r h a b = and_from _ _ (le-leb _ _ a) (lt-ltb _ _ (omega arith))
binds_left GreaterEqual l r h a b = and_from _ _ (le-leb _ _ a) (lt-ltb _ _ (omega arith))
binds_left Equal l r h a b = and_from _ _ (le-leb _ _ a) (lt-ltb _ _ (omega arith))
binds_left NotEqual l r h a b = and_from _ _ (le-leb _ _ a) (lt-ltb _ _ (omega arith))
binds_left BitAnd l r h a b = and_from _ _ (le-leb _ _ a) (lt-ltb _ _ (omega arith))
binds_left BitXor l r h a b = and_from _ _ (le-leb _ _ a) (lt-ltb _ _ (omega arith))
binds_left BitOr l r h a b = and_from _ _ (le-leb _ _ a) (lt-ltb _ _ (omega arith))
binds_left And l r h a b = and_from _ _ (le-leb _ _ a) (lt-ltb _ _ (omega arith))
binds_left Or l r h a b = and_from _ _ (le-leb _ _ a) (lt-ltb _ _ (omega arith))

-- the sign at the front is the one of an operator of this level
record TookBinOp (n : ℕ) (ts : List Token) (y : BinOp × List Token) : Type 0 where
  pub took : Took (sign (sign_of_bin y.0)) ts y.1
  pub level_is : level_of y.0 + n ≡ 9

bin_op_taken : (n : ℕ) (ts : List Token) → Holds (bin_op_at n ts) (TookBinOp n ts)
bin_op_taken n [] = record { is = tt }
bin_op_taken n (t ∷ ts) =
    holds_if (has_sign t.kind) (λ y.
    holds_bind (bin_op_is n t.text) (λ op i.
    holds_some (op, ts) (record { took = took_one _ t ts ((sign_kind t.kind y, i.text_is), tt); level_is = i.level_is })))
    (λ z. record { is = tt })

-- one level more
looser : {levels d left : ℕ} {ts : List Token} {y : Expr × ℕ × List Token} → ReadExpr levels d left ts y → ReadExpr (suc levels) d left ts y
looser r = record { read = r.read; binds = omega (arith, r.binds); begins = r.begins }

sound-chained : (m n : ℕ) (operand : (left : ℕ) → List Token → Reads Expr) (d : ℕ) → ((left : ℕ) (ts : List Token) → Holds (operand left ts) (ReadExpr n d left ts)) → (e : Expr) (left between : ℕ) (ts us : List Token) → ReadExpr (suc n) d left ts (e, between, us) → Holds (chained m n operand e between us) (ReadExpr (suc n) d left ts)
unfolding chained
sound-chained zero n operand d h e left between ts us r = holds_some (e, between, us) r
sound-chained (suc m) n operand d h e left between ts us r =
    holds_either (bin_op_at n us) (λ z. holds_some (e, between, us) r) (λ op is.
    let s = holds_at (bin_op_at n us) op (bin_op_taken n us) is in
    holds_bind (one_less_is between) (λ fewer less.
    holds_bind (h fewer op.1) (λ x y.
    let ok : binds (of_expr e).level op.0 (of_expr x.0).level ≡ true = binds_left op.0 _ _ (omega (arith, s.level_is)) (omega (arith, s.level_is, r.binds)) (omega (arith, s.level_is, y.binds)) in
    let level : (of_expr (placed e.span (Binary e op.0 x.0))).level ≡ level_of op.0 = level_placed e.span (Binary e op.0 x.0) ∙ level_binary e op.0 x.0 in
    sound-chained m n operand d h (placed e.span (Binary e op.0 x.0)) left x.1 ts x.2 (record {
      read = read_binary e op.0 x.0 d left between fewer x.1 ts us op.1 x.2 r.read r.begins s.took less y.read ok;
      binds = omega (arith, level, s.level_is);
      begins = r.begins;
    }))))

-- ---- expressions

pub sound-binary : (n : ℕ) (below : Option Readers) (d : ℕ) → IsSoundBelow d below → (left : ℕ) (ts : List Token) → Holds (binary n below left ts) (ReadExpr n d left ts)
unfolding binary
sound-binary zero below d h left ts = sound-unary left below d h left ts
sound-binary (suc n) below d h left ts =
    holds_bind (sound-binary n below d h left ts) (λ e r.
    sound-chained (length e.2) n (binary n below) d (λ l us. sound-binary n below d h l us) e.0 left e.1 ts e.2 (looser r))

pub sound-expr_at : (below : Option Readers) (d : ℕ) → IsSoundBelow d below → (left : ℕ) (ts : List Token) → Holds (expr_at below left ts) (ReadExpr levels d left ts)
unfolding expr_at
sound-expr_at below d h left ts = sound-binary levels below d h left ts

pub sound-whole_at : (below : Option Readers) (d renew : ℕ) → IsSoundBelow d below → (left : ℕ) (ts : List Token) → Holds (whole_at below renew left ts) (λ y. Read (spell y.0) (of_expr y.0) d renew left ts y.1 y.2)
unfolding whole_at
sound-whole_at below d renew h left ts = sound-renewed renew (expr_at below left ts) (sound-expr_at below d h left ts)
