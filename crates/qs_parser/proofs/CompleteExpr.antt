-- Expressions are read where they are spelled.
use Rattle.std.proofs.Common.{◌≡◌, ℕ, zero, suc, ◌+◌, ◌-◌, ◌≤◌, max, Bool, true, false, ◌&&◌, cond, codes, List, [], ◌∷◌, ◌++◌, length, Option, Some, None, refl, sym, ap, ◌∙◌, append_assoc, length-append, arith, inl, inr}
use Rattle.std.specs.Prelude.{◌⊎◌, nat_eq, nat_le, nat_lt}
use Rattle.std.specs.Str.{bytes_eq}
use Rattle.std.proofs.lemmas.Bool.{and_parts, eqb-true, leb-true, ltb-false, ltb-true}
use Rattle.qs_lexer.specs.declared.token.Token.{Token}
use Rattle.qs_lexer.specs.declared.token.TokenKind.TheVariants as kind
use Rattle.qs_tree.specs.declared.operator.UnOp.{UnOp}
use Rattle.qs_tree.specs.declared.operator.UnOp.TheVariants.{Not, Neg, Invert}
use Rattle.qs_tree.specs.declared.operator.BinOp.{BinOp}
use Rattle.qs_tree.specs.declared.operator.BinOp.TheVariants.{Power, Mul, Div, Rem, Add, Sub, ShiftLeft, ShiftRight, Less, LessEqual, Greater, GreaterEqual, Equal, NotEqual, BitAnd, BitXor, BitOr, And, Or}
use Rattle.qs_tree.specs.declared.expr.Expr.{Expr}
use Rattle.qs_tree.specs.declared.expr.ExprKind.{ExprKind}
use Rattle.qs_tree.specs.declared.expr.ExprKind.TheOpen as layer
use Rattle.qs_tree.specs.declared.expr.ExprKind.TheVariants.{Unary, Binary}
use Rattle.qs_tree.specs.Spelling.{Spells, sign, sign_of_bin, sign_of_un, spell, spell_kind}
use Rattle.qs_tree.specs.WellFormed.{Features, binds, kind_features, level_of, of_expr, of_kind, primary_level, unary_level}
use Rattle.qs_tree.proofs.Spelled.{spell-Binary, spell-Unary}
use Rattle.qs_parser.specs.steps.Tokens.{◌>>=◌, Readers, Reads, after_sign, is_sign, one_less, renewed}
use Rattle.qs_parser.specs.steps.Expressions.{bin_op, bin_op_at, binary, chained, expr_at, placed, power, primary, raised, signed, tight, un_op, un_op_at, unary, whole_at}
use Rattle.qs_parser.specs.steps.Knot.{readers}
use Rattle.qs_parser.proofs.Featured.{features-Expr, features-Whole, features-Decimal, features-Time, features-Text, features-Truth, features-Name, features-Index, features-Physical, features-Call, features-Cast, features-DurationOf, features-Group, features-Unary, features-Binary, features-Number}
use Rattle.qs_parser.proofs.TokenPieces.{Split, no_sign_after, spells_split}
use Rattle.qs_parser.proofs.Spent.{Spent}
use Rattle.qs_parser.proofs.Complete.{Closes, ClosesExpr, ClosesUnary, Fits, IsCompleteBelow}
use Rattle.qs_parser.proofs.CompleteExprParts.{bin_op_at_sign, inside, most_is}
use Rattle.qs_parser.proofs.CompleteExprCases.{Case, FirstToken, case_of, cons_head, first_token, is_binary, is_call, is_cast, is_decimal, is_duration, is_group, is_index, is_name_alone, is_number, is_physical, is_text, is_time, is_truth, is_unary, is_whole, spells_as}
use Rattle.qs_parser.proofs.CompleteExprPrimary.{Bare, Within, complete-primary, kind_fits, kind_level}

-- ---- an operator before its operand, an operator between two, or none

-- an expression is an operator and its operand, two operands with the operator between, or what binds most tightly
pub data Shape (e : Expr) : Type 0 where
  one_operand : (op : UnOp) → (operand : Expr) → e.kind ≡ Unary op operand → Shape e
  two_operands : (l : Expr) → (op : BinOp) → (r : Expr) → e.kind ≡ Binary l op r → Shape e
  no_operator : (of_expr e).level ≡ primary_level → Shape e

level_by : (e : Expr) (f : Features) → of_kind e.kind ≡ f → f.level ≡ primary_level → (of_expr e).level ≡ primary_level
level_by e f p q = kind_level e ∙ ap (λ (g : Features). g.level) p ∙ q

shape_by : (e : Expr) (k : ExprKind) → Case k → e.kind ≡ k → Shape e
shape_by e _ (is_whole value) q = no_operator (level_by e _ (ap of_kind q ∙ features-Whole value) refl)
shape_by e _ (is_decimal value) q = no_operator (level_by e _ (ap of_kind q ∙ features-Decimal value) refl)
shape_by e _ (is_time value unit) q = no_operator (level_by e _ (ap of_kind q ∙ features-Time value unit) refl)
shape_by e _ (is_text text) q = no_operator (level_by e _ (ap of_kind q ∙ features-Text text) refl)
shape_by e _ (is_truth value) q = no_operator (level_by e _ (ap of_kind q ∙ features-Truth value) refl)
shape_by e _ (is_name_alone name) q = no_operator (level_by e _ (ap of_kind q ∙ features-Name name) refl)
shape_by e _ (is_index name index) q = no_operator (level_by e _ (ap of_kind q ∙ features-Index name index) refl)
shape_by e _ (is_physical number) q = no_operator (level_by e _ (ap of_kind q ∙ features-Physical number) refl)
shape_by e _ (is_call name args) q = no_operator (level_by e _ (ap of_kind q ∙ features-Call name args) refl)
shape_by e _ (is_cast type operand) q = no_operator (level_by e _ (ap of_kind q ∙ features-Cast type operand) refl)
shape_by e _ (is_duration body) q = no_operator (level_by e _ (ap of_kind q ∙ features-DurationOf body) refl)
shape_by e _ (is_group inner) q = no_operator (level_by e _ (ap of_kind q ∙ features-Group inner) refl)
shape_by e _ (is_unary op operand) q = one_operand op operand q
shape_by e _ (is_binary l op r) q = two_operands l op r q
shape_by e _ (is_number value) q = no_operator (level_by e _ (ap of_kind q ∙ features-Number value) refl)

pub shape_of : (e : Expr) → Shape e
shape_of e = shape_by e e.kind (case_of e.kind) refl

-- ---- signs of operators

un_op_of_sign : (op : UnOp) → un_op (sign_of_un op) ≡ Some op
un_op_of_sign Not = refl
un_op_of_sign Neg = refl
un_op_of_sign Invert = refl

bin_op_of_sign : (op : BinOp) (n : ℕ) → level_of op + n ≡ 9 → bin_op n (sign_of_bin op) ≡ Some op
bin_op_of_sign Power n e = absurd (omega (arith, e))
bin_op_of_sign Mul n e = let is : n ≡ 0 = omega (arith, e) in rw is refl
bin_op_of_sign Div n e = let is : n ≡ 0 = omega (arith, e) in rw is refl
bin_op_of_sign Rem n e = let is : n ≡ 0 = omega (arith, e) in rw is refl
bin_op_of_sign Add n e = let is : n ≡ 1 = omega (arith, e) in rw is refl
bin_op_of_sign Sub n e = let is : n ≡ 1 = omega (arith, e) in rw is refl
bin_op_of_sign ShiftLeft n e = let is : n ≡ 2 = omega (arith, e) in rw is refl
bin_op_of_sign ShiftRight n e = let is : n ≡ 2 = omega (arith, e) in rw is refl
bin_op_of_sign Less n e = let is : n ≡ 3 = omega (arith, e) in rw is refl
bin_op_of_sign LessEqual n e = let is : n ≡ 3 = omega (arith, e) in rw is refl
bin_op_of_sign Greater n e = let is : n ≡ 3 = omega (arith, e) in rw is refl
bin_op_of_sign GreaterEqual n e = let is : n ≡ 3 = omega (arith, e) in rw is refl
bin_op_of_sign Equal n e = let is : n ≡ 4 = omega (arith, e) in rw is refl
bin_op_of_sign NotEqual n e = let is : n ≡ 4 = omega (arith, e) in rw is refl
bin_op_of_sign BitAnd n e = let is : n ≡ 5 = omega (arith, e) in rw is refl
bin_op_of_sign BitXor n e = let is : n ≡ 6 = omega (arith, e) in rw is refl
bin_op_of_sign BitOr n e = let is : n ≡ 7 = omega (arith, e) in rw is refl
bin_op_of_sign And n e = let is : n ≡ 8 = omega (arith, e) in rw is refl
bin_op_of_sign Or n e = let is : n ≡ 9 = omega (arith, e) in rw is refl

-- no other level has this sign
level_test : {A : Type 0} (k j : ℕ) (x y : Option A) → (k ≡ j → x ≡ None) → y ≡ None → cond (nat_eq k j) x y ≡ None
level_test k j x y f g = from (nat_eq k j) refl
  where
    from : (b : Bool) → nat_eq k j ≡ b → cond b x y ≡ None
    from true e = f (eqb-true k j e)
    from false e = g

not_of_level : (op : BinOp) (n k : ℕ) → level_of op + n ≡ 9 → suc k ≤ n → bin_op k (sign_of_bin op) ≡ None
not_of_level Power n k e l = absurd (omega (arith, e))
not_of_level Mul n k e l = absurd (omega (arith, e, l))
not_of_level Div n k e l = absurd (omega (arith, e, l))
not_of_level Rem n k e l = absurd (omega (arith, e, l))
not_of_level Add n k e l = level_test k 0 _ _ (λ q. refl) (level_test k 1 _ _ (λ q. absurd (omega (arith, e, l, q))) (level_test k 2 _ _ (λ q. refl) (level_test k 3 _ _ (λ q. refl) (level_test k 4 _ _ (λ q. refl) (level_test k 5 _ _ (λ q. refl) (level_test k 6 _ _ (λ q. refl) (level_test k 7 _ _ (λ q. refl) (level_test k 8 _ _ (λ q. refl) (level_test k 9 _ _ (λ q. refl) refl)))))))))
not_of_level Sub n k e l = level_test k 0 _ _ (λ q. refl) (level_test k 1 _ _ (λ q. absurd (omega (arith, e, l, q))) (level_test k 2 _ _ (λ q. refl) (level_test k 3 _ _ (λ q. refl) (level_test k 4 _ _ (λ q. refl) (level_test k 5 _ _ (λ q. refl) (level_test k 6 _ _ (λ q. refl) (level_test k 7 _ _ (λ q. refl) (level_test k 8 _ _ (λ q. refl) (level_test k 9 _ _ (λ q. refl) refl)))))))))
not_of_level ShiftLeft n k e l = level_test k 0 _ _ (λ q. refl) (level_test k 1 _ _ (λ q. refl) (level_test k 2 _ _ (λ q. absurd (omega (arith, e, l, q))) (level_test k 3 _ _ (λ q. refl) (level_test k 4 _ _ (λ q. refl) (level_test k 5 _ _ (λ q. refl) (level_test k 6 _ _ (λ q. refl) (level_test k 7 _ _ (λ q. refl) (level_test k 8 _ _ (λ q. refl) (level_test k 9 _ _ (λ q. refl) refl)))))))))
not_of_level ShiftRight n k e l = level_test k 0 _ _ (λ q. refl) (level_test k 1 _ _ (λ q. refl) (level_test k 2 _ _ (λ q. absurd (omega (arith, e, l, q))) (level_test k 3 _ _ (λ q. refl) (level_test k 4 _ _ (λ q. refl) (level_test k 5 _ _ (λ q. refl) (level_test k 6 _ _ (λ q. refl) (level_test k 7 _ _ (λ q. refl) (level_test k 8 _ _ (λ q. refl) (level_test k 9 _ _ (λ q. refl) refl)))))))))
not_of_level Less n k e l = level_test k 0 _ _ (λ q. refl) (level_test k 1 _ _ (λ q. refl) (level_test k 2 _ _ (λ q. refl) (level_test k 3 _ _ (λ q. absurd (omega (arith, e, l, q))) (level_test k 4 _ _ (λ q. refl) (level_test k 5 _ _ (λ q. refl) (level_test k 6 _ _ (λ q. refl) (level_test k 7 _ _ (λ q. refl) (level_test k 8 _ _ (λ q. refl) (level_test k 9 _ _ (λ q. refl) refl)))))))))
not_of_level LessEqual n k e l = level_test k 0 _ _ (λ q. refl) (level_test k 1 _ _ (λ q. refl) (level_test k 2 _ _ (λ q. refl) (level_test k 3 _ _ (λ q. absurd (omega (arith, e, l, q))) (level_test k 4 _ _ (λ q. refl) (level_test k 5 _ _ (λ q. refl) (level_test k 6 _ _ (λ q. refl) (level_test k 7 _ _ (λ q. refl) (level_test k 8 _ _ (λ q. refl) (level_test k 9 _ _ (λ q. refl) refl)))))))))
not_of_level Greater n k e l = level_test k 0 _ _ (λ q. refl) (level_test k 1 _ _ (λ q. refl) (level_test k 2 _ _ (λ q. refl) (level_test k 3 _ _ (λ q. absurd (omega (arith, e, l, q))) (level_test k 4 _ _ (λ q. refl) (level_test k 5 _ _ (λ q. refl) (level_test k 6 _ _ (λ q. refl) (level_test k 7 _ _ (λ q. refl) (level_test k 8 _ _ (λ q. refl) (level_test k 9 _ _ (λ q. refl) refl)))))))))
not_of_level GreaterEqual n k e l = level_test k 0 _ _ (λ q. refl) (level_test k 1 _ _ (λ q. refl) (level_test k 2 _ _ (λ q. refl) (level_test k 3 _ _ (λ q. absurd (omega (arith, e, l, q))) (level_test k 4 _ _ (λ q. refl) (level_test k 5 _ _ (λ q. refl) (level_test k 6 _ _ (λ q. refl) (level_test k 7 _ _ (λ q. refl) (level_test k 8 _ _ (λ q. refl) (level_test k 9 _ _ (λ q. refl) refl)))))))))
not_of_level Equal n k e l = level_test k 0 _ _ (λ q. refl) (level_test k 1 _ _ (λ q. refl) (level_test k 2 _ _ (λ q. refl) (level_test k 3 _ _ (λ q. refl) (level_test k 4 _ _ (λ q. absurd (omega (arith, e, l, q))) (level_test k 5 _ _ (λ q. refl) (level_test k 6 _ _ (λ q. refl) (level_test k 7 _ _ (λ q. refl) (level_test k 8 _ _ (λ q. refl) (level_test k 9 _ _ (λ q. refl) refl)))))))))
not_of_level NotEqual n k e l = level_test k 0 _ _ (λ q. refl) (level_test k 1 _ _ (λ q. refl) (level_test k 2 _ _ (λ q. refl) (level_test k 3 _ _ (λ q. refl) (level_test k 4 _ _ (λ q. absurd (omega (arith, e, l, q))) (level_test k 5 _ _ (λ q. refl) (level_test k 6 _ _ (λ q. refl) (level_test k 7 _ _ (λ q. refl) (level_test k 8 _ _ (λ q. refl) (level_test k 9 _ _ (λ q. refl) refl)))))))))
not_of_level BitAnd n k e l = level_test k 0 _ _ (λ q. refl) (level_test k 1 _ _ (λ q. refl) (level_test k 2 _ _ (λ q. refl) (level_test k 3 _ _ (λ q. refl) (level_test k 4 _ _ (λ q. refl) (level_test k 5 _ _ (λ q. absurd (omega (arith, e, l, q))) (level_test k 6 _ _ (λ q. refl) (level_test k 7 _ _ (λ q. refl) (level_test k 8 _ _ (λ q. refl) (level_test k 9 _ _ (λ q. refl) refl)))))))))
not_of_level BitXor n k e l = level_test k 0 _ _ (λ q. refl) (level_test k 1 _ _ (λ q. refl) (level_test k 2 _ _ (λ q. refl) (level_test k 3 _ _ (λ q. refl) (level_test k 4 _ _ (λ q. refl) (level_test k 5 _ _ (λ q. refl) (level_test k 6 _ _ (λ q. absurd (omega (arith, e, l, q))) (level_test k 7 _ _ (λ q. refl) (level_test k 8 _ _ (λ q. refl) (level_test k 9 _ _ (λ q. refl) refl)))))))))
not_of_level BitOr n k e l = level_test k 0 _ _ (λ q. refl) (level_test k 1 _ _ (λ q. refl) (level_test k 2 _ _ (λ q. refl) (level_test k 3 _ _ (λ q. refl) (level_test k 4 _ _ (λ q. refl) (level_test k 5 _ _ (λ q. refl) (level_test k 6 _ _ (λ q. refl) (level_test k 7 _ _ (λ q. absurd (omega (arith, e, l, q))) (level_test k 8 _ _ (λ q. refl) (level_test k 9 _ _ (λ q. refl) refl)))))))))
not_of_level And n k e l = level_test k 0 _ _ (λ q. refl) (level_test k 1 _ _ (λ q. refl) (level_test k 2 _ _ (λ q. refl) (level_test k 3 _ _ (λ q. refl) (level_test k 4 _ _ (λ q. refl) (level_test k 5 _ _ (λ q. refl) (level_test k 6 _ _ (λ q. refl) (level_test k 7 _ _ (λ q. refl) (level_test k 8 _ _ (λ q. absurd (omega (arith, e, l, q))) (level_test k 9 _ _ (λ q. refl) refl)))))))))
not_of_level Or n k e l = level_test k 0 _ _ (λ q. refl) (level_test k 1 _ _ (λ q. refl) (level_test k 2 _ _ (λ q. refl) (level_test k 3 _ _ (λ q. refl) (level_test k 4 _ _ (λ q. refl) (level_test k 5 _ _ (λ q. refl) (level_test k 6 _ _ (λ q. refl) (level_test k 7 _ _ (λ q. refl) (level_test k 8 _ _ (λ q. refl) (level_test k 9 _ _ (λ q. absurd (omega (arith, e, l, q))) refl)))))))))

-- a sign that goes on with no operand
record IsBetween (text : List ℕ) : Type 0 where
  square : bytes_eq text (codes "[") ≡ false
  round : bytes_eq text (codes "(") ≡ false
  power : bytes_eq text (codes "**") ≡ false

is_between : (op : BinOp) → level_of op ≤ 9 → IsBetween (sign_of_bin op)
is_between Power l = absurd (omega (arith, l))
is_between Mul l = record { square = refl; round = refl; power = refl }
is_between Div l = record { square = refl; round = refl; power = refl }
is_between Rem l = record { square = refl; round = refl; power = refl }
is_between Add l = record { square = refl; round = refl; power = refl }
is_between Sub l = record { square = refl; round = refl; power = refl }
is_between ShiftLeft l = record { square = refl; round = refl; power = refl }
is_between ShiftRight l = record { square = refl; round = refl; power = refl }
is_between Less l = record { square = refl; round = refl; power = refl }
is_between LessEqual l = record { square = refl; round = refl; power = refl }
is_between Greater l = record { square = refl; round = refl; power = refl }
is_between GreaterEqual l = record { square = refl; round = refl; power = refl }
is_between Equal l = record { square = refl; round = refl; power = refl }
is_between NotEqual l = record { square = refl; round = refl; power = refl }
is_between BitAnd l = record { square = refl; round = refl; power = refl }
is_between BitXor l = record { square = refl; round = refl; power = refl }
is_between BitOr l = record { square = refl; round = refl; power = refl }
is_between And l = record { square = refl; round = refl; power = refl }
is_between Or l = record { square = refl; round = refl; power = refl }

is_power : (op : BinOp) → 10 ≤ level_of op → op ≡ Power
is_power Power l = refl
is_power Mul l = absurd (omega (arith, l))
is_power Div l = absurd (omega (arith, l))
is_power Rem l = absurd (omega (arith, l))
is_power Add l = absurd (omega (arith, l))
is_power Sub l = absurd (omega (arith, l))
is_power ShiftLeft l = absurd (omega (arith, l))
is_power ShiftRight l = absurd (omega (arith, l))
is_power Less l = absurd (omega (arith, l))
is_power LessEqual l = absurd (omega (arith, l))
is_power Greater l = absurd (omega (arith, l))
is_power GreaterEqual l = absurd (omega (arith, l))
is_power Equal l = absurd (omega (arith, l))
is_power NotEqual l = absurd (omega (arith, l))
is_power BitAnd l = absurd (omega (arith, l))
is_power BitXor l = absurd (omega (arith, l))
is_power BitOr l = absurd (omega (arith, l))
is_power And l = absurd (omega (arith, l))
is_power Or l = absurd (omega (arith, l))

at_most_power : (op : BinOp) → level_of op ≤ 11
at_most_power Power = omega arith
at_most_power Mul = omega arith
at_most_power Div = omega arith
at_most_power Rem = omega arith
at_most_power Add = omega arith
at_most_power Sub = omega arith
at_most_power ShiftLeft = omega arith
at_most_power ShiftRight = omega arith
at_most_power Less = omega arith
at_most_power LessEqual = omega arith
at_most_power Greater = omega arith
at_most_power GreaterEqual = omega arith
at_most_power Equal = omega arith
at_most_power NotEqual = omega arith
at_most_power BitAnd = omega arith
at_most_power BitXor = omega arith
at_most_power BitOr = omega arith
at_most_power And = omega arith
at_most_power Or = omega arith

-- operators that group to the left
record BindsLeft (op : BinOp) (l r : ℕ) : Type 0 where
  left : level_of op ≤ l
  right : suc (level_of op) ≤ r

binds_left : (op : BinOp) (l r : ℕ) → level_of op ≤ 9 → binds l op r ≡ true → BindsLeft op l r
binds_left Power l r h e = absurd (omega (arith, h))
binds_left Mul l r h e = let p = and_parts (nat_le (level_of Mul) l) (nat_lt (level_of Mul) r) e in record { left = leb-true _ _ p.0; right = ltb-true _ _ p.1 }
binds_left Div l r h e = let p = and_parts (nat_le (level_of Div) l) (nat_lt (level_of Div) r) e in record { left = leb-true _ _ p.0; right = ltb-true _ _ p.1 }
binds_left Rem l r h e = let p = and_parts (nat_le (level_of Rem) l) (nat_lt (level_of Rem) r) e in record { left = leb-true _ _ p.0; right = ltb-true _ _ p.1 }
binds_left Add l r h e = let p = and_parts (nat_le (level_of Add) l) (nat_lt (level_of Add) r) e in record { left = leb-true _ _ p.0; right = ltb-true _ _ p.1 }
binds_left Sub l r h e = let p = and_parts (nat_le (level_of Sub) l) (nat_lt (level_of Sub) r) e in record { left = leb-true _ _ p.0; right = ltb-true _ _ p.1 }
binds_left ShiftLeft l r h e = let p = and_parts (nat_le (level_of ShiftLeft) l) (nat_lt (level_of ShiftLeft) r) e in record { left = leb-true _ _ p.0; right = ltb-true _ _ p.1 }
binds_left ShiftRight l r h e = let p = and_parts (nat_le (level_of ShiftRight) l) (nat_lt (level_of ShiftRight) r) e in record { left = leb-true _ _ p.0; right = ltb-true _ _ p.1 }
binds_left Less l r h e = let p = and_parts (nat_le (level_of Less) l) (nat_lt (level_of Less) r) e in record { left = leb-true _ _ p.0; right = ltb-true _ _ p.1 }
binds_left LessEqual l r h e = let p = and_parts (nat_le (level_of LessEqual) l) (nat_lt (level_of LessEqual) r) e in record { left = leb-true _ _ p.0; right = ltb-true _ _ p.1 }
binds_left Greater l r h e = let p = and_parts (nat_le (level_of Greater) l) (nat_lt (level_of Greater) r) e in record { left = leb-true _ _ p.0; right = ltb-true _ _ p.1 }
binds_left GreaterEqual l r h e = let p = and_parts (nat_le (level_of GreaterEqual) l) (nat_lt (level_of GreaterEqual) r) e in record { left = leb-true _ _ p.0; right = ltb-true _ _ p.1 }
binds_left Equal l r h e = let p = and_parts (nat_le (level_of Equal) l) (nat_lt (level_of Equal) r) e in record { left = leb-true _ _ p.0; right = ltb-true _ _ p.1 }
binds_left NotEqual l r h e = let p = and_parts (nat_le (level_of NotEqual) l) (nat_lt (level_of NotEqual) r) e in record { left = leb-true _ _ p.0; right = ltb-true _ _ p.1 }
binds_left BitAnd l r h e = let p = and_parts (nat_le (level_of BitAnd) l) (nat_lt (level_of BitAnd) r) e in record { left = leb-true _ _ p.0; right = ltb-true _ _ p.1 }
binds_left BitXor l r h e = let p = and_parts (nat_le (level_of BitXor) l) (nat_lt (level_of BitXor) r) e in record { left = leb-true _ _ p.0; right = ltb-true _ _ p.1 }
binds_left BitOr l r h e = let p = and_parts (nat_le (level_of BitOr) l) (nat_lt (level_of BitOr) r) e in record { left = leb-true _ _ p.0; right = ltb-true _ _ p.1 }
binds_left And l r h e = let p = and_parts (nat_le (level_of And) l) (nat_lt (level_of And) r) e in record { left = leb-true _ _ p.0; right = ltb-true _ _ p.1 }
binds_left Or l r h e = let p = and_parts (nat_le (level_of Or) l) (nat_lt (level_of Or) r) e in record { left = leb-true _ _ p.0; right = ltb-true _ _ p.1 }

-- the token of a sign
sign_is : (t : Token) (text other : List ℕ) → t.kind ≡ kind.Sign → t.text ≡ text → is_sign other t ≡ bytes_eq text other
sign_is t text other k e = rw (k, e) refl

-- ---- levels

level_unary : (e : Expr) (op : UnOp) (x : Expr) → e.kind ≡ Unary op x → (of_expr e).level ≡ unary_level
level_unary e op x q = kind_level e ∙ ap (λ (k : ExprKind). (of_kind k).level) q ∙ ap (λ (f : Features). f.level) (features-Unary op x)

level_binary : (e l : Expr) (op : BinOp) (r : Expr) → e.kind ≡ Binary l op r → (of_expr e).level ≡ level_of op
level_binary e l op r q = kind_level e ∙ ap (λ (k : ExprKind). (of_kind k).level) q ∙ ap (λ (f : Features). f.level) (features-Binary l op r)

tightest : (e : Expr) → 12 ≤ (of_expr e).level → (of_expr e).level ≡ primary_level
tightest e h = from (shape_of e)
  where
    from : Shape e → (of_expr e).level ≡ primary_level
    from (no_operator q) = q
    from (one_operand op x q) = absurd (omega (arith, h, level_unary e op x q))
    from (two_operands l op r q) = absurd (omega (arith, h, level_binary e l op r q, at_most_power op))

-- ---- parts of an expression

-- its operands, where an operator stands between
record Operands (e l : Expr) (op : BinOp) (r : Expr) (d left after : ℕ) (front : List Token) : Type 0 where
  front_l : List Token
  t : Token
  front_r : List Token
  is : front ≡ front_l ++ (t ∷ front_r)
  spells_l : Spells (spell l) front_l
  is_sign : t.kind ≡ kind.Sign
  text : t.text ≡ sign_of_bin op
  spells_r : Spells (spell r) front_r
  same : placed l.span (Binary l op r) ≡ e
  between : ℕ
  fewer : ℕ
  less : one_less between ≡ Some fewer
  within_l : Within l d left between
  within_r : Within r d fewer after
  binds_so : binds (of_expr l).level op (of_expr r).level ≡ true

operands_of : (e l : Expr) (op : BinOp) (r : Expr) (d left after : ℕ) (front : List Token) → e.kind ≡ Binary l op r → Within e d left after → Spells (spell e) front → Operands e l op r d left after front
operands_of e l op r d left after front q w s =
    let f = first_token e front s in
    let both = spells_as (f.t ∷ f.ts) (ap spell_kind q ∙ spell-Binary l op r ∙ append_assoc (spell l) (sign (sign_of_bin op)) (spell r)) f.spells_kind in
    let two : Split (spell l) (sign (sign_of_bin op) ++ spell r) (f.t ∷ f.ts) = spells_split (spell l) (sign (sign_of_bin op) ++ spell r) (f.t ∷ f.ts) both in
    from f two two.after two.spells_after refl
  where
    from : (f : FirstToken e front) → (two : Split (spell l) (sign (sign_of_bin op) ++ spell r) (f.t ∷ f.ts)) → (us : List Token) → Spells (sign (sign_of_bin op) ++ spell r) us → two.after ≡ us → Operands e l op r d left after front
    from f two [] h q2 = absurd h
    from f two (u ∷ us) h q2 =
        let g = first_token l two.front two.spells_front in
        let heads : f.t ≡ g.t = cons_head f.t g.t f.ts (g.ts ++ two.after) (two.is ∙ ap (λ (vs : List Token). vs ++ two.after) g.is) in
        let span : l.span ≡ e.span = sym g.span ∙ sym (ap (λ (t : Token). t.span) heads) ∙ f.span in
        let features : of_kind e.kind ≡ kind_features (layer.Binary (of_expr l) op (of_expr r)) = ap of_kind q ∙ features-Binary l op r in
        let fits = kind_fits e d left after w in
        let follows = and_parts (binds (of_expr l).level op (of_expr r).level) ((of_expr l).follows && (of_expr r).follows) (sym (ap (λ (x : Features). x.follows) features) ∙ fits.follows) in
        let parts = and_parts (of_expr l).follows (of_expr r).follows follows.1 in
        let count : left ≡ (after + suc (of_expr r).operators) + (of_expr l).operators = omega (arith, w.count, ap (λ (x : Features). x.operators) (features-Expr e), ap (λ (x : Features). x.operators) features) in
        record {
          front_l = two.front;
          t = u;
          front_r = us;
          is = f.is ∙ two.is ∙ ap (λ (vs : List Token). two.front ++ vs) q2;
          spells_l = two.spells_front;
          is_sign = h.0.0.0;
          text = h.0.0.1;
          spells_r = h.1;
          same = ap (λ x. placed x (Binary l op r)) span ∙ ap (λ (k : ExprKind). placed e.span k) (sym q);
          between = after + suc (of_expr r).operators;
          fewer = after + (of_expr r).operators;
          less = let one : after + suc (of_expr r).operators ≡ suc (after + (of_expr r).operators) = omega arith in ap one_less one;
          within_l = record { follows = parts.0; depth = omega (arith, fits.depth, ap (λ (x : Features). x.depth) features); count = count };
          within_r = record { follows = parts.1; depth = omega (arith, fits.depth, ap (λ (x : Features). x.depth) features); count = refl };
          binds_so = follows.0;
        }

-- ---- operators before an operand, and powers

bare : {levels : ℕ} {rest : List Token} → Closes levels rest → Bare rest
bare c = record { square = c.square; round = c.round }

-- what stands before the operator of a level is closed
closes_operator : (op : BinOp) (n : ℕ) (t : Token) (ts : List Token) → level_of op + n ≡ 9 → t.kind ≡ kind.Sign → t.text ≡ sign_of_bin op → Closes n (t ∷ ts)
closes_operator op n t ts l k e =
    let b = is_between op (omega (arith, l)) in
    record {
      square = sign_is t (sign_of_bin op) (codes "[") k e ∙ b.square;
      round = sign_is t (sign_of_bin op) (codes "(") k e ∙ b.round;
      power = sign_is t (sign_of_bin op) (codes "**") k e ∙ b.power;
      operators = λ j w. bin_op_at_sign j (sign_of_bin op) t ts k e ∙ ap (λ (o : Option BinOp). o >>= λ x. Some (x, ts)) (not_of_level op n j l w);
    }

-- what is read at a base, by what stands after it
power_as : (right : Option ((left : ℕ) → List Token → Reads Expr)) (below : Option Readers) (left : ℕ) (ts : List Token) (e : Expr) (after : ℕ) (rest : List Token) (found : Option (List Token)) → primary below left ts ≡ Some (e, after, rest) → after_sign (codes "**") rest ≡ found → power right below left ts ≡ elim found [ None ↦ Some (e, after, rest) | Some us ↦ raised right e after us ]
unfolding power
power_as right below left ts e after rest found p q =
    ap (λ (r : Reads Expr). r >>= λ base. elim (after_sign (codes "**") base.2) [ None ↦ Some base | Some us ↦ raised right base.0 base.1 us ]) p
    ∙ ap (λ (r : Option (List Token)). elim r [ None ↦ Some (e, after, rest) | Some us ↦ raised right e after us ]) q

-- what binds most tightly, with no power after it
tight_primary : (right : Option ((left : ℕ) → List Token → Reads Expr)) (e : Expr) (below : Option Readers) (d left after : ℕ) (front rest : List Token) → IsCompleteBelow d below → (of_expr e).level ≡ primary_level → Within e d left after → Spells (spell e) front → ClosesUnary rest → tight right below left (front ++ rest) ≡ Some (e, after, rest)
unfolding tight power
tight_primary right e below d left after front rest h l w s c =
    let p = complete-primary e below d left after front rest h l w s (bare c) in
    rw (tight, p.no_un) (power_as right below left (front ++ rest) e after rest None p.is (no_sign_after (codes "**") rest c.power))

-- an operator and its operand
tight_signed : (right : Option ((left : ℕ) → List Token → Reads Expr)) (e : Expr) (op : UnOp) (x : Expr) (below : Option Readers) (d left after : ℕ) (front rest : List Token) → IsCompleteBelow d below → e.kind ≡ Unary op x → Within e d left after → Spells (spell e) front → ClosesUnary rest → tight right below left (front ++ rest) ≡ Some (e, after, rest)
unfolding tight signed
tight_signed right e op x below d left after front rest h q w s c =
    let f = first_token e front s in
    let g : Spells (sign (sign_of_un op) ++ spell x) (f.t ∷ f.ts) = spells_as (f.t ∷ f.ts) (ap spell_kind q ∙ spell-Unary op x) f.spells_kind in
    let fits = kind_fits e d left after w in
    let features : of_kind e.kind ≡ kind_features (layer.Unary op (of_expr x)) = ap of_kind q ∙ features-Unary op x in
    let follows = and_parts (nat_le unary_level (of_expr x).level) (of_expr x).follows (sym (ap (λ (y : Features). y.follows) features) ∙ fits.follows) in
    let deep : suc (of_expr x).depth ≤ d = omega (arith, fits.depth, ap (λ (y : Features). y.depth) features) in
    let count : left ≡ suc (after + (of_expr x).operators) = omega (arith, w.count, ap (λ (y : Features). y.operators) (features-Expr e), ap (λ (y : Features). y.operators) features) in
    let i = inside (of_expr x) d below 0 (after + (of_expr x).operators) after h (record { follows = follows.1; depth = deep; spent = inl (refl, refl) }) in
    let read = i.complete.unary x (after + (of_expr x).operators) after f.ts rest i.fits.follows i.fits.depth refl (leb-true _ _ follows.0) g.1 c in
    let is_un : un_op_at (f.t ∷ (f.ts ++ rest)) ≡ Some op = rw (g.0.0.0, g.0.0.1) (un_op_of_sign op) in
    let same : placed f.t.span (Unary op x) ≡ e = ap (λ y. placed y (Unary op x)) f.span ∙ ap (λ (k : ExprKind). placed e.span k) (sym q) in
    let less : one_less left ≡ Some (after + (of_expr x).operators) = ap one_less count in
    let here : tight right below left (f.t ∷ (f.ts ++ rest)) ≡ Some (placed f.t.span (Unary op x), after, rest) = rw (tight, is_un, signed, i.is, less, read) refl in
    ap (λ (us : List Token). tight right below left (us ++ rest)) f.is ∙ here ∙ ap (λ (y : Expr). Some (y, after, rest)) same

-- a power, by the reader of its right operand
tight_power : (right : (left : ℕ) → List Token → Reads Expr) (e l r : Expr) (below : Option Readers) (d left after : ℕ) (front rest : List Token) → IsCompleteBelow d below → (o : Operands e l Power r d left after front) → right o.fewer (o.front_r ++ rest) ≡ Some (r, after, rest) → tight (Some right) below left (front ++ rest) ≡ Some (e, after, rest)
unfolding tight power raised
tight_power right e l r below d left after front rest h o read =
    let level = and_parts (nat_lt 11 (of_expr l).level) (nat_le unary_level (of_expr r).level) o.binds_so in
    let base_level : (of_expr l).level ≡ primary_level = tightest l (ltb-true _ _ level.0) in
    let after_base : Bare (o.t ∷ (o.front_r ++ rest)) = record { square = sign_is o.t (codes "**") (codes "[") o.is_sign o.text; round = sign_is o.t (codes "**") (codes "(") o.is_sign o.text } in
    let p = complete-primary l below d left o.between o.front_l (o.t ∷ (o.front_r ++ rest)) h base_level o.within_l o.spells_l after_base in
    let is : front ++ rest ≡ o.front_l ++ (o.t ∷ (o.front_r ++ rest)) = ap (λ (us : List Token). us ++ rest) o.is ∙ append_assoc o.front_l (o.t ∷ o.front_r) rest in
    let sign_here : after_sign (codes "**") (o.t ∷ (o.front_r ++ rest)) ≡ Some (o.front_r ++ rest) = rw (sign_is o.t (codes "**") (codes "**") o.is_sign o.text) refl in
    let more : raised (Some right) l o.between (o.front_r ++ rest) ≡ Some (placed l.span (Binary l Power r), after, rest) = rw (raised, o.less, read) refl in
    let here : tight (Some right) below left (o.front_l ++ (o.t ∷ (o.front_r ++ rest))) ≡ Some (placed l.span (Binary l Power r), after, rest) = rw (tight, p.no_un) (power_as (Some right) below left (o.front_l ++ (o.t ∷ (o.front_r ++ rest))) l o.between (o.t ∷ (o.front_r ++ rest)) (Some (o.front_r ++ rest)) p.is sign_here ∙ more) in
    ap (tight (Some right) below left) is ∙ here ∙ ap (λ (y : Expr). Some (y, after, rest)) o.same

-- an operand of operators between operands
pub complete-unary : (n : ℕ) (e : Expr) (below : Option Readers) (d left after : ℕ) (front rest : List Token) → IsCompleteBelow d below → unary_level ≤ (of_expr e).level → (of_expr e).operators ≤ n → Within e d left after → Spells (spell e) front → ClosesUnary rest → unary n below left (front ++ rest) ≡ Some (e, after, rest)
unfolding unary
complete-unary zero e below d left after front rest h l m w s c = from (shape_of e)
  where
    from : Shape e → unary zero below left (front ++ rest) ≡ Some (e, after, rest)
    from (no_operator q) = tight_primary None e below d left after front rest h q w s c
    from (one_operand op x q) = tight_signed None e op x below d left after front rest h q w s c
    from (two_operands a op b q) = absurd (omega (arith, m, ap (λ (y : Features). y.operators) (features-Expr e), ap (λ (k : ExprKind). (of_kind k).operators) q, ap (λ (y : Features). y.operators) (features-Binary a op b)))
complete-unary (suc n) e below d left after front rest h l m w s c = from (λ b fewer after_b front_b lb mb wb sb. complete-unary n b below d fewer after_b front_b rest h lb mb wb sb c) (shape_of e)
  where
    from : ((b : Expr) (fewer after_b : ℕ) (front_b : List Token) → unary_level ≤ (of_expr b).level → (of_expr b).operators ≤ n → Within b d fewer after_b → Spells (spell b) front_b → unary n below fewer (front_b ++ rest) ≡ Some (b, after_b, rest)) → Shape e → unary (suc n) below left (front ++ rest) ≡ Some (e, after, rest)
    from ih (no_operator q) = tight_primary (Some (unary n below)) e below d left after front rest h q w s c
    from ih (one_operand op x q) = tight_signed (Some (unary n below)) e op x below d left after front rest h q w s c
    from ih (two_operands a op b q) =
        let raises : op ≡ Power = is_power op (omega (arith, l, level_binary e a op b q)) in
        let q2 : e.kind ≡ Binary a Power b = q ∙ ap (λ (x : BinOp). Binary a x b) raises in
        let o = operands_of e a Power b d left after front q2 w s in
        let level = and_parts (nat_lt 11 (of_expr a).level) (nat_le unary_level (of_expr b).level) o.binds_so in
        let smaller : (of_expr b).operators ≤ n = omega (arith, m, ap (λ (y : Features). y.operators) (features-Expr e), ap (λ (k : ExprKind). (of_kind k).operators) q, ap (λ (y : Features). y.operators) (features-Binary a op b)) in
        tight_power (unary n below) e a b below d left after front rest h o (ih b o.fewer after o.front_r (leb-true _ _ level.1) smaller o.within_r o.spells_r)

-- ---- chains of operators of a level

-- so many tokens at least as what is left of a chain
record Chain (n : ℕ) (below : Option Readers) (e : Expr) (left after : ℕ) (front rest : List Token) : Type 0 where
  turns : ℕ
  enough : length rest ≤ turns
  is : binary (suc n) below left (front ++ rest) ≡ chained turns n (binary n below) e after rest

-- expressions of so many levels are read
abbrev ReadsLevels : (n : ℕ) → Option Readers → (d : ℕ) → Type 0
ReadsLevels n below d = (e : Expr) (left after : ℕ) (front rest : List Token) → unary_level ≤ (of_expr e).level + n → Within e d left after → Spells (spell e) front → Closes n rest → binary n below left (front ++ rest) ≡ Some (e, after, rest)

-- an expression that binds more tightly begins a chain
chain_begins : (n : ℕ) (below : Option Readers) (d : ℕ) → ReadsLevels n below d → (e : Expr) (left after : ℕ) (front rest : List Token) → unary_level ≤ (of_expr e).level + n → Within e d left after → Spells (spell e) front → Closes n rest → Chain n below e left after front rest
unfolding binary
chain_begins n below d ih e left after front rest l w s c = record { turns = length rest; enough = omega arith; is = rw (binary, ih e left after front rest l w s c) refl }

-- one turn of a chain
chain_turn : (turns n : ℕ) (operand : (left : ℕ) → List Token → Reads Expr) (l : Expr) (op : BinOp) (r : Expr) (between fewer after : ℕ) (t : Token) (ts rest : List Token) → level_of op + n ≡ 9 → t.kind ≡ kind.Sign → t.text ≡ sign_of_bin op → one_less between ≡ Some fewer → operand fewer ts ≡ Some (r, after, rest) → chained (suc turns) n operand l between (t ∷ ts) ≡ chained turns n operand (placed l.span (Binary l op r)) after rest
unfolding chained
chain_turn turns n operand l op r between fewer after t ts rest level k e less read =
    let found : bin_op_at n (t ∷ ts) ≡ Some (op, ts) = bin_op_at_sign n (sign_of_bin op) t ts k e ∙ ap (λ (o : Option BinOp). o >>= λ x. Some (x, ts)) (bin_op_of_sign op n level) in
    ap (λ (o : Option (BinOp × List Token)). elim o [
      | None ↦ Some (l, between, t ∷ ts)
      | Some found_op ↦ do
        less_now ← one_less between
        right ← operand less_now found_op.1
        chained turns n operand (placed l.span (Binary l found_op.0 right.0)) right.1 right.2
    ]) found ∙ rw (less, read) refl

-- a chain goes on to the operand after an operator of its level
chain_more : (n : ℕ) (below : Option Readers) (d : ℕ) → ReadsLevels n below d → (e l : Expr) (op : BinOp) (r : Expr) (left after : ℕ) (front rest : List Token) → level_of op + n ≡ 9 → (o : Operands e l op r d left after front) → Closes n rest → Chain n below l left o.between o.front_l (o.t ∷ (o.front_r ++ rest)) → Chain n below e left after front rest
chain_more n below d ih e l op r left after front rest level o c chain = from chain.turns chain.enough chain.is
  where
    right : BindsLeft op (of_expr l).level (of_expr r).level
    right = binds_left op (of_expr l).level (of_expr r).level (omega (arith, level)) o.binds_so

    read : binary n below o.fewer (o.front_r ++ rest) ≡ Some (r, after, rest)
    read = ih r o.fewer after o.front_r rest (omega (arith, level, right.right)) o.within_r o.spells_r c

    from : (turns : ℕ) → length (o.t ∷ (o.front_r ++ rest)) ≤ turns → binary (suc n) below left (o.front_l ++ (o.t ∷ (o.front_r ++ rest))) ≡ chained turns n (binary n below) l o.between (o.t ∷ (o.front_r ++ rest)) → Chain n below e left after front rest
    from zero enough is = absurd (omega (arith, enough))
    from (suc turns) enough is =
        let all : front ++ rest ≡ o.front_l ++ (o.t ∷ (o.front_r ++ rest)) = ap (λ (us : List Token). us ++ rest) o.is ∙ append_assoc o.front_l (o.t ∷ o.front_r) rest in
        let turn : chained (suc turns) n (binary n below) l o.between (o.t ∷ (o.front_r ++ rest)) ≡ chained turns n (binary n below) (placed l.span (Binary l op r)) after rest = chain_turn turns n (binary n below) l op r o.between o.fewer after o.t (o.front_r ++ rest) rest level o.is_sign o.text o.less read in
        record {
          turns = turns;
          enough = omega (arith, enough, length-append o.front_r rest);
          is = ap (binary (suc n) below left) all ∙ is ∙ turn ∙ ap (λ (x : Expr). chained turns n (binary n below) x after rest) o.same;
        }

-- whether a level is among the tighter ones, or the next
tighter_or : (x : ℕ) → 10 ≤ suc x → (10 ≤ x) ⊎ (x ≡ 9)
tighter_or x h = from (nat_lt 9 x) refl
  where
    from : (b : Bool) → nat_lt 9 x ≡ b → (10 ≤ x) ⊎ (x ≡ 9)
    from true e = inl (omega (arith, ltb-true 9 x e))
    from false e = inr (omega (arith, h, ltb-false 9 x e))

-- reading an expression is a chain with it as what is read so far
chain_at : (m n : ℕ) (below : Option Readers) (d : ℕ) → ReadsLevels n below d → (e : Expr) (left after : ℕ) (front rest : List Token) → suc (of_expr e).operators ≤ m → unary_level ≤ (of_expr e).level + suc n → Within e d left after → Spells (spell e) front → Closes n rest → Chain n below e left after front rest
chain_at zero n below d ih e left after front rest b l w s c = absurd (omega (arith, b))
chain_at (suc m) n below d ih e left after front rest b l w s c =
    by_side (λ x left_x after_x front_x rest_x bx lx wx sx cx. chain_at m n below d ih x left_x after_x front_x rest_x bx lx wx sx cx) (tighter_or ((of_expr e).level + n) (omega (arith, l)))
  where
    Smaller : Type 0
    Smaller = (x : Expr) (left_x after_x : ℕ) (front_x rest_x : List Token) → suc (of_expr x).operators ≤ m → unary_level ≤ (of_expr x).level + suc n → Within x d left_x after_x → Spells (spell x) front_x → Closes n rest_x → Chain n below x left_x after_x front_x rest_x

    by_shape : Smaller → (of_expr e).level + n ≡ 9 → Shape e → Chain n below e left after front rest
    by_shape smaller q (no_operator p) = absurd (omega (arith, q, p))
    by_shape smaller q (one_operand op x p) = absurd (omega (arith, q, level_unary e op x p))
    by_shape smaller q (two_operands x op y p) =
        let o = operands_of e x op y d left after front p w s in
        let level : level_of op + n ≡ 9 = omega (arith, q, level_binary e x op y p) in
        let left_binds = binds_left op (of_expr x).level (of_expr y).level (omega (arith, level)) o.binds_so in
        let less : suc (of_expr x).operators ≤ m = omega (arith, b, ap (λ (z : Features). z.operators) (features-Expr e), ap (λ (k : ExprKind). (of_kind k).operators) p, ap (λ (z : Features). z.operators) (features-Binary x op y)) in
        chain_more n below d ih e x op y left after front rest level o c (smaller x left o.between o.front_l (o.t ∷ (o.front_r ++ rest)) less (omega (arith, level, left_binds.left)) o.within_l o.spells_l (closes_operator op n o.t (o.front_r ++ rest) level o.is_sign o.text))

    by_side : Smaller → ((10 ≤ (of_expr e).level + n) ⊎ ((of_expr e).level + n ≡ 9)) → Chain n below e left after front rest
    by_side smaller (inl q) = chain_begins n below d ih e left after front rest q w s c
    by_side smaller (inr q) = by_shape smaller q (shape_of e)

-- a chain ends where no operator of its level stands
chain_ends : (turns n : ℕ) (operand : (left : ℕ) → List Token → Reads Expr) (e : Expr) (after : ℕ) (rest : List Token) → bin_op_at n rest ≡ None → chained turns n operand e after rest ≡ Some (e, after, rest)
unfolding chained
chain_ends zero n operand e after rest c = refl
chain_ends (suc turns) n operand e after rest c =
    ap (λ (o : Option (BinOp × List Token)). elim o [
      | None ↦ Some (e, after, rest)
      | Some op ↦ do
        fewer ← one_less after
        right ← operand fewer op.1
        chained turns n operand (placed e.span (Binary e op.0 right.0)) right.1 right.2
    ]) c

-- ---- expressions

tighter_closes : {n : ℕ} {rest : List Token} → Closes (suc n) rest → Closes n rest
tighter_closes c = record { square = c.square; round = c.round; power = c.power; operators = λ k w. c.operators k (omega (arith, w)) }

pub complete-binary : (n : ℕ) (below : Option Readers) (d : ℕ) → IsCompleteBelow d below → ReadsLevels n below d
unfolding binary
complete-binary zero below d h = λ e left after front rest l w s c. complete-unary left e below d left after front rest h (omega (arith, l)) (omega (arith, w.count)) w s c
complete-binary (suc n) below d h = λ e left after front rest l w s c.
    let chain = chain_at (suc (of_expr e).operators) n below d (complete-binary n below d h) e left after front rest (omega arith) l w s (tighter_closes c) in
    chain.is ∙ chain_ends chain.turns n (binary n below) e after rest (c.operators n (omega arith))

-- an expression that is spelled at the front is read, where a closing sign stands after it
pub complete-expr_at : (e : Expr) (below : Option Readers) (d left after : ℕ) (front rest : List Token) → IsCompleteBelow d below → Within e d left after → Spells (spell e) front → ClosesExpr rest → expr_at below left (front ++ rest) ≡ Some (e, after, rest)
unfolding expr_at
complete-expr_at e below d left after front rest h w s c = complete-binary 10 below d h e left after front rest (omega arith) w s c

-- the same outside of an expression, where each has as many operators as may come
pub complete-whole_at : (e : Expr) (below : Option Readers) (d renew left after : ℕ) (front rest : List Token) → IsCompleteBelow d below → Fits (of_expr e) d renew left after → Spells (spell e) front → ClosesExpr rest → whole_at below renew left (front ++ rest) ≡ Some (e, after, rest)
unfolding whole_at
complete-whole_at e below d renew left after front rest h f s c = from f.spent
  where
    with_most : (fewer : ℕ) → left ≡ fewer + (of_expr e).operators → max fewer renew ≡ after → renewed renew (expr_at below left (front ++ rest)) ≡ Some (e, after, rest)
    with_most fewer p q = rw (complete-expr_at e below d left fewer front rest h (record { follows = f.follows; depth = f.depth; count = p }) s c, q) refl

    from : Spent renew left after (of_expr e).operators (of_expr e).most_operators → renewed renew (expr_at below left (front ++ rest)) ≡ Some (e, after, rest)
    from (inl p) = with_most after p.1 (omega (arith, p.0))
    from (inr p) =
        let m : (of_expr e).operators ≤ renew = omega (arith, most_is e, p.2) in
        with_most (renew - (of_expr e).operators) (omega (arith, p.0, m)) (omega (arith, p.1))

-- ---- the readers of expressions at a depth

pub complete-readers-expr : (below : Option Readers) (d : ℕ) → IsCompleteBelow d below → (e : Expr) (left after : ℕ) (front rest : List Token) → (of_expr e).follows ≡ true → (of_expr e).depth ≤ d → left ≡ after + (of_expr e).operators → Spells (spell e) front → ClosesExpr rest → (readers below).expr left (front ++ rest) ≡ Some (e, after, rest)
unfolding readers
complete-readers-expr below d h e left after front rest f w n s c = complete-expr_at e below d left after front rest h (record { follows = f; depth = w; count = n }) s c

pub complete-readers-unary : (below : Option Readers) (d : ℕ) → IsCompleteBelow d below → (e : Expr) (left after : ℕ) (front rest : List Token) → (of_expr e).follows ≡ true → (of_expr e).depth ≤ d → left ≡ after + (of_expr e).operators → unary_level ≤ (of_expr e).level → Spells (spell e) front → ClosesUnary rest → (readers below).unary left (front ++ rest) ≡ Some (e, after, rest)
unfolding readers
complete-readers-unary below d h e left after front rest f w n l s c = complete-unary left e below d left after front rest h l (omega (arith, n)) (record { follows = f; depth = w; count = n }) s c
