-- An expression comes to one thing.
use Rattle.std.proofs.Common.{◌≡◌, ℕ, List, refl, ap, sym, ◌∙◌, subst, inl, inr, ◌⊎◌, pos, Option, Some, None, Result, Ok}
use Rattle.std.specs.Coded.{coded_list, coded_ℕ}
use Rattle.qs_values.specs.declared.span.Span.{Span}
use Rattle.qs_tree.specs.declared.constant.ConstVal.{ConstVal}
use Rattle.qs_tree.specs.declared.constant.ConstVal.TheVariants.{Number, Bits}
use Rattle.qs_tree.specs.declared.constant.Consts.{Consts}
use Rattle.qs_tree.specs.declared.constant.Digits.{Digits}
use Rattle.qs_tree.specs.contracts.constant.Digits.{the_ghost, the_propositions, the_values}
use Rattle.qs_tree.specs.declared.expr.Expr.{Expr}
use Rattle.qs_tree.specs.declared.operator.BinOp.{BinOp}
use Rattle.qs_tree.specs.declared.operator.UnOp.{UnOp}
use Rattle.qs_tree.specs.Texts.{bits_of}
use Rattle.qs_const.specs.declared.cause.Cause.{Cause}
use Rattle.qs_const.specs.declared.judgement.Kinds.{Kinds}
use Rattle.qs_const.specs.declared.judgement.Judgement.{Judgement}
use Rattle.qs_const.specs.declared.judgement.Judgement.TheVariants.{Value, Absent}
use Rattle.qs_const.specs.Scopes.{Scope}
use Rattle.qs_const.specs.Trees.{Tree, Integer, Fraction, Given, Quoted, Truthful, Named, Indexed, Called, Ruleless, Timed, Enclosed, Unary, Binary, tree_of}
use Rattle.qs_const.specs.Folding.{IsFoldable, IsValueOrRefusal, scope_of}
use Rattle.qs_const.specs.Judging.{ComesTo, NameComesTo, PairComesTo, TextComesTo, UnaryComesTo, any_kind, indexed, of_result, times_pi}
use Rattle.qs_values.proofs.OneNumber.{number_once, one_nonzero, one_zero, same_number}
use Rattle.qs_const.proofs.OneResult.{Once, gives_whole, pair_once, unary_once}

-- ---- names and texts

option_case : {A : Type 0} (o : Option A) → (o ≡ None) ⊎ ((a : A) × (o ≡ Some a))
option_case None = inl refl
option_case (Some a) = inr (a, refl)

name_once : (scope : Scope) (span : Span) (name : List ℕ) (j k : Judgement) → NameComesTo scope span name j → NameComesTo scope span name k → j ≡ k
name_once scope span name j k p q = elim (option_case (times_pi name)) [
  | inr some ↦ (
      let h = rw (some.1, NameComesTo) at p in
      let i = rw (some.1, NameComesTo) at q in
      let same : Ok h.0 ≡ Ok i.0 = number_once (pos 0) (pos 1) (pos some.0) (pos 1) (Ok h.0) (Ok i.0) one_nonzero one_nonzero h.1 i.1 in
      cc)
  | inl none ↦ (rw (none, NameComesTo) at p) ∙ sym (rw (none, NameComesTo) at q)
]

abbrev digits_with : (v : the_values) → the_ghost v → Digits
digits_with v g = record { text = v.0; binary = g.0 }

digits_once : (v w : the_values) → v ≡ w → (p : the_ghost v) (q : the_ghost w) → digits_with v p ≡ digits_with w q
digits_once v w same = subst (λ (x : the_values). (p : the_ghost v) (q : the_ghost x) → digits_with v p ≡ digits_with x q) same (λ p q. ap (digits_with v) (the_propositions (coded_list coded_ℕ) v p q))

-- digits are those of their text
same_digits : (c d : Digits) → c.text ≡ d.text → c ≡ d
same_digits c d e = digits_once (c.text, tt) (d.text, tt) (λ i. (e i, tt)) (c.binary, tt) (d.binary, tt)

text_once : (any : Kinds) (span : Span) (text : List ℕ) (j k : Judgement) → TextComesTo any span text j → TextComesTo any span text k → j ≡ k
text_once any span text j k p q = elim (option_case (bits_of text)) [
  | inr some ↦ (
      let h = rw (some.1, TextComesTo) at p in
      let i = rw (some.1, TextComesTo) at q in
      h.2 ∙ ap (λ d. Value (Bits d)) (same_digits h.0 i.0 (h.1 ∙ sym i.1)) ∙ sym i.2)
  | inl none ↦ (rw (none, TextComesTo) at p) ∙ sym (rw (none, TextComesTo) at q)
]

-- ---- operations

of_one : (P : Result ConstVal Cause → Type 0) → Once P → (any : Kinds) (span : Span) (m n : Result ConstVal Cause) (j k : Judgement) → P m → j ≡ of_result any span m → P n → k ≡ of_result any span n → j ≡ k
of_one P once any span m n j k p e q d = e ∙ ap (of_result any span) (once m n p q) ∙ sym d

unary_comes : (any : Kinds) (span : Span) (op : UnOp) (x j k : Judgement) → UnaryComesTo any span op x j → UnaryComesTo any span op x k → j ≡ k
unary_comes any span op (Value v) j k (m, p, e) (n, q, d) = of_one _ (unary_once op v) any span m n j k p e q d
unary_comes any span op (Absent a) j k e d = e ∙ sym d

pair_comes : (any : Kinds) (span : Span) (op : BinOp) (x y j k : Judgement) → PairComesTo any span op x y j → PairComesTo any span op x y k → j ≡ k
pair_comes any span op (Value v) (Value w) j k (m, p, e) (n, q, d) = of_one _ (pair_once op v w) any span m n j k p e q d
pair_comes any span op (Value v) (Absent b) j k e d = e ∙ sym d
pair_comes any span op (Absent a) (Value w) j k e d = e ∙ sym d
pair_comes any span op (Absent a) (Absent b) j k e d = e ∙ sym d

-- ---- all of it

pub comes_to_one : (scope : Scope) (t : Tree) (j k : Judgement) → ComesTo scope t j → ComesTo scope t k → j ≡ k
comes_to_one scope (Integer span i) j k (m, p, e) (n, q, d) = of_one _ (gives_whole (pos i)) _ span m n j k p e q d
comes_to_one scope (Fraction r) j k (x, p, zero_x, e) (y, q, zero_y, d) = e ∙ ap (λ z. Value (Number z)) (same_number x y (p ∙ sym q) (one_zero x.pi y.pi zero_x zero_y)) ∙ sym d
comes_to_one scope (Given x) j k e d = e ∙ sym d
comes_to_one scope (Quoted span text) j k p q = text_once _ span text j k p q
comes_to_one scope (Truthful b) j k e d = e ∙ sym d
comes_to_one scope (Named span name) j k p q = name_once scope span name j k p q
comes_to_one scope (Indexed span name index) j k (x, a, e) (y, b, d) = e ∙ ap (indexed scope span name) (comes_to_one scope index x y a b) ∙ sym d
comes_to_one scope (Called span name) j k e d = e ∙ sym d
comes_to_one scope (Ruleless span) j k e d = e ∙ sym d
comes_to_one scope Timed j k e d = e ∙ sym d
comes_to_one scope (Enclosed inner) j k a b = comes_to_one scope inner j k a b
comes_to_one scope (Unary span op operand) j k (x, a, p) (y, b, q) =
    let same = comes_to_one scope operand x y a b in
    unary_comes (any_kind scope) span op y j k (subst (λ z. UnaryComesTo (any_kind scope) span op z j) same p) q
comes_to_one scope (Binary span left op right) j k (x, y, a, b, p) (z, w, c, o, q) =
    let first = comes_to_one scope left x z a c in
    let second = comes_to_one scope right y w b o in
    pair_comes (any_kind scope) span op z w j k (subst (λ u. PairComesTo (any_kind scope) span op u w j) first (subst (λ u. PairComesTo (any_kind scope) span op x u j) second p)) q

-- what comes to a value or a refusal may be folded
pub foldable : (e : Expr) (consts : Consts) (j : Judgement) → ComesTo (scope_of consts.list) (tree_of e) j → IsValueOrRefusal j → IsFoldable e consts
foldable e consts j is told k comes = subst IsValueOrRefusal (comes_to_one (scope_of consts.list) (tree_of e) j k is comes) told
