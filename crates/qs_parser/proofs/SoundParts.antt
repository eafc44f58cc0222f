-- What is said of each reader: what it took from the tokens spells what it read, which follows the grammar, and is as deep and as large as it may be.
use Rattle.std.proofs.Common.{◌≡◌, ℕ, suc, ◌+◌, ◌≤◌, max, Bool, true, false, cond, codes, List, Option, Some, None, refl, subst, arith}
use Rattle.std.specs.Prelude.{IfSome}
use Rattle.std.proofs.lemmas.Bool.{and_from}
use Rattle.qs_lexer.specs.declared.token.Token.{Token}
use Rattle.qs_tree.specs.Spelling.{Piece, sign, word}
use Rattle.qs_tree.specs.WellFormed.{Features, both, in_brackets, nothing, where_true}
use Rattle.qs_parser.specs.steps.Tokens.{◌>>=◌, after_sign, after_word}
use Rattle.qs_parser.specs.steps.Statements.{stopped}
use Rattle.qs_parser.proofs.TokenPieces.{Took, took_sign, took_word}

-- ---- what holds of anything that is read

pub record Holds {A : Type 0} (read : Option A) (P : A → Type 0) : Type 0 where
  pub is : IfSome read P

pub holds_some : {A : Type 0} {P : A → Type 0} (x : A) → P x → Holds (Some x) P
holds_some x h = record { is = h }

pub holds_bind : {A B : Type 0} {r : Option A} {f : A → Option B} {P : A → Type 0} {Q : B → Type 0} → Holds r P → ((x : A) → P x → Holds (f x) Q) → Holds (r >>= f) Q
holds_bind {r = None} a b = record { is = tt }
holds_bind {r = Some x} a b = b x a.is

pub holds_at : {A : Type 0} {P : A → Type 0} (r : Option A) (x : A) → Holds r P → r ≡ Some x → P x
holds_at None x h e = absurd cc
holds_at {P = P} (Some y) x h e = let same : y ≡ x = cc in subst P same h.is

pub holds_with : {A : Type 0} {P Q : A → Type 0} {r : Option A} → Holds r P → ((x : A) → P x → Q x) → Holds r Q
holds_with {r = None} a b = record { is = tt }
holds_with {r = Some x} a b = record { is = b x a.is }

pub holds_both : {A : Type 0} {P Q : A → Type 0} {r : Option A} → Holds r P → Holds r Q → Holds r (λ x. P x × Q x)
holds_both {r = None} a b = record { is = tt }
holds_both {r = Some x} a b = record { is = (a.is, b.is) }

-- the way that a test goes
pub holds_if : {A : Type 0} {P : A → Type 0} (b : Bool) {x y : Option A} → (b ≡ true → Holds x P) → (b ≡ false → Holds y P) → Holds (cond b x y) P
holds_if true f g = f refl
holds_if false f g = g refl

-- what may be there or not
pub holds_either : {A B : Type 0} {P : B → Type 0} (r : Option A) {x : Option B} {f : A → Option B} → (r ≡ None → Holds x P) → ((a : A) → r ≡ Some a → Holds (f a) P) → Holds (elim r [ None ↦ x | Some a ↦ f a ]) P
holds_either None g h = g refl
holds_either (Some a) g h = h a refl

pub holds_sign : (text : List ℕ) (ts : List Token) → Holds (after_sign text ts) (λ rest. Took (sign text) ts rest)
holds_sign text ts = seen (after_sign text ts) (λ rest e. took_sign text ts rest e)
  where
    seen : (r : Option (List Token)) → ((rest : List Token) → r ≡ Some rest → Took (sign text) ts rest) → Holds r (λ rest. Took (sign text) ts rest)
    seen None h = record { is = tt }
    seen (Some rest) h = record { is = h rest refl }

pub holds_word : (text : List ℕ) (ts : List Token) → Holds (after_word text ts) (λ rest. Took (word text) ts rest)
holds_word text ts = seen (after_word text ts) (λ rest e. took_word text ts rest e)
  where
    seen : (r : Option (List Token)) → ((rest : List Token) → r ≡ Some rest → Took (word text) ts rest) → Holds r (λ rest. Took (word text) ts rest)
    seen None h = record { is = tt }
    seen (Some rest) h = record { is = h rest refl }

-- what stands before a semicolon
pub holds_stopped : {A : Type 0} {P : A × ℕ × List Token → Type 0} (x : A) (left : ℕ) (ts : List Token) → ((rest : List Token) → Took (sign (codes ";")) ts rest → P (x, left, rest)) → Holds (stopped x left ts) P
unfolding stopped
holds_stopped x left ts h = holds_bind (holds_sign (codes ";") ts) (λ rest t. holds_some (x, left, rest) (h rest t))

-- ---- how many operators may come

-- Inside an expression (renew is 0) the operators are taken off; outside of one each expression has as many as may come.
pub record Costs (renew left after operators most : ℕ) : Type 0 where
  pub inside : renew ≡ 0 → left ≡ after + operators
  pub whole : left ≡ renew → (after ≡ renew) × (most ≤ renew)

costs_then : {renew l a b o1 o2 m1 m2 : ℕ} → Costs renew l a o1 m1 → Costs renew a b o2 m2 → Costs renew l b (o1 + o2) (max m1 m2)
costs_then {renew = renew} {l = l} x y = record {
  inside = λ e. omega (arith, x.inside e, y.inside e);
  whole = λ e. let p = x.whole e in let q = y.whole p.0 in (q.0, omega (arith, p.1, q.1));
}

-- ---- what is read follows the grammar, and is no larger than it may be

pub record Counted (f : Features) (d renew left after : ℕ) : Type 0 where
  pub follows : f.follows ≡ true
  pub depth : f.depth ≤ d
  pub spent : Costs renew left after f.operators f.most_operators

pub counted_nothing : {d renew left : ℕ} → Counted nothing d renew left left
counted_nothing = record { follows = refl; depth = omega arith; spent = record { inside = λ e. omega arith; whole = λ e. (e, omega arith) } }

pub counted_both : {f g : Features} {d renew l a b : ℕ} → Counted f d renew l a → Counted g d renew a b → Counted (both f g) d renew l b
counted_both x y = record { follows = and_from _ _ x.follows y.follows; depth = omega (arith, x.depth, y.depth); spent = costs_then x.spent y.spent }

pub counted_where : {f : Features} {d renew l a : ℕ} {rule : Bool} → rule ≡ true → Counted f d renew l a → Counted (where_true rule f) d renew l a
counted_where e x = record { follows = and_from _ _ e x.follows; depth = x.depth; spent = x.spent }

pub counted_brackets : {f : Features} {e d renew l a : ℕ} → suc e ≤ d → Counted f e renew l a → Counted (in_brackets f) d renew l a
counted_brackets h x = record { follows = x.follows; depth = omega (arith, h, x.depth); spent = x.spent }

-- what was taken, and what it is
pub record Read (ps : List Piece) (f : Features) (d renew left : ℕ) (ts : List Token) (after : ℕ) (rest : List Token) : Type 0 where
  pub took : Took ps ts rest
  pub counted : Counted f d renew left after
