-- The first entry of several logs.
use Rattle.std.proofs.Common.{◌≡◌, ℕ, ◌+◌, ◌<◌, ◌⊎◌, inl, inr, zero, suc, List, [], ◌∷◌, refl, ap, sym, subst, ◌∙◌, arith, true, false}
use Rattle.std.specs.Prelude.{Option, Some, None, slice_get}
use Rattle.controller_machine.specs.declared.ctl.Played.{Played}
use Rattle.timeline_board.specs.declared.head.Head.{Head}
use Rattle.timeline_board.specs.Order.{IsNotBefore, comes_before}
use Rattle.timeline_board.specs.steps.Merging.{IsFirstOf}
use Rattle.timeline_board.proofs.Keys.{not-before-earlier, not-before-itself}

-- a number below the next is below or the number itself
below-or-it : (k n : ℕ) → k < n + 1 → (k < n) ⊎ (k ≡ n)
below-or-it zero zero h = inr refl
below-or-it zero (suc n) h = inl (omega arith)
below-or-it (suc k) zero h = absurd (omega arith)
below-or-it (suc k) (suc n) h = elim (below-or-it k n (omega arith)) [ inl l ↦ inl (omega arith) | inr e ↦ inr (ap suc e) ]

-- no log was seen yet
pub first-start : (lefts : List (List Played)) → IsFirstOf lefts 0 None
first-start lefts k left h at = absurd (omega arith)

-- a log without a first entry is empty
is-empty : (left : List Played) → None ≡ slice_get left 0 → left ≡ []
is-empty [] e = refl
is-empty (q ∷ left) e = absurd cc

-- one with a first entry has it before a rest
has-rest : (left : List Played) (e : Played) → Some e ≡ slice_get left 0 → (rest : List Played) × (left ≡ e ∷ rest)
has-rest [] e here = absurd cc
has-rest (q ∷ left) e here = let same : e ≡ q = cc in (left, ap (λ x. x ∷ left) (sym same))

-- the first entry of a log that is found is the one that is known
same-entry : (lefts : List (List Played)) (n k : ℕ) (e q : Played) (left rest : List Played) → slice_get lefts n ≡ Some left → Some e ≡ slice_get left 0
    → k ≡ n → slice_get lefts k ≡ Some (q ∷ rest) → e ≡ q
same-entry lefts n k e q left rest at here is found =
    let same : left ≡ q ∷ rest = cc in
    let first : slice_get left 0 ≡ Some q = ap (λ l. slice_get l 0) same in
    cc

-- an entry that is behind none of the logs before and none of its own
at-all : (lefts : List (List Played)) (n : ℕ) (e p : Played) (left : List Played) → slice_get lefts n ≡ Some left → Some e ≡ slice_get left 0 → IsNotBefore e p
    → ((k : ℕ) (q : Played) (rest : List Played) → k < n → slice_get lefts k ≡ Some (q ∷ rest) → IsNotBefore q p)
    → (k : ℕ) (q : Played) (rest : List Played) → k < n + 1 → slice_get lefts k ≡ Some (q ∷ rest) → IsNotBefore q p
at-all lefts n e p left at here not_before below k q rest h found =
    elim (below-or-it k n h) [ inl l ↦ below k q rest l found | inr is ↦ subst (λ x. IsNotBefore x p) (same-entry lefts n k e q left rest at here is found) not_before ]

-- one more log, which is empty
pub first-empty : (lefts : List (List Played)) (n : ℕ) (f : Option Head) (left : List Played) → IsFirstOf lefts n f → slice_get lefts n ≡ Some left → None ≡ slice_get left 0
    → IsFirstOf lefts (n + 1) f
first-empty lefts n None left is at here =
    λ k l h found. elim (below-or-it k n h) [ inl b ↦ is k l b found | inr e ↦ let same : left ≡ l = cc in sym same ∙ is-empty left here ]
first-empty lefts n (Some h) left is at here = record {
  rest = is.rest;
  before = let b = is.before in omega arith;
  here = is.here;
  first = λ k q rest l found. elim (below-or-it k n l) [
    | inl b ↦ is.first k q rest b found
    | inr e ↦ let same : left ≡ q ∷ rest = cc in let none : left ≡ [] = is-empty left here in absurd cc
  ];
}

-- one more log, whose entry is the first of all
pub first-new : (lefts : List (List Played)) (n : ℕ) (e : Played) (left : List Played) → IsFirstOf lefts n None → slice_get lefts n ≡ Some left → Some e ≡ slice_get left 0
    → IsFirstOf lefts (n + 1) (Some (record { log = n; entry = e }))
first-new lefts n e left none at here =
    let split = has-rest left e here in
    record {
      rest = split.0;
      before = omega arith;
      here = at ∙ ap Some split.1;
      first = at-all lefts n e e left at here (not-before-itself e) (λ k q rest h found. absurd (let empty = none k (q ∷ rest) h found in cc));
    }

-- one more log, whose entry comes before the first
pub first-earlier : (lefts : List (List Played)) (n : ℕ) (h : Head) (e : Played) (left : List Played) → IsFirstOf lefts n (Some h) → slice_get lefts n ≡ Some left
    → Some e ≡ slice_get left 0 → comes_before e h.entry ≡ true → IsFirstOf lefts (n + 1) (Some (record { log = n; entry = e }))
first-earlier lefts n h e left is at here early =
    let split = has-rest left e here in
    record {
      rest = split.0;
      before = omega arith;
      here = at ∙ ap Some split.1;
      first = at-all lefts n e e left at here (not-before-itself e) (λ k q rest l found. not-before-earlier q h.entry e (is.first k q rest l found) early);
    }

-- one more log, whose entry doesn't
pub first-kept : (lefts : List (List Played)) (n : ℕ) (h : Head) (e : Played) (left : List Played) → IsFirstOf lefts n (Some h) → slice_get lefts n ≡ Some left
    → Some e ≡ slice_get left 0 → comes_before e h.entry ≡ false → IsFirstOf lefts (n + 1) (Some h)
first-kept lefts n h e left is at here late = record {
  rest = is.rest;
  before = let b = is.before in omega arith;
  here = is.here;
  first = at-all lefts n e h.entry left at here late is.first;
}
