-- The merge of logs that stand in order: all of their entries, in order.
use Rattle.std.proofs.Common.{◌≡◌, ℕ, ◌+◌, ◌⊎◌, inl, inr, zero, suc, List, [], ◌∷◌, ◌++◌, get_or, refl, ap, sym, subst, ◌∙◌, arith, false}
use Rattle.std.specs.Prelude.{Some, slice_get, slice_set}
use Rattle.std.specs.List.Sorted.{IsPermutation}
use Rattle.std.proofs.lemmas.List.Sorted.{IsPermutation-append_right, IsPermutation-cons, IsPermutation-middle, IsPermutation-refl, IsPermutation-trans}
use Rattle.controller_machine.specs.declared.ctl.Played.{Played}
use Rattle.timeline_board.specs.Order.{AreEmpty, Gives, IsInOrder, IsMerge, IsNotBefore, IsOrdered, MergeOrders, all_of, comes_before}

-- logs that each stand in order
abbrev AreInOrder : List (List Played) → Type 0
AreInOrder logs = (k : ℕ) (log : List Played) → slice_get logs k ≡ Some log → IsInOrder log

-- what stands in a list after one place was set is what was put there, or stood there before
pub set-cases : {X : Type 0} (xs : List X) (k j : ℕ) (y x : X) → slice_get (slice_set xs k y) j ≡ Some x → ((k ≡ j) × (y ≡ x)) ⊎ (slice_get xs j ≡ Some x)
set-cases [] k j y x at = inr at
set-cases (z ∷ xs) zero zero y x at = let same : y ≡ x = cc in inl (refl, same)
set-cases (z ∷ xs) zero (suc j) y x at = inr at
set-cases (z ∷ xs) (suc k) zero y x at = inr at
set-cases (z ∷ xs) (suc k) (suc j) y x at = elim (set-cases xs k j y x at) [ inl e ↦ inl (ap suc e.0, e.1) | inr e ↦ inr e ]

-- a list without its first entry stands in order too
pub order-tail : (p : Played) (log : List Played) → IsInOrder (p ∷ log) → IsInOrder log
order-tail p log h k d low high =
    let eq : k + 1 ≡ suc k = omega arith in
    let eq2 : k + 1 + 1 ≡ suc (k + 1) = omega arith in
    let got : comes_before (get_or (p ∷ log) (k + 1 + 1) d) (get_or (p ∷ log) (k + 1) d) ≡ false = h (k + 1) d (omega arith) (omega arith) in
    subst (λ n. comes_before (get_or (p ∷ log) (suc (k + 1)) d) (get_or (p ∷ log) n d) ≡ false) eq
    (subst (λ n. comes_before (get_or (p ∷ log) n d) (get_or (p ∷ log) (k + 1) d) ≡ false) eq2 got)

-- the second entry isn't before the first
pub order-second : (p q : Played) (log : List Played) → IsInOrder (p ∷ q ∷ log) → IsNotBefore q p
order-second p q log h = h 0 p (omega arith) (omega arith)

-- one more entry stands in front, before which the first doesn't come
pub order-cons : (p : Played) (log : List Played) → IsInOrder log → ((q : Played) (rest : List Played) → log ≡ q ∷ rest → IsNotBefore q p) → IsInOrder (p ∷ log)
order-cons p [] h behind k d low high = absurd (omega arith)
order-cons p (q ∷ rest) h behind zero d low high = behind q rest refl
order-cons p (q ∷ rest) h behind (suc k) d low high =
    let eq : suc (k + 1) ≡ suc k + 1 = omega arith in
    subst (λ n. comes_before (get_or (p ∷ q ∷ rest) n d) (get_or (q ∷ rest) k d) ≡ false) eq (h k d (omega arith) (omega arith))

-- empty logs have no entries
empty-all : (logs : List (List Played)) → AreEmpty logs → all_of logs ≡ []
empty-all [] h = refl
empty-all (log ∷ logs) h = ap (λ l. l ++ all_of logs) (h 0 log refl) ∙ empty-all logs (λ k l at. h (suc k) l at)

-- an entry is taken from the front of its log
pub moved : (logs : List (List Played)) (k : ℕ) (p : Played) (rest : List Played) → slice_get logs k ≡ Some (p ∷ rest) → IsPermutation (all_of logs) (p ∷ all_of (slice_set logs k rest))
moved [] k p rest at = absurd cc
moved (log ∷ logs) zero p rest at =
    let same : log ≡ p ∷ rest = cc in
    subst (λ l. IsPermutation (l ++ all_of logs) (p ∷ (rest ++ all_of logs))) (sym same) (IsPermutation-refl (p ∷ (rest ++ all_of logs)))
moved (log ∷ logs) (suc k) p rest at =
    IsPermutation-trans (log ++ all_of logs) (log ++ (p ∷ all_of (slice_set logs k rest))) (p ∷ (log ++ all_of (slice_set logs k rest)))
    (IsPermutation-append_right log (all_of logs) (p ∷ all_of (slice_set logs k rest)) (moved logs k p rest at))
    (IsPermutation-middle log p (all_of (slice_set logs k rest)))

-- after an entry is given, the logs that are left stand in order
order-left : (logs left : List (List Played)) (p : Played) → AreInOrder logs → Gives logs left p → AreInOrder left
order-left logs left p ordered gives k log at =
    elim (set-cases logs gives.log k gives.rest log (subst (λ l. slice_get l k ≡ Some log) gives.state at)) [
      | inl e ↦ subst IsInOrder e.1 (order-tail p gives.rest (ordered gives.log (p ∷ gives.rest) gives.here))
      | inr e ↦ ordered k log e
    ]

-- the entry that is given next isn't before this one
next-behind : (logs left after : List (List Played)) (p q : Played) → AreInOrder logs → Gives logs left p → Gives left after q → IsNotBefore q p
next-behind logs left after p q ordered gives next =
    elim (set-cases logs gives.log next.log gives.rest (q ∷ next.rest) (subst (λ l. slice_get l next.log ≡ Some (q ∷ next.rest)) gives.state next.here)) [
      | inl e ↦ order-second p q next.rest (subst (λ r. IsInOrder (p ∷ r)) e.1 (ordered gives.log (p ∷ gives.rest) gives.here))
      | inr e ↦ gives.first next.log q next.rest e
    ]

ordered-merge : (entries : List Played) (logs : List (List Played)) → AreInOrder logs → IsMerge entries logs → IsOrdered (all_of logs) entries
ordered-merge [] logs ordered empty = record {
  all = subst (λ l. IsPermutation l []) (sym (empty-all logs empty)) (IsPermutation-refl []);
  order = λ k d low high. absurd (omega arith);
}
ordered-merge (p ∷ ps) logs ordered m =
    let rest : IsOrdered (all_of m.0) ps = ordered-merge ps m.0 (order-left logs m.0 p ordered m.1) m.2 in
    record {
      all = IsPermutation-trans (all_of logs) (p ∷ all_of m.0) (p ∷ ps)
          (subst (λ l. IsPermutation (all_of logs) (p ∷ all_of l)) (sym m.1.state) (moved logs m.1.log p m.1.rest m.1.here))
          (IsPermutation-cons p (all_of m.0) ps rest.all);
      order = order-cons p ps rest.order
          (λ q qs e. let next = subst (λ es. IsMerge es m.0) e m.2 in next-behind logs m.0 next.0 p q ordered m.1 next.1);
    }

pub merge-orders : MergeOrders
merge-orders logs entries ordered merge = ordered-merge entries logs ordered merge
