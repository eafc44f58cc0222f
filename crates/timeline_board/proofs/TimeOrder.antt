-- Entries that are put in order: all of them, in order, and those that tie as they stood.
use Rattle.std.proofs.Common.{◌≡◌, List, [], ◌∷◌, Bool, true, false, true≢false, cond, refl, sym, ap, ◌∙◌, subst, arith}
use Rattle.std.specs.List.Sorted.{IsPermutation, ties}
use Rattle.std.proofs.lemmas.List.Sorted.{IsPermutation-cons, IsPermutation-middle, IsPermutation-refl, IsPermutation-trans}
use Rattle.controller_machine.specs.declared.ctl.Played.{Played}
use Rattle.timeline_board.specs.Order.{IsInOrder, IsNotBefore, TimeOrderOrders, comes_before, in_time_order, put_in}
use Rattle.timeline_board.proofs.Keys.{before-ranks}
use Rattle.timeline_board.proofs.Merges.{order-cons, order-second, order-tail}
use Rattle.timeline_board.proofs.Sorts.{IsFront, Rises, class, front-further, rises-once, ties-level}

abbrev Front : Played → List Played → Type 0
Front p ps = IsFront comes_before before-ranks p ps

abbrev InOrder : List Played → Type 0
InOrder ps = Rises comes_before before-ranks ps

abbrev like : Played → List Played → List Played
like p ps = class comes_before before-ranks p ps

front-put : (q p : Played) (ps : List Played) → Front q ps → IsNotBefore p q → Front q (put_in p ps)
front-put q p [] front later = (later, tt)
front-put q p (r ∷ rs) front later =
    elim (comes_before r p) as (λ b. Front q (cond b (r ∷ put_in p rs) (p ∷ r ∷ rs))) [
      | true ↦ (front.0, front-put q p rs front.1 later)
      | false ↦ (later, front)
    ]

rises-put : (p : Played) (ps : List Played) → InOrder ps → InOrder (put_in p ps)
rises-put p [] rises = (tt, tt)
rises-put p (q ∷ qs) rises = by-test (comes_before q p) refl (rises-put p qs rises.1)
  where
    by-test : (b : Bool) → comes_before q p ≡ b → InOrder (put_in p qs) → InOrder (cond b (q ∷ put_in p qs) (p ∷ q ∷ qs))
    by-test true e rest = (front-put q p qs rises.0 (before-ranks.one_way q p e), rest)
    by-test false e rest = ((e, front-further comes_before before-ranks p q qs e rises.0), rises)

-- Entries that are put in order rise.
pub rises-time_order : (ps : List Played) → InOrder (in_time_order ps)
rises-time_order [] = tt
rises-time_order (p ∷ ps) = rises-put p (in_time_order ps) (rises-time_order ps)

-- one of two heads at most ties
swap-heads : (x p q : Played) (ps : List Played) → comes_before q p ≡ true → like x (q ∷ p ∷ ps) ≡ like x (p ∷ q ∷ ps)
swap-heads x p q ps before = by-tests (ties comes_before x p) (ties comes_before x q) refl refl
  where
    by-tests : (a b : Bool) → ties comes_before x p ≡ a → ties comes_before x q ≡ b
        → cond b (q ∷ cond a (p ∷ like x ps) (like x ps)) (cond a (p ∷ like x ps) (like x ps)) ≡ cond a (p ∷ cond b (q ∷ like x ps) (like x ps)) (cond b (q ∷ like x ps) (like x ps))
    by-tests true true one other = absurd (true≢false (sym (ties-level comes_before before-ranks x p q before other one)))
    by-tests true false one other = refl
    by-tests false true one other = refl
    by-tests false false one other = refl

like-cons : (x q : Played) (ps rs : List Played) → like x ps ≡ like x rs → like x (q ∷ ps) ≡ like x (q ∷ rs)
like-cons x q ps rs same = ap (λ l. cond (ties comes_before x q) (q ∷ l) l) same

like-put : (x p : Played) (ps : List Played) → like x (put_in p ps) ≡ like x (p ∷ ps)
like-put x p [] = refl
like-put x p (q ∷ qs) = by-test (comes_before q p) refl (like-put x p qs)
  where
    by-test : (b : Bool) → comes_before q p ≡ b → like x (put_in p qs) ≡ like x (p ∷ qs) → like x (cond b (q ∷ put_in p qs) (p ∷ q ∷ qs)) ≡ like x (p ∷ q ∷ qs)
    by-test true e rest = like-cons x q (put_in p qs) (p ∷ qs) rest ∙ swap-heads x p q qs e
    by-test false e rest = refl

-- Those that tie stand as they stood.
pub like-time_order : (x : Played) (ps : List Played) → like x (in_time_order ps) ≡ like x ps
like-time_order x [] = refl
like-time_order x (p ∷ ps) = like-put x p (in_time_order ps) ∙ like-cons x p (in_time_order ps) ps (like-time_order x ps)

put-all : (p : Played) (ps : List Played) → IsPermutation (p ∷ ps) (put_in p ps)
put-all p [] = IsPermutation-refl (p ∷ [])
put-all p (q ∷ qs) =
    elim (comes_before q p) as (λ b. IsPermutation (p ∷ q ∷ qs) (cond b (q ∷ put_in p qs) (p ∷ q ∷ qs))) [
      | true ↦ IsPermutation-trans (p ∷ q ∷ qs) (q ∷ p ∷ qs) (q ∷ put_in p qs) (IsPermutation-middle (p ∷ []) q qs) (IsPermutation-cons q (p ∷ qs) (put_in p qs) (put-all p qs))
      | false ↦ IsPermutation-refl (p ∷ q ∷ qs)
    ]

time-order-all : (ps : List Played) → IsPermutation ps (in_time_order ps)
time-order-all [] = IsPermutation-refl []
time-order-all (p ∷ ps) =
    IsPermutation-trans (p ∷ ps) (p ∷ in_time_order ps) (put_in p (in_time_order ps)) (IsPermutation-cons p ps (in_time_order ps) (time-order-all ps)) (put-all p (in_time_order ps))

-- what rises stands in order, and the other way round
to-order : (ps : List Played) → InOrder ps → IsInOrder ps
to-order [] rises = λ k d low high. absurd (omega arith)
to-order (p ∷ ps) rises = order-cons p ps (to-order ps rises.1) (λ q rest e. (subst (Front p) e rises.0).0)

pub from-order : (ps : List Played) → IsInOrder ps → InOrder ps
from-order [] order = tt
from-order (p ∷ []) order = (tt, tt)
from-order (p ∷ q ∷ qs) order =
    let rest : InOrder (q ∷ qs) = from-order (q ∷ qs) (order-tail p (q ∷ qs) order) in
    let second : IsNotBefore q p = order-second p q qs order in
    ((second, front-further comes_before before-ranks p q qs second rest.0), rest)

-- Entries that are put in order are all of them, in order.
pub time-order-orders : TimeOrderOrders
time-order-orders ps = record { all = time-order-all ps; order = to-order (in_time_order ps) (rises-time_order ps) }

-- A list in order in which those that tie stand as in another is that one put in order.
pub time-order-once : (es ps : List Played) → IsInOrder es → ((x : Played) → like x es ≡ like x ps) → es ≡ in_time_order ps
time-order-once es ps order same =
    rises-once comes_before before-ranks es (in_time_order ps) (from-order es order) (rises-time_order ps) (λ x. same x ∙ sym (like-time_order x ps))
