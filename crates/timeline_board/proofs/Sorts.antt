-- Lists in order, with what ties as it stood, are one list.
use Rattle.std.proofs.Common.{◌≡◌, List, [], ◌∷◌, Bool, true, false, true≢false, cond, filter, refl, sym, ap, ◌∙◌, suc, arith}
use Rattle.std.specs.Prelude.{All, ◌&&◌, not}
use Rattle.std.specs.Cmp.{IsStrictWeakOrder}
use Rattle.std.specs.List.{AllPairs}
use Rattle.std.specs.List.Sorted.{IsSortedBy, ties}
use Rattle.std.proofs.lemmas.List.Elements.{All-head, All-tail}
use Rattle.std.proofs.lemmas.List.Sorted.{sorted_far}

module _ {X : Type 0} (lt : X → X → Bool) (ranks : IsStrictWeakOrder lt) where
  -- no element of a list comes before this one
  abbrev pub IsFront : X → List X → Type 0
  IsFront x [] = Unit {0}
  IsFront x (y ∷ ys) = (lt y x ≡ false) × IsFront x ys

  -- no element comes before an earlier one
  abbrev pub Rises : List X → Type 0
  Rises [] = Unit {0}
  Rises (x ∷ xs) = IsFront x xs × Rises xs

  -- the elements of a list that tie with one
  abbrev pub class : X → List X → List X
  class x ys = filter (ties lt x) ys

  irreflexive : (x : X) (b : Bool) → lt x x ≡ b → lt x x ≡ false
  irreflexive x true e = ranks.one_way x x e
  irreflexive x false e = e

  ties-itself : (x : X) → ties lt x x ≡ true
  ties-itself x = let never = irreflexive x (lt x x) refl in rw never refl

  ties-both : (x y : X) → lt x y ≡ false → lt y x ≡ false → ties lt x y ≡ true
  ties-both x y one other = rw (one, other) refl

  ties-flip : (x y : X) (a b : Bool) → lt x y ≡ a → lt y x ≡ b → ties lt y x ≡ ties lt x y
  ties-flip x y true true one other = rw (one, other) refl
  ties-flip x y true false one other = rw (one, other) refl
  ties-flip x y false true one other = rw (one, other) refl
  ties-flip x y false false one other = rw (one, other) refl

  pub ties-second : (x y : X) (a b : Bool) → lt x y ≡ a → lt y x ≡ b → ties lt x y ≡ true → lt y x ≡ false
  ties-second x y true b one other tie = absurd (true≢false (sym tie ∙ ap (λ c. not c && not (lt y x)) one))
  ties-second x y false true one other tie = absurd (true≢false (sym tie ∙ rw (one, other) refl))
  ties-second x y false false one other tie = other

  ties-first : (x y : X) (a b : Bool) → lt x y ≡ a → lt y x ≡ b → ties lt x y ≡ true → lt x y ≡ false
  ties-first x y true b one other tie = absurd (true≢false (sym tie ∙ ap (λ c. not c && not (lt y x)) one))
  ties-first x y false b one other tie = one

  -- of those that tie with x, none comes before y where none of all does
  front-class : (x y : X) (ys : List X) → IsFront y ys → IsFront y (class x ys)
  front-class x y [] front = tt
  front-class x y (z ∷ ys) front =
      elim (ties lt x z) as (λ b. IsFront y (cond b (z ∷ class x ys) (class x ys))) [ true ↦ (front.0, front-class x y ys front.1) | false ↦ front-class x y ys front.1 ]

  pub front-further : (x y : X) (ys : List X) → lt y x ≡ false → IsFront y ys → IsFront x ys
  front-further x y [] before front = tt
  front-further x y (z ∷ ys) before front = (ranks.chain z y x front.0 before, front-further x y ys before front.1)

  front-head : (y x : X) (rest zs : List X) → zs ≡ x ∷ rest → IsFront y zs → lt x y ≡ false
  front-head y x rest [] e front = absurd cc
  front-head y x rest (z ∷ zs) e front = let same : z ≡ x = cc in rw (sym same) front.0

  pub kept : (x y : X) (ys : List X) → ties lt x y ≡ true → class x (y ∷ ys) ≡ y ∷ class x ys
  kept x y ys tie = rw tie refl

  pub left-out : (x y : X) (ys : List X) → ties lt x y ≡ false → class x (y ∷ ys) ≡ class x ys
  left-out x y ys tie = rw tie refl

  -- the classes of the rests, where those of two lists with one head are the same
  class-rest : (x z : X) (xs ys : List X) → class z (x ∷ xs) ≡ class z (x ∷ ys) → class z xs ≡ class z ys
  class-rest x z xs ys =
      elim (ties lt z x) as (λ b. cond b (x ∷ class z xs) (class z xs) ≡ cond b (x ∷ class z ys) (class z ys) → class z xs ≡ class z ys) [ true ↦ λ e. cc | false ↦ λ e. e ]

  -- heads of lists in order whose classes are the same
  same-heads : (x y : X) (xs ys : List X) (tie : Bool) → ties lt x y ≡ tie → Rises (x ∷ xs) → Rises (y ∷ ys)
      → ((z : X) → class z (x ∷ xs) ≡ class z (y ∷ ys)) → x ≡ y
  same-heads x y xs ys true tie rises rises' same =
      let here : x ∷ class x xs ≡ y ∷ class x ys = sym (kept x x xs (ties-itself x)) ∙ same x ∙ kept x y ys tie in cc
  same-heads x y xs ys false tie rises rises' same =
      let flipped = ties-flip x y (lt x y) (lt y x) refl refl in
      let in_ys : class x ys ≡ x ∷ class x xs = sym (left-out x y ys tie) ∙ sym (same x) ∙ kept x x xs (ties-itself x) in
      let in_xs : class y xs ≡ y ∷ class y ys = sym (left-out y x xs (flipped ∙ tie)) ∙ same y ∙ kept y y ys (ties-itself y) in
      let no_first : lt x y ≡ false = front-head y x (class x xs) (class x ys) in_ys (front-class x y ys rises'.0) in
      let no_second : lt y x ≡ false = front-head x y (class y ys) (class y xs) in_xs (front-class y x xs rises.0) in
      absurd (true≢false (sym (ties-both x y no_first no_second) ∙ tie))

  -- Lists in order whose classes are the same are the same.
  pub rises-once : (xs ys : List X) → Rises xs → Rises ys → ((z : X) → class z xs ≡ class z ys) → xs ≡ ys
  rises-once [] [] rises rises' same = refl
  rises-once [] (y ∷ ys) rises rises' same = let none = same y ∙ kept y y ys (ties-itself y) in absurd cc
  rises-once (x ∷ xs) [] rises rises' same = let none = sym (kept x x xs (ties-itself x)) ∙ same x in absurd cc
  rises-once (x ∷ xs) (y ∷ ys) rises rises' same =
      let heads : x ≡ y = same-heads x y xs ys (ties lt x y) refl rises rises' same in
      let rests : xs ≡ ys = rises-once xs ys rises.1 rises'.1 (λ z. class-rest x z xs ys (rw (sym heads) at (same z))) in
      rw (heads, rests) refl

  -- what ties with one element and comes before what ties with it doesn't exist
  pub ties-level : (x p q : X) → lt q p ≡ true → ties lt x q ≡ true → ties lt x p ≡ true → false ≡ true
  ties-level x p q before one other =
      let low : lt q x ≡ false = ties-second x q (lt x q) (lt q x) refl refl one in
      let high : lt x p ≡ false = ties-first x p (lt x p) (lt p x) refl refl other in
      sym (ranks.chain q x p low high) ∙ before

  front-all : (x : X) (xs : List X) → All (λ y. lt y x ≡ false) xs → IsFront x xs
  front-all x [] all = tt
  front-all x (y ∷ ys) all = (All-head (λ z. lt z x ≡ false) y ys all, front-all x ys (All-tail (λ z. lt z x ≡ false) y ys all))

  rises-pairs : (xs : List X) → AllPairs (λ x y. lt y x ≡ false) xs → Rises xs
  rises-pairs [] pairs = tt
  rises-pairs (x ∷ xs) pairs =
      (front-all x xs (λ k d within. pairs 0 (suc k) d (omega arith) (omega arith)), rises-pairs xs (λ i j d before within. pairs (suc i) (suc j) d (omega arith) (omega arith)))

  rises-sorted : (xs : List X) → IsSortedBy lt xs → Rises xs
  rises-sorted xs sorted = rises-pairs xs (λ i j d before within. sorted_far lt ranks xs sorted i j d (omega arith) within)

  -- Sorted lists whose classes are the same are the same.
  pub sorted-once : (xs ys : List X) → IsSortedBy lt xs → IsSortedBy lt ys → ((z : X) → class z xs ≡ class z ys) → xs ≡ ys
  sorted-once xs ys sorted sorted' same = rises-once xs ys (rises-sorted xs sorted) (rises-sorted ys sorted') same
