-- Lists of which each element may stand before every later one, and the order of offset and port.
use Rattle.std.proofs.Common.{◌≡◌, ℕ, ◌+◌, ◌<◌, List, [], ◌∷◌, ◌++◌, cond, true, false, suc, arith}
use Rattle.std.specs.Prelude.{Bool, Option, Some, None, All, IfSome, filter}
use Rattle.std.specs.Cmp.{IsStrictWeakOrder}
use Rattle.std.specs.List.{AllPairs, cons_option, filter_map}
use Rattle.std.specs.List.Sorted.{IsSortedBy}
use Rattle.std.specs.Ordering.{is_lt}
use Rattle.std.proofs.lemmas.Bool.Decides.{nat_tests}
use Rattle.std.proofs.lemmas.List.Elements.{All-append, All-cons, All-head, All-tail}
use Rattle.std.proofs.lemmas.List.Kept.{AllPairs-cons}
use Rattle.std.proofs.lemmas.List.Sorted.{sorted_far}
use Rattle.plan_tree.specs.Sound.{start_cmp}

-- In a sorted list no element is less than one before it, near or far.
pub AllPairs-from_sorted : {X : Type 0} (lt : X → X → Bool) → IsStrictWeakOrder lt → (xs : List X) → IsSortedBy lt xs → AllPairs (λ x y. lt y x ≡ false) xs
AllPairs-from_sorted lt order xs up i j d before within = sorted_far lt order xs up i j d (omega arith) within

pub sorted-from_AllPairs : {X : Type 0} (lt : X → X → Bool) (xs : List X) → AllPairs (λ x y. lt y x ≡ false) xs → IsSortedBy lt xs
sorted-from_AllPairs lt xs pairs k d low within = pairs k (k + 1) d (omega arith) within

-- What is true of an option's value and of a list is true of both together.
pub All-cons_option : {X : Type 0} (P : X → Type 0) (o : Option X) (xs : List X) → IfSome o P → All P xs → All P (cons_option o xs)
All-cons_option P None xs first rest = rest
All-cons_option P (Some x) xs first rest = All-cons P x xs first rest

pub All-option_value : {X : Type 0} (P : X → Type 0) (o : Option X) (xs : List X) → All P (cons_option o xs) → IfSome o P
All-option_value P None xs all = tt
All-option_value P (Some x) xs all = All-head P x xs all

pub All-option_rest : {X : Type 0} (P : X → Type 0) (o : Option X) (xs : List X) → All P (cons_option o xs) → All P xs
All-option_rest P None xs all = all
All-option_rest P (Some x) xs all = All-tail P x xs all

-- A part of a list gives a part of what the list gives.
pub All-part : {X Y : Type 0} (P : Y → Type 0) (h : X → Option Y) (p : X → Bool) (xs : List X) → All P (filter_map h xs) → All P (filter_map h (filter p xs))
All-part P h p [] all = all
All-part P h p (x ∷ xs) all =
    let rest = All-part P h p xs (All-option_rest P (h x) (filter_map h xs) all) in
    elim (p x) as (λ b. All P (filter_map h (cond b (x ∷ filter p xs) (filter p xs)))) [
      | true ↦ All-cons_option P (h x) (filter_map h (filter p xs)) (All-option_value P (h x) (filter_map h xs) all) rest
      | false ↦ rest
    ]

module _ {X : Type 0} (may : X → X → Type 0) where
  pub AllPairs-head : (x : X) (xs : List X) → AllPairs may (x ∷ xs) → All (may x) xs
  AllPairs-head x xs pairs k d within = pairs 0 (suc k) d (omega arith) (omega arith)

  pub AllPairs-tail : (x : X) (xs : List X) → AllPairs may (x ∷ xs) → AllPairs may xs
  AllPairs-tail x xs pairs i j d before within = pairs (suc i) (suc j) d (omega arith) (omega arith)

  -- Of two lists one after the other, each element of the first may stand before those of the second.
  pub AllPairs-append : (xs ys : List X) → AllPairs may xs → AllPairs may ys → All (λ x. All (may x) ys) xs → AllPairs may (xs ++ ys)
  AllPairs-append [] ys first second between = second
  AllPairs-append (x ∷ xs) ys first second between =
      AllPairs-cons may x (xs ++ ys)
      (All-append (may x) xs ys (AllPairs-head x xs first) (All-head (λ y. All (may y) ys) x xs between))
      (AllPairs-append xs ys (AllPairs-tail x xs first) second (All-tail (λ y. All (may y) ys) x xs between))

  pub AllPairs-cons_option : (o : Option X) (xs : List X) → IfSome o (λ x. All (may x) xs) → AllPairs may xs → AllPairs may (cons_option o xs)
  AllPairs-cons_option None xs first rest = rest
  AllPairs-cons_option (Some x) xs first rest = AllPairs-cons may x xs first rest

  AllPairs-option_value : (o : Option X) (xs : List X) → AllPairs may (cons_option o xs) → IfSome o (λ x. All (may x) xs)
  AllPairs-option_value None xs pairs = tt
  AllPairs-option_value (Some x) xs pairs = AllPairs-head x xs pairs

  AllPairs-option_rest : (o : Option X) (xs : List X) → AllPairs may (cons_option o xs) → AllPairs may xs
  AllPairs-option_rest None xs pairs = pairs
  AllPairs-option_rest (Some x) xs pairs = AllPairs-tail x xs pairs

  first-part : {W : Type 0} (h : W → Option X) (p : W → Bool) (ws : List W) (o : Option X) → IfSome o (λ x. All (may x) (filter_map h ws)) → IfSome o (λ x. All (may x) (filter_map h (filter p ws)))
  first-part h p ws None first = tt
  first-part h p ws (Some x) first = All-part (may x) h p ws first

  -- What a part of a list gives stands in the order of what the list gives.
  pub AllPairs-part : {W : Type 0} (h : W → Option X) (p : W → Bool) (ws : List W) → AllPairs may (filter_map h ws) → AllPairs may (filter_map h (filter p ws))
  AllPairs-part h p [] pairs = pairs
  AllPairs-part h p (w ∷ ws) pairs =
      let rest = AllPairs-part h p ws (AllPairs-option_rest (h w) (filter_map h ws) pairs) in
      elim (p w) as (λ b. AllPairs may (filter_map h (cond b (w ∷ filter p ws) (filter p ws)))) [
        | true ↦ AllPairs-cons_option (h w) (filter_map h (filter p ws)) (first-part h p ws (h w) (AllPairs-option_value (h w) (filter_map h ws) pairs)) rest
        | false ↦ rest
      ]

-- What begins later stands after.
pub start-later : (a b c d : ℕ) → a < c → is_lt (start_cmp (c, d) (a, b)) ≡ false
start-later a b c d later = grind (arith, nat_tests)

-- Starts that are moved by the same ticks keep their order.
pub start-moved : (ticks a b c d : ℕ) → start_cmp (ticks + a, b) (ticks + c, d) ≡ start_cmp (a, b) (c, d)
start-moved ticks a b c d = grind (arith, nat_tests)
