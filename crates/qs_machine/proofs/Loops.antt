-- A list that is read in order: what is read, with what is left, is the whole.
use Rattle.std.proofs.Common.{◌≡◌, ℕ, ◌+◌, ◌<◌, ◌≤◌, List, [], ◌∷◌, ◌++◌, Result, Ok, Err, map, length, drop, get_or, ap, ◌∙◌, sym, subst, arith}
use Rattle.std.proofs.lemmas.List.{drop_all, drop_more}
use Rattle.std.proofs.lemmas.Grind.{common_steps}
use Rattle.qs_machine.specs.Steps.{◌>>=◌, in_order, IsUnlessMemory}
use Rattle.qs_machine.proofs.Exits.{sure, bind_unless}

module _ {X A D E : Type 0} (read : List A → D → Result A E) (f : X → D) where
  pub in_order_step : (before : List A) (xs : List X) (i : ℕ) (x : X) → i < length xs → x ≡ get_or xs i x
      → in_order read before (map f (drop i xs)) ≡ (read before (f x) >>= (λ a. in_order read (before ++ a ∷ []) (map f (drop (i + 1) xs))))
  in_order_step before xs i x h is = ap (λ ys. in_order read before (map f ys)) (drop_more xs i x h ∙ ap (λ y. y ∷ drop (i + 1) xs) (sym is))

  -- the next entry is read
  pub in_order_next : (whole : Result (List A) E) (before : List A) (xs : List X) (i : ℕ) (x : X) (a : A) → whole ≡ in_order read before (map f (drop i xs)) → i < length xs → x ≡ get_or xs i x
      → Ok a ≡ read before (f x) → whole ≡ in_order read (before ++ a ∷ []) (map f (drop (i + 1) xs))
  in_order_next whole before xs i x a so_far h is reads =
      so_far ∙ in_order_step before xs i x h is ∙ ap (λ r. r >>= (λ a. in_order read (before ++ a ∷ []) (map f (drop (i + 1) xs)))) (sym reads)

  -- the next entry is refused
  pub in_order_stop : (whole : Result (List A) E) (before : List A) (xs : List X) (i : ℕ) (x : X) (e : E) → whole ≡ in_order read before (map f (drop i xs)) → i < length xs → x ≡ get_or xs i x
      → Err e ≡ read before (f x) → Err e ≡ whole
  in_order_stop whole before xs i x e so_far h is reads =
      sym (so_far ∙ in_order_step before xs i x h is ∙ ap (λ r. r >>= (λ a. in_order read (before ++ a ∷ []) (map f (drop (i + 1) xs)))) (sym reads))

  -- no entry is left
  pub in_order_end : (whole : Result (List A) E) (before : List A) (xs : List X) (i : ℕ) → whole ≡ in_order read before (map f (drop i xs)) → length xs ≤ i → Ok before ≡ whole
  in_order_end whole before xs i so_far h = sym (so_far ∙ ap (λ ys. in_order read before (map f ys)) (drop_all i xs h))

  -- the next entry is read, by a step that may be out of memory, and goes to the end of the list
  pub in_order_grow : (memory : E) (whole : Result (List A) E) (before after : List A) (xs : List X) (i : ℕ) (x : X) (a : A) → whole ≡ in_order read before (map f (drop i xs)) → i < length xs → x ≡ get_or xs i x
      → IsUnlessMemory memory (read before (f x)) (Ok a) → after ≡ before ++ a ∷ [] → whole ≡ in_order read after (map f (drop (i + 1) xs))
  in_order_grow memory whole before after xs i x a so_far h is reads longer =
      in_order_next whole before xs i x a so_far h is (sure memory _ a reads) ∙ ap (λ ys. in_order read ys (map f (drop (i + 1) xs))) (sym longer)

  -- the next entry is refused, or memory is out there
  pub in_order_halt : (memory : E) (whole : Result (List A) E) (before : List A) (xs : List X) (i : ℕ) (x : X) (e : E) → whole ≡ in_order read before (map f (drop i xs)) → i < length xs → x ≡ get_or xs i x
      → IsUnlessMemory {A = A} memory (read before (f x)) (Err e) → IsUnlessMemory {A = List A} memory whole (Err e)
  in_order_halt memory whole before xs i x e so_far h is reads =
      let stopped : whole ≡ (read before (f x) >>= (λ a. in_order read (before ++ a ∷ []) (map f (drop (i + 1) xs)))) = so_far ∙ in_order_step before xs i x h is in
      subst (λ w. IsUnlessMemory memory w (Err e)) (sym stopped) (bind_unless memory (read before (f x)) e _ reads)

-- what stands at a place stands there whatever is told past the end
pub get_or_again : {X : Type 0} (xs : List X) (i : ℕ) (d : X) → i < length xs → get_or xs i d ≡ get_or xs i (get_or xs i d)
get_or_again xs i d h = grind (arith, common_steps)

module _ {A D E : Type 0} (read : List A → D → Result A E) where
  next_of : List A → List D → A → Result (List A) E
  next_of before rest a = in_order read (before ++ a ∷ []) rest

  -- the first of what is left is read, and goes to the end of the list
  pub first_grow : (memory : E) (whole : Result (List A) E) (before after : List A) (left rest : List D) (d : D) (a : A) → whole ≡ in_order read before left → left ≡ d ∷ rest
      → IsUnlessMemory memory (read before d) (Ok a) → after ≡ before ++ a ∷ [] → whole ≡ in_order read after rest
  unfolding next_of
  first_grow memory whole before after left rest d a so_far is reads longer =
      so_far ∙ ap (in_order read before) is ∙ ap (λ r. r >>= next_of before rest) (sym (sure memory _ a reads)) ∙ ap (λ ys. in_order read ys rest) (sym longer)

  -- the first of what is left is refused, or memory is out there
  pub first_halt : (memory : E) (whole : Result (List A) E) (before : List A) (left rest : List D) (d : D) (e : E) → whole ≡ in_order read before left → left ≡ d ∷ rest
      → IsUnlessMemory {A = A} memory (read before d) (Err e) → IsUnlessMemory {A = List A} memory whole (Err e)
  unfolding next_of
  first_halt memory whole before left rest d e so_far is reads =
      let stopped : whole ≡ (read before d >>= next_of before rest) = so_far ∙ ap (in_order read before) is in
      subst (λ w. IsUnlessMemory memory w (Err e)) (sym stopped) (bind_unless memory (read before d) e (next_of before rest) reads)
