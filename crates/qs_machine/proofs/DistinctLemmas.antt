-- Lists in which no two entries are the same, or of one name, and how they grow.
use Rattle.std.proofs.Common.{◌≡◌, ◌≢◌, ℕ, List, [], ◌∷◌, ◌++◌, Bool, true, false, ◌||◌, map, length, refl, sym, ◌∙◌, arith, ⊎_elim, true≢false}
use Rattle.std.specs.Prelude.{All, AllPairs, bytes_eq, nat_eq}
use Rattle.std.specs.List.{list_any}
use Rattle.std.proofs.lemmas.Bool.{cases_lt}
use Rattle.std.proofs.lemmas.List.{get_or_push, get_or_append_left, length_push}
use Rattle.std.proofs.lemmas.List.Elements.{All-nil, All-cons}
use Rattle.std.proofs.lemmas.Slice.Eq.{bytes_eq-Decides}
use Rattle.qs_machine.specs.Table.{is_among}

pub AllPairs-push : {X : Type 0} (R : X → X → Type 0) (xs : List X) (x : X) → AllPairs R xs → All (λ y. R y x) xs → AllPairs R (xs ++ x ∷ [])
AllPairs-push R xs x pairs last i j d lt within =
    let long = length_push xs x in
    ⊎_elim
    (λ inside. rw (get_or_append_left xs (x ∷ []) d i (omega arith), get_or_append_left xs (x ∷ []) d j inside) (pairs i j d lt inside))
    (λ at_end. rw (get_or_append_left xs (x ∷ []) d i (omega arith), get_or_push xs x d j (omega arith)) (last i d (omega arith)))
    (cases_lt j (length xs))

either_false : (a b : Bool) → (a || b) ≡ false → (a ≡ false) × (b ≡ false)
either_false true b h = absurd (true≢false h)
either_false false b h = (refl, h)

-- a name that isn't among those of a list is none of them
pub fresh_name : {X : Type 0} (name : X → List ℕ) (xs : List X) (n : List ℕ) → is_among n (map name xs) ≡ false → All (λ y. name y ≢ n) xs
fresh_name name [] n h = All-nil (λ y. name y ≢ n)
fresh_name name (x ∷ xs) n h =
    let parts = either_false (bytes_eq n (name x)) _ h in
    All-cons (λ y. name y ≢ n) x xs (λ same. true≢false (sym ((bytes_eq-Decides n (name x)).1 (sym same)) ∙ parts.0)) (fresh_name name xs n parts.1)

-- a number that isn't among those of a list is none of them
pub fresh_number : (xs : List ℕ) (n : ℕ) → list_any (λ p. nat_eq p n) xs ≡ false → All (λ y. y ≢ n) xs
fresh_number [] n h = All-nil (λ y. y ≢ n)
fresh_number (x ∷ xs) n h =
    let parts = either_false (nat_eq x n) _ h in
    All-cons (λ y. y ≢ n) x xs (λ same. grind (arith, same, parts.0)) (fresh_number xs n parts.1)
