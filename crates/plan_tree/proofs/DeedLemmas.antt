-- Events that play, among others.
use Rattle.std.proofs.Common.{◌≡◌, List, [], ◌∷◌, cond, true, false}
use Rattle.std.specs.Prelude.{Bool, filter}
use Rattle.std.specs.List.{IsDistinct}
use Rattle.std.proofs.lemmas.List.Elements.{All-filter, All-from_recursion, recursion_from_All}
use Rattle.std.proofs.lemmas.Map.Keys.{IsDistinct-cons, IsDistinct-head, IsDistinct-tail}
use Rattle.plan_tree.specs.declared.plan.Event.{Event}
use Rattle.plan_tree.specs.Deeds.{plays}
use Rattle.plan_tree.specs.Sound.{same_start}

distinct-filter : {X : Type 0} (same : X → X → Bool) (p : X → Bool) (xs : List X) → IsDistinct same xs → IsDistinct same (filter p xs)
distinct-filter {X = X} same p [] apart = apart
distinct-filter {X = X} same p (x ∷ xs) apart =
    let rest = distinct-filter same p xs (IsDistinct-tail same x xs apart) in
    let other : X → Type 0 = λ y. same x y ≡ false in
    elim (p x) as (λ b. IsDistinct same (cond b (x ∷ filter p xs) (filter p xs))) [
      | true ↦ IsDistinct-cons same x (filter p xs) (recursion_from_All other _ (All-filter p other xs (All-from_recursion other xs (IsDistinct-head same x xs apart)))) rest
      | false ↦ rest
    ]

-- Where no two events begin together on a port, no two that play do.
pub apart-plays : (events : List Event) → IsDistinct same_start events → IsDistinct same_start (filter (λ e. plays e.act) events)
apart-plays events apart = distinct-filter same_start (λ e. plays e.act) events apart
