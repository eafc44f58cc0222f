-- The powers of 10 that are numbers of one machine word, as a table.
use Rattle.std.proofs.Common.{◌≡◌, ℕ, ◌<◌, ◌^◌, List, [], ◌∷◌, true, nat_eq, refl}
use Rattle.std.specs.List.{slice_index}
use Rattle.std.proofs.lemmas.Bool.{agree_below_at, eqb-true}

abbrev pub powers : List ℕ
powers =
    1 ∷ 10 ∷ 100 ∷ 1_000 ∷ 10_000 ∷ 100_000 ∷ 1_000_000 ∷ 10_000_000 ∷ 100_000_000 ∷ 1_000_000_000 ∷ 10_000_000_000 ∷ 100_000_000_000 ∷ 1_000_000_000_000
    ∷ 10_000_000_000_000 ∷ 100_000_000_000_000 ∷ 1_000_000_000_000_000 ∷ 10_000_000_000_000_000 ∷ 100_000_000_000_000_000 ∷ 1_000_000_000_000_000_000 ∷ 10_000_000_000_000_000_000 ∷ []

pub power_at : (k : ℕ) → k < 20 → slice_index powers k ≡ 10 ^ k
power_at k small = eqb-true (slice_index powers k) (10 ^ k) (agree_below_at (λ j. nat_eq (slice_index powers j) (10 ^ j)) (λ j. true) 20 k refl small)
