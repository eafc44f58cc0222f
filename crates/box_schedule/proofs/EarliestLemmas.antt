-- The starts of a block are admissible, and nowhere later than any admissible ones.
use Rattle.std.proofs.Common.{◌≡◌, ℕ, zero, suc, ◌≤◌, max, inl, inr, List, [], ◌∷◌, ◌++◌, length, true, Some, slice_get, slice_index, refl, ap, sym, subst, arith}
use Rattle.std.proofs.lemmas.Bool.{cond-true, cond-false, cases_Bool}
use Rattle.box_schedule.specs.declared.block.TOp.{TOp}
use Rattle.box_schedule.specs.Placement.{AreApart, PlacedOp, shares, earliest_after, start_after, starts_after, starts_of, end_from, IsEarliest}
use Rattle.box_schedule.proofs.PlacementLemmas.{placed_at, length-starts_after}
use Rattle.box_schedule.proofs.EndLemmas.{end_from-le}

start_after-push : (earlier : List PlacedOp) (last : PlacedOp) (op : TOp) → start_after (earlier ++ last ∷ []) op ≡ max (start_after earlier op) (earliest_after op last)
start_after-push [] last op = omega arith
start_after-push (first ∷ rest) last op = omega (arith, start_after-push rest last op)

-- What begins after earlier operations begins where they let it begin, or later.
start_after-starts_after : (earlier : List PlacedOp) (ops : List TOp) (j : ℕ) (op : TOp) → slice_get ops j ≡ Some op
    → start_after earlier op ≤ slice_index (starts_after earlier ops) j
start_after-starts_after earlier [] j op here = absurd (cc)
start_after-starts_after earlier (first ∷ ops) zero op here =
    let same : first ≡ op = cc in omega (arith, ap (start_after earlier) same)
start_after-starts_after earlier (first ∷ ops) (suc j) op here =
    omega (arith, start_after-starts_after (earlier ++ placed_at earlier first ∷ []) ops j op here, start_after-push earlier (placed_at earlier first) op)

starts_after-apart : (earlier : List PlacedOp) (ops : List TOp) → AreApart ops (starts_after earlier ops)
starts_after-apart earlier [] i j a b before is_a is_b shared = absurd (cc)
starts_after-apart earlier (first ∷ ops) zero zero a b before is_a is_b shared = absurd (omega arith)
starts_after-apart earlier (first ∷ ops) (suc i) zero a b before is_a is_b shared = absurd (omega arith)
starts_after-apart earlier (first ∷ ops) zero (suc j) a b before is_a is_b shared =
    let same : first ≡ a = cc in
    let meets : shares first b ≡ true = cc in
    let ends : earliest_after b (placed_at earlier first) ≡ end_from (start_after earlier first) first = cond-true _ _ _ meets in
    omega (arith, ap (end_from (start_after earlier first)) same, start_after-push earlier (placed_at earlier first) b, start_after-starts_after (earlier ++ placed_at earlier first ∷ []) ops j b is_b)
starts_after-apart earlier (first ∷ ops) (suc i) (suc j) a b before is_a is_b shared =
    starts_after-apart (earlier ++ placed_at earlier first ∷ []) ops i j a b (omega arith) is_a is_b shared

-- An operation begins no later than another one after it that ends late enough lets it begin.
earliest_after-le : (op : TOp) (first : TOp) (start n : ℕ) → (shares first op ≡ true → end_from start first ≤ n) → earliest_after op (record { op = first; start = start }) ≤ n
earliest_after-le op first start n late = elim (cases_Bool (shares first op)) [
  | inl shared ↦
      let ends : earliest_after op (record { op = first; start = start }) ≡ end_from start first = cond-true _ _ _ shared in
      omega (arith, late shared)
  | inr apart ↦
      let none : earliest_after op (record { op = first; start = start }) ≡ 0 = cond-false _ _ _ apart in
      omega arith
]

starts_after-least : (earlier : List PlacedOp) (ops : List TOp) (others : List ℕ) → length others ≡ length ops → AreApart ops others
    → ((j : ℕ) (op : TOp) → slice_get ops j ≡ Some op → start_after earlier op ≤ slice_index others j)
    → (i : ℕ) → slice_index (starts_after earlier ops) i ≤ slice_index others i
starts_after-least earlier [] others count apart late i = omega arith
starts_after-least earlier (first ∷ ops) [] count apart late i = absurd (omega arith)
starts_after-least earlier (first ∷ ops) (other ∷ others) count apart late zero = late 0 first refl
starts_after-least earlier (first ∷ ops) (other ∷ others) count apart late (suc i) =
    starts_after-least (earlier ++ placed_at earlier first ∷ []) ops others (omega arith)
    (λ i j a b before is_a is_b shared. apart (suc i) (suc j) a b (omega arith) is_a is_b shared)
    (λ j op here.
    let own : earliest_after op (placed_at earlier first) ≤ slice_index others j =
    earliest_after-le op first (start_after earlier first) (slice_index others j) (λ shared.
    omega (arith, end_from-le first (start_after earlier first) other (late 0 first refl), apart 0 (suc j) first op (omega arith) refl here shared)) in
    omega (arith, own, late (suc j) op here, start_after-push earlier (placed_at earlier first) op))
    i

-- Both halves of what a placement promises.
pub starts_of-earliest : (ops : List TOp) → IsEarliest ops (starts_of ops)
starts_of-earliest ops = (
  record { count = length-starts_after [] ops; apart = starts_after-apart [] ops },
  λ others admissible. starts_after-least [] ops others admissible.count admissible.apart (λ j op here. omega arith),
)

pub IsEarliest-at : (ops : List TOp) (starts : List ℕ) → starts ≡ starts_of ops → IsEarliest ops starts
IsEarliest-at ops starts same = subst (IsEarliest ops) (sym same) (starts_of-earliest ops)
