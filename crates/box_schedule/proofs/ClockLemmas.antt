-- One clock per qubit tells when an operation may begin.
use Rattle.std.proofs.Common.{◌≡◌, ℕ, suc, ◌<◌, ◌≤◌, max, List, [], ◌∷◌, ◌++◌, length, Bool, true, false, ◌||◌, inl, inr, nat_eq, if◌then◌else◌, slice_index, refl, ap, sym, ◌∙◌, arith}
use Rattle.std.proofs.lemmas.Bool.{cases_Bool, cond-true, cond-false}
use Rattle.std.proofs.lemmas.Bool.Decides.{nat_tests}
use Rattle.std.specs.List.{list_any}
use Rattle.box_schedule.specs.declared.block.TOp.{TOp}
use Rattle.box_schedule.specs.steps.Clocks.{greatest}
use Rattle.box_schedule.specs.Placement.{PlacedOp, end_from, is_among, opened, shares, start_after}
use Rattle.box_schedule.proofs.PlacementLemmas.{placed_at}

-- the end of this operation, on a qubit that it has
abbrev pub end_on : PlacedOp → ℕ → ℕ
end_on earlier q = if is_among (opened earlier.op).qubits q then end_from earlier.start earlier.op else 0

-- the greatest end of these operations on a qubit
abbrev pub clock_of : List PlacedOp → ℕ → ℕ
clock_of [] q = 0
clock_of (earlier ∷ rest) q = max (end_on earlier q) (clock_of rest q)

pub greatest-max : (f g : ℕ → ℕ) (qs : List ℕ) → greatest (λ q. max (f q) (g q)) qs ≡ max (greatest f qs) (greatest g qs)
greatest-max f g [] = refl
greatest-max f g (q ∷ qs) = omega (arith, greatest-max f g qs)

max-either : (a b : Bool) (n : ℕ) → max (if a then n else 0) (if b then n else 0) ≡ (if a || b then n else 0)
max-either true true n = omega arith
max-either true false n = omega arith
max-either false true n = omega arith
max-either false false n = omega arith

pub greatest-if : (test : ℕ → Bool) (n : ℕ) (qs : List ℕ) → greatest (λ q. if test q then n else 0) qs ≡ (if list_any test qs then n else 0)
greatest-if test n [] = refl
greatest-if test n (q ∷ qs) =
    ap (λ m. max (if test q then n else 0) m) (greatest-if test n qs) ∙ max-either (test q) (list_any test qs) n

pub greatest-zero : (qs : List ℕ) → greatest (λ q. 0) qs ≡ 0
greatest-zero [] = refl
greatest-zero (q ∷ qs) = omega (arith, greatest-zero qs)

or-exchange : (a b c d : Bool) → ((a || b) || (c || d)) ≡ ((a || c) || (b || d))
or-exchange true b c d = refl
or-exchange false true true d = refl
or-exchange false true false d = refl
or-exchange false false true d = refl
or-exchange false false false d = refl

list_any-or : (f g : ℕ → Bool) (xs : List ℕ) → list_any (λ x. f x || g x) xs ≡ (list_any f xs || list_any g xs)
list_any-or f g [] = refl
list_any-or f g (x ∷ xs) =
    ap (λ rest. (f x || g x) || rest) (list_any-or f g xs) ∙ or-exchange (f x) (g x) (list_any f xs) (list_any g xs)

list_any-none : (xs : List ℕ) → list_any (λ x. false) xs ≡ false
list_any-none [] = refl
list_any-none (x ∷ xs) = list_any-none xs

nat_eq-swap : (m n : ℕ) → nat_eq m n ≡ nat_eq n m
nat_eq-swap m n = grind (arith, nat_tests)

list_any-nat_eq : (x : ℕ) (ys : List ℕ) → list_any (nat_eq x) ys ≡ list_any (λ y. nat_eq y x) ys
list_any-nat_eq x [] = refl
list_any-nat_eq x (y ∷ ys) = rw (nat_eq-swap x y, list_any-nat_eq x ys) refl

-- Two lists share an element, whichever is looked through.
pub list_any-swap : (xs ys : List ℕ) → list_any (is_among ys) xs ≡ list_any (is_among xs) ys
list_any-swap [] ys = sym (list_any-none ys)
list_any-swap (x ∷ xs) ys =
    rw (list_any-swap xs ys, list_any-nat_eq x ys) (sym (list_any-or (λ y. nat_eq y x) (is_among xs) ys))

pub start_after-greatest : (done : List PlacedOp) (op : TOp) → start_after done op ≡ greatest (clock_of done) (opened op).qubits
start_after-greatest [] op = sym (greatest-zero (opened op).qubits)
start_after-greatest (earlier ∷ rest) op =
    let qubits : List ℕ = (opened op).qubits in
    let others : List ℕ = (opened earlier.op).qubits in
    let ends : ℕ = end_from earlier.start earlier.op in
    let here : greatest (end_on earlier) qubits ≡ (if list_any (is_among others) qubits then ends else 0) = greatest-if (is_among others) ends qubits in
    let both : greatest (clock_of (earlier ∷ rest)) qubits ≡ max (greatest (end_on earlier) qubits) (greatest (clock_of rest) qubits)
    = greatest-max (end_on earlier) (clock_of rest) qubits in
    let swapped : list_any (is_among others) qubits ≡ shares earlier.op op = list_any-swap qubits others in
    rw (both, here, swapped, ← start_after-greatest rest op) refl

pub greatest-same : (f g : ℕ → ℕ) (qs : List ℕ) → ((i : ℕ) → i < length qs → f (slice_index qs i) ≡ g (slice_index qs i)) → greatest f qs ≡ greatest g qs
greatest-same f g [] same = refl
greatest-same f g (q ∷ qs) same =
    let first : f q ≡ g q = same 0 (omega arith) in
    let rest : greatest f qs ≡ greatest g qs = greatest-same f g qs (λ i h. same (suc i) (omega arith)) in
    cc

pub greatest-le : (f : ℕ → ℕ) (qs : List ℕ) (n : ℕ) → ((i : ℕ) → i < length qs → f (slice_index qs i) ≤ n) → greatest f qs ≤ n
greatest-le f [] n below = omega arith
greatest-le f (q ∷ qs) n below = omega (arith, below 0 (omega arith), greatest-le f qs n (λ i h. below (suc i) (omega arith)))

pub clock_of-push : (done : List PlacedOp) (last : PlacedOp) (q : ℕ) → clock_of (done ++ last ∷ []) q ≡ max (clock_of done q) (end_on last q)
clock_of-push [] last q = omega arith
clock_of-push (earlier ∷ rest) last q = omega (arith, clock_of-push rest last q)

-- What moves the clocks of the operation's qubits to its end, but none back.
pub clock_of-placed_at : (done : List PlacedOp) (op : TOp) (q : ℕ)
    → clock_of (done ++ placed_at done op ∷ []) q
    ≡ (if is_among (opened op).qubits q then max (end_from (start_after done op) op) (clock_of done q) else clock_of done q)
clock_of-placed_at done op q = elim (cases_Bool (is_among (opened op).qubits q)) [
  | inl among ↦
      let own : end_on (placed_at done op) q ≡ end_from (start_after done op) op = cond-true _ _ _ among in
      rw among (omega (arith, clock_of-push done (placed_at done op) q))
  | inr absent ↦
      let own : end_on (placed_at done op) q ≡ 0 = cond-false _ _ _ absent in
      rw absent (omega (arith, clock_of-push done (placed_at done op) q))
]
