-- The texts of values.
use Rattle.std.proofs.Common.{◌≡◌, ℕ, ◌+◌, ◌-◌, ◌*◌, ◌^◌, ◌%◌, ◌<◌, ◌≤◌, zero, suc, List, ◌++◌, length, get_or, sym, subst, refl, arith, nat_lt, false}
use Rattle.std.specs.Prelude.{All, IsSomeAnd, Option, Some, None, codes, decimal, slice_get, slice_index}
use Rattle.std.proofs.lemmas.Option.{get_or_from_slice_get, slice_get_within}
use Rattle.std.proofs.lemmas.Bool.Decides.{nat_tests}
use Rattle.std.proofs.lemmas.Nat.{pow_below}
use Rattle.std.proofs.Math.Nat.{pow-suc}
use Rattle.qs_values.specs.declared.kind.Kind.{Kind}
use Rattle.qs_values.specs.declared.kind.Kind.TheVariants.{Bit, Bool, Bits, Int, Uint, Angle}
use Rattle.qs_values.specs.declared.kind.Ty.{Ty}
use Rattle.qs_values.specs.declared.kind.Out.{Out}
use Rattle.plan_tree.specs.Sound.{HasVars}
use Rattle.timeline_board.specs.Conditions.{HoldsValue, HoldsVars}
use Rattle.timeline_board.specs.Report.{digits_from, signed_text}

-- the highest of the bits that are left
pub digits-next : (store : List ℕ) (first n : ℕ) → 0 < n → digits_from store first n ≡ decimal (slice_index store (first + (n - 1))) ++ digits_from store first (n - 1)
digits-next store first zero h = absurd (omega arith)
digits-next store first (suc n) h = let same : suc n - 1 ≡ n = omega arith in rw same refl

-- twice the half of a power of two
pub two-halves : (width : ℕ) → 1 ≤ width → 2 ^ (width - 1) + 2 ^ (width - 1) ≡ 2 ^ width
two-halves zero h = absurd (omega arith)
two-halves (suc n) h = let same : suc n - 1 ≡ n = omega arith in rw same (omega (arith, pow-suc 2 n))

-- the half of a width that fits is a number of 64 bits
pub half-fits : (k : ℕ) → k < 64 → (1 * 2 ^ k) % 2 ^ 64 ≡ 2 ^ k
half-fits k h = let below : 2 ^ k < 2 ^ 64 = pow_below k 64 h in omega (arith, below)

-- a value that isn't below the half has a sign
pub signed-below : (width value : ℕ) → 1 ≤ width → 2 ^ (width - 1) ≤ value → codes "-" ++ decimal (2 ^ (width - 1) - (value - 2 ^ (width - 1))) ≡ signed_text width value
signed-below width value some not_below =
    let test : nat_lt value (2 ^ (width - 1)) ≡ false = grind (arith, nat_tests) in
    let number : 2 ^ (width - 1) - (value - 2 ^ (width - 1)) ≡ 2 ^ width - value = omega (arith, two-halves width some) in
    rw (test, number) refl

-- a variable that is there, and its value
holds-one : (vars : List Ty) (store : List ℕ) (v : ℕ) (o : Option Ty) (P : Ty → Type 0) → HoldsVars vars store → slice_get vars v ≡ o → IsSomeAnd o P
    → (ty : Ty) × P ty × (v < length store) × (slice_index store v < 2 ^ ty.width)
holds-one vars store v None P holds at p = absurd p
holds-one vars store v (Some ty) P holds at p = go (slice_get store v) refl (holds v ty at)
  where
    go : (o : Option ℕ) → slice_get store v ≡ o → IsSomeAnd o (λ value. value < 2 ^ ty.width) → (t : Ty) × P t × (v < length store) × (slice_index store v < 2 ^ t.width)
    go None is below = absurd below
    go (Some value) is below = (ty, p, slice_get_within store v value is, subst (λ n. n < 2 ^ ty.width) (sym (get_or_from_slice_get store v value 0 is)) below)

-- a store that has a value for each variable has the value of an output
pub holds-value : (vars : List Ty) (store : List ℕ) (first : ℕ) (kind : Kind) (width : ℕ) → HoldsVars vars store → HasVars vars first kind width → HoldsValue store first kind width
holds-value vars store first Bit width holds has = (holds-one vars store first (slice_get vars first) _ holds refl has).2
holds-value vars store first Bool width holds has = (holds-one vars store first (slice_get vars first) _ holds refl has).2
holds-value vars store first Bits width holds has = λ i h. (holds-one vars store (first + i) (slice_get vars (first + i)) _ holds refl (has i h)).2
holds-value vars store first Int width holds has =
    let one = holds-one vars store first (slice_get vars first) (λ ty. (ty.kind ≡ Int) × (ty.width ≡ width)) holds refl has in
    (one.2, subst (λ w. slice_index store first < 2 ^ w) one.1.1 one.3)
holds-value vars store first Uint width holds has = (holds-one vars store first (slice_get vars first) _ holds refl has).2
holds-value vars store first Angle width holds has = (holds-one vars store first (slice_get vars first) _ holds refl has).2

-- all outputs
pub holds-outs : (vars : List Ty) (store : List ℕ) (outs : List Out) → HoldsVars vars store → All (λ o. HasVars vars o.first o.ty.kind o.ty.width) outs
    → All (λ o. HoldsValue store o.first o.ty.kind o.ty.width) outs
holds-outs vars store outs holds has k d h = let o = get_or outs k d in holds-value vars store o.first o.ty.kind o.ty.width holds (has k d h)
