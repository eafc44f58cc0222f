-- A group comes to one answer.
use Rattle.std.proofs.Common.{◌≡◌, ◌≢◌, ℕ, ◌<◌, zero, suc, refl, ap, sym, ◌∙◌, subst, arith, ℤ, pos, negsuc, ◌*ℤ◌, ◌<ℤ◌, ◌≤ℤ◌, List, [], ◌∷◌, length, map, take, get_or, Ok, Err}
use Rattle.std.proofs.lemmas.Int.{ints}
use Rattle.std.proofs.lemmas.List.{get_or-map, length-map, get_or_default}
use Rattle.std.proofs.lemmas.List.Elements.{All-take}
use Rattle.qs_values.specs.declared.stretch.Group.{Group}
use Rattle.qs_values.proofs.OneQuotient.{cancelled}
use Rattle.stretch_solve.specs.declared.solution.Solution.{Solution}
use Rattle.stretch_solve.specs.declared.refusal.StretchRefusal.TheVariants.{StretchNone, StretchMany, StretchNegative, GroupTooLarge}
use Rattle.stretch_solve.specs.Solutions.{AreSame, HasMany, HasNegative, IsOnly, IsSolution}
use Rattle.stretch_solve.specs.Once.{SolvedOnce}
use Rattle.stretch_solve.proofs.IntLemmas.{mul-assoc, mul_comm}
use Rattle.stretch_solve.proofs.CofactorLemmas.{map-map, map-same}

nonzero_above : (d : ℤ) → pos 0 <ℤ d → d ≢ pos 0
nonzero_above d h e = omega (arith, ints, e)

-- ---- fractions that are the same as others are the same

unmapped : (d : ℤ) → d ≢ pos 0 → (xs ys : List ℤ) → map (λ x. x *ℤ d) xs ≡ map (λ y. y *ℤ d) ys → xs ≡ ys
unmapped d h [] [] e = refl
unmapped d h [] (y ∷ ys) e = cc
unmapped d h (x ∷ xs) [] e = cc
unmapped d h (x ∷ xs) (y ∷ ys) e =
    let first : x *ℤ d ≡ y *ℤ d = cc in
    let rest : map (λ z. z *ℤ d) xs ≡ map (λ z. z *ℤ d) ys = cc in
    λ i. cancelled x y d h first i ∷ unmapped d h xs ys rest i

times_swap : (c d : ℤ) (xs : List ℤ) → map (λ x. x *ℤ c) (map (λ x. x *ℤ d) xs) ≡ map (λ x. x *ℤ d) (map (λ x. x *ℤ c) xs)
times_swap c d xs =
    map-map (λ x. x *ℤ c) (λ x. x *ℤ d) xs
    ∙ map-same (λ x. (x *ℤ d) *ℤ c) (λ x. (x *ℤ c) *ℤ d) (λ x. mul-assoc x d c ∙ ap (λ z. x *ℤ z) (mul_comm d c) ∙ sym (mul-assoc x c d)) xs
    ∙ sym (map-map (λ x. x *ℤ d) (λ x. x *ℤ c) xs)

-- A and B are both the same fractions as C
joined : (a b c : List ℤ) (da db dc : ℤ) → dc ≢ pos 0 → AreSame c dc a da → AreSame c dc b db → AreSame a da b db
joined a b c da db dc nonzero p q = unmapped dc nonzero (map (λ x. x *ℤ db) a) (map (λ x. x *ℤ da) b)
    (times_swap dc db a ∙ ap (map (λ x. x *ℤ db)) (sym p) ∙ times_swap db da c ∙ ap (map (λ x. x *ℤ da)) q ∙ times_swap da dc b)

-- ---- the causes exclude each other

only_not_many : (group : Group) (nums : List ℤ) (den : ℤ) → IsOnly group nums den → HasMany group → ⊥
only_not_many group nums den only many =
    many.differ (joined many.nums many.others nums many.den many.over den (nonzero_above den only.solves.above)
    (only.only many.nums many.den many.solves) (only.only many.others many.over many.solve))

below_product : (x over : ℤ) → x <ℤ pos 0 → pos 0 <ℤ over → (x *ℤ over) <ℤ pos 0
below_product (pos a) over p q = absurd (omega (arith, ints))
below_product (negsuc a) (pos zero) p q = absurd (omega (arith, ints))
below_product (negsuc a) (pos (suc b)) p q = omega (arith, ints)
below_product (negsuc a) (negsuc b) p q = absurd (omega (arith, ints))

not_below_product : (x den : ℤ) → pos 0 ≤ℤ x → pos 0 <ℤ den → pos 0 ≤ℤ (x *ℤ den)
not_below_product (negsuc a) den p q = absurd (omega (arith, ints))
not_below_product (pos a) (pos b) p q = omega (arith, ints)
not_below_product (pos a) (negsuc b) p q = absurd (omega (arith, ints))

apart : (x y : ℤ) → x ≡ y → x <ℤ pos 0 → pos 0 ≤ℤ y → ⊥
apart x y e p q = omega (arith, ints, e)

entry : (xs ys : List ℤ) (over den : ℤ) (k : ℕ) → k < length xs → AreSame xs den ys over → (k < length ys) × (get_or xs k (pos 0) *ℤ over ≡ get_or ys k (pos 0) *ℤ den)
entry xs ys over den k below same =
    let long : length xs ≡ length ys = sym (length-map xs (λ x. x *ℤ over)) ∙ ap length same ∙ length-map ys (λ y. y *ℤ den) in
    let within : k < length ys = omega arith in (
      within,
      sym (get_or-map (λ x. x *ℤ over) xs k (pos 0) (pos 0) below) ∙ ap (λ zs. get_or zs k (pos 0)) same ∙ get_or-map (λ y. y *ℤ den) ys k (pos 0) (pos 0) within,
    )

not_negative : (group : Group) (solution : Solution) → IsSolution group solution → HasNegative group → ⊥
not_negative group solution is negative =
    let ys : List ℤ = take solution.count solution.nums in
    let k : ℕ = negative.negative.0 in
    let x : ℤ = negative.negative.1 in
    let below : k < length negative.nums = negative.negative.2 in
    let same : AreSame negative.nums negative.den ys solution.den = negative.only.only ys solution.den is.only.solves in
    let at = entry negative.nums ys solution.den negative.den k below same in
    let value : get_or negative.nums k (pos 0) ≡ x = get_or_default negative.nums k (pos 0) x below ∙ negative.negative.3 in
    let low : get_or negative.nums k (pos 0) <ℤ pos 0 = subst (λ z. z <ℤ pos 0) (sym value) negative.negative.4 in
    let high : pos 0 ≤ℤ get_or ys k (pos 0) = All-take (λ num. pos 0 ≤ℤ num) solution.count solution.nums is.none_negative k (pos 0) at.0 in
    apart (get_or negative.nums k (pos 0) *ℤ solution.den) (get_or ys k (pos 0) *ℤ negative.den) at.1
    (below_product (get_or negative.nums k (pos 0)) solution.den low is.only.solves.above)
    (not_below_product (get_or ys k (pos 0)) negative.den high negative.only.solves.above)

pub once : SolvedOnce
once group (Err GroupTooLarge) (Err GroupTooLarge) p q = refl
once group (Err GroupTooLarge) (Err StretchNone) p q = absurd (omega (arith, p, q.0))
once group (Err GroupTooLarge) (Err StretchMany) p q = absurd (omega (arith, p, q.0))
once group (Err GroupTooLarge) (Err StretchNegative) p q = absurd (omega (arith, p, q.0))
once group (Err GroupTooLarge) (Ok b) p q = absurd (omega (arith, p, q.0))
once group (Err StretchNone) (Err GroupTooLarge) p q = absurd (omega (arith, q, p.0))
once group (Err StretchNone) (Err StretchNone) p q = refl
once group (Err StretchNone) (Err StretchMany) p q = absurd (p.1 q.1.nums q.1.den q.1.solves)
once group (Err StretchNone) (Err StretchNegative) p q = absurd (p.1 q.1.nums q.1.den q.1.only.solves)
once group (Err StretchNone) (Ok b) p q = absurd (p.1 (take b.count b.nums) b.den q.1.only.solves)
once group (Err StretchMany) (Err GroupTooLarge) p q = absurd (omega (arith, q, p.0))
once group (Err StretchMany) (Err StretchNone) p q = absurd (q.1 p.1.nums p.1.den p.1.solves)
once group (Err StretchMany) (Err StretchMany) p q = refl
once group (Err StretchMany) (Err StretchNegative) p q = absurd (only_not_many group q.1.nums q.1.den q.1.only p.1)
once group (Err StretchMany) (Ok b) p q = absurd (only_not_many group (take b.count b.nums) b.den q.1.only p.1)
once group (Err StretchNegative) (Err GroupTooLarge) p q = absurd (omega (arith, q, p.0))
once group (Err StretchNegative) (Err StretchNone) p q = absurd (q.1 p.1.nums p.1.den p.1.only.solves)
once group (Err StretchNegative) (Err StretchMany) p q = absurd (only_not_many group p.1.nums p.1.den p.1.only q.1)
once group (Err StretchNegative) (Err StretchNegative) p q = refl
once group (Err StretchNegative) (Ok b) p q = absurd (not_negative group b q.1 p.1)
once group (Ok a) (Err GroupTooLarge) p q = absurd (omega (arith, q, p.0))
once group (Ok a) (Err StretchNone) p q = absurd (q.1 (take a.count a.nums) a.den p.1.only.solves)
once group (Ok a) (Err StretchMany) p q = absurd (only_not_many group (take a.count a.nums) a.den p.1.only q.1)
once group (Ok a) (Err StretchNegative) p q = absurd (not_negative group a p.1 q.1)
once group (Ok a) (Ok b) p q = p.1.only.only (take b.count b.nums) b.den q.1.only.solves
