-- A number of at most 17 decimals, which needs no cut.
use Rattle.std.proofs.Common.{◌≡◌, ◌≢◌, ℕ, ◌+◌, ◌-◌, ◌*◌, ◌/◌, ◌<◌, ◌≤◌, ◌^◌, ◌⊎◌, List, Bool, true, false, inl, inr, refl, ap, sym, ◌∙◌, subst, arith, ℤ, pos, ◌*ℤ◌, unsigned_abs, to_z}
use Rattle.std.specs.Prelude.{Err, Result, if◌then◌else◌}
use mir.Syntax.{w128}
use borrow.Author.Differences.{same_in}
use Rattle.std.proofs.Math.Nat.{one-le-pow, pow-le-pow_right}
use Rattle.std.proofs.lemmas.Int.{to_z_pos}
use Rattle.std.proofs.lemmas.Nat.{pow-add}
use Rattle.qs_values.specs.Lowest.{IsLowest, IsWide}
use Rattle.qs_values.specs.Number.{QuotientIs}
use Rattle.qs_values.specs.declared.number.Frac.{Frac}
use Rattle.qs_values.specs.declared.refusal.NumRefusal.{NumRefusal}
use Rattle.qs_values.specs.declared.refusal.NumRefusal.TheVariants.{TooWide, PiTimesPi, ByZero, ByPi}
use Rattle.qs_values.proofs.LowestLemmas.{down-mul, mul_regroup, up-mul}
use Rattle.qs_lexer.specs.Values.{behind_mantissa, exponent, has_minus, mantissa, places, scaled, value_of}
use Rattle.qs_lexer.specs.steps.Mantissas.{HasDecimals}
use Rattle.qs_lexer.proofs.Shifts.{over_lower}

-- ---- a fraction whose parts are multiplied by one number

factors : (n q t : ℤ) → (n *ℤ q) *ℤ t ≡ (n *ℤ t) *ℤ q
factors n q t = same_in _ _ (simp (up-mul, down-mul) (omega arith))

lowest_times : (n d t : ℕ) (p q : ℤ) → IsLowest (pos n) (pos d) p q → IsLowest (pos (n * t)) (pos (t * d)) p q
lowest_times n d t p q is = record {
  same = mul_regroup p (pos t) (pos d) ∙ ap (λ z. z *ℤ pos t) is.same ∙ factors (pos n) q (pos t);
  above = is.above;
  coprime = is.coprime;
}

power_split : (k : ℕ) → k ≤ 17 → 10 ^ (17 - k) * 10 ^ k ≡ 10 ^ 17
power_split k h = sym (pow-add 10 (17 - k) k) ∙ (let e : 17 - k + k ≡ 17 = omega arith in ap (λ j. 10 ^ j) e)

pub lowest_scaled : (n k : ℕ) (p q : ℤ) → k ≤ 17 → IsLowest (pos n) (pos (10 ^ k)) p q → IsLowest (pos (n * 10 ^ (17 - k))) (pos (10 ^ 17)) p q
lowest_scaled n k p q h is = subst (λ d. IsLowest (pos (n * 10 ^ (17 - k))) (pos d) p q) (power_split k h) (lowest_times n (10 ^ k) (10 ^ (17 - k)) p q is)

wide_of : (n d : ℤ) (refusal : NumRefusal) → d ≢ pos 0 → QuotientIs n d (Err refusal) → IsWide n d
wide_of n d TooWide some is = is.1
wide_of n d PiTimesPi some is = absurd is
wide_of n d ByZero some is = absurd (some is)
wide_of n d ByPi some is = absurd is

power_some : (k : ℕ) → pos (10 ^ k) ≢ pos 0
power_some k = λ e. absurd (let bad : 10 ^ k ≡ 0 = ap unsigned_abs e in omega (arith, one-le-pow k 10 (omega arith)))

pub wide_scaled : (n k : ℕ) (refusal : NumRefusal) → k ≤ 17 → QuotientIs (pos n) (pos (10 ^ k)) (Err refusal) → IsWide (pos (n * 10 ^ (17 - k))) (pos (10 ^ 17))
wide_scaled n k refusal h is =
    let wide = wide_of (pos n) (pos (10 ^ k)) refusal (power_some k) is in
    record { num = wide.num; den = wide.den; lowest = lowest_scaled n k wide.num wide.den h wide.lowest; wide = wide.wide }

power_word : (k p : ℕ) → k ≤ 17 → p ≡ 10 ^ k → to_z w128 p ≡ pos (10 ^ k)
power_word k p few e = to_z_pos w128 p (omega (arith, e, pow-le-pow_right {n = 10} (omega arith) {i = k} {j = 17} few)) ∙ ap pos e

-- the quotient of two machine words
pub quotient_of_words : (n p k : ℕ) (r : Result Frac NumRefusal) → n < 10 ^ 36 → k ≤ 17 → p ≡ 10 ^ k → QuotientIs (to_z w128 n) (to_z w128 p) r → QuotientIs (pos n) (pos (10 ^ k)) r
quotient_of_words n p k r small few e is =
    subst (λ z. QuotientIs z (pos (10 ^ k)) r) (to_z_pos w128 n (omega arith)) (subst (λ z. QuotientIs (to_z w128 n) z r) (power_word k p few e) is)

-- ---- the number that is cut

pub scaled_is : (t : List ℕ) (m p count : ℕ) → m ≡ value_of 10 (mantissa t) → p ≡ places (mantissa t) → HasDecimals p (behind_mantissa t) count → scaled t ≡ m * 10 ^ (17 - count)
scaled_is t m p count value read has = by (has_minus t) refl has.below
  where
    by : (b : Bool) → has_minus t ≡ b → ((exponent t ≡ 0) ⊎ (has_minus t ≡ true)) → (if b then (value_of 10 (mantissa t) * 10 ^ 17) / (10 ^ (places (mantissa t) + exponent t)) else (value_of 10 (mantissa t) * 10 ^ (17 + exponent t)) / (10 ^ places (mantissa t))) ≡ m * 10 ^ (17 - count)
    by true e either =
        over_lower (value_of 10 (mantissa t)) 17 (places (mantissa t) + exponent t) (omega (arith, has.few, has.sum, read))
        ∙ ap (λ k. value_of 10 (mantissa t) * 10 ^ (17 - k)) (omega (arith, has.sum, read))
        ∙ ap (λ n. n * 10 ^ (17 - count)) (sym value)
    by false e (inl none) =
        ap (λ k. value_of 10 (mantissa t) * 10 ^ (17 + k) / 10 ^ places (mantissa t)) none
        ∙ over_lower (value_of 10 (mantissa t)) 17 (places (mantissa t)) (omega (arith, has.few, has.sum, read))
        ∙ ap (λ k. value_of 10 (mantissa t) * 10 ^ (17 - k)) (omega (arith, has.sum, read, none))
        ∙ ap (λ n. n * 10 ^ (17 - count)) (sym value)
    by false e (inr minus) = absurd (let bad : false ≡ true = sym e ∙ minus in cc)
