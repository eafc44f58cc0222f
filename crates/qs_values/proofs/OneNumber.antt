-- Numbers are unique: operations on numbers have one answer.
use Rattle.std.proofs.Common.{◌≡◌, ◌≢◌, ◌⊎◌, refl, ap, sym, ◌∙◌, arith, ℤ, pos, ◌*ℤ◌, inl, inr, Result, Ok, Err}
use Rattle.std.proofs.Math.IntN.{*ℤ_comm, zero-*ℤ}
use Rattle.std.proofs.lemmas.Int.{ints}
use borrow.Author.Differences.{same_in}
use Rattle.qs_values.specs.Lowest.{IsLowest, IsWide}
use Rattle.qs_values.specs.Number.{DifferenceIs, IsFrac, IsZero, NumberIs, ProductIs, QuotientIs, RatioIs, ScaledIs, SumIs}
use Rattle.qs_values.specs.declared.number.Frac.{Frac}
use Rattle.qs_values.specs.declared.number.Num.{Num}
use Rattle.qs_values.specs.declared.refusal.NumRefusal.{NumRefusal}
use Rattle.qs_values.specs.declared.refusal.NumRefusal.TheVariants.{TooWide, PiTimesPi, ByZero, ByPi}
use Rattle.qs_values.proofs.LowestLemmas.{up-mul, down-mul}
use Rattle.qs_values.proofs.NumberLemmas.{nonzero_product, nonzero_den}
use Rattle.qs_values.proofs.OneQuotient.{answer_excludes_wide, cancelled}
use Rattle.qs_values.proofs.FracOnce.{frac_once}

pub same_number : (x y : Num) → x.plain ≡ y.plain → x.pi ≡ y.pi → x ≡ y
same_number x y plain pi = λ i. record { plain = plain i; pi = pi i }

zero_is : (f : Frac) → IsZero f → IsFrac (pos 0) (pos 1) f
zero_is f p = record { same = omega (arith, ints, p); above = f.above; coprime = f.coprime }

-- 0 is one fraction, with the denominator 1
pub one_zero : (f g : Frac) → IsZero f → IsZero g → f ≡ g
one_zero f g p q = frac_once (pos 0) (pos 1) f g (λ e. omega (arith, ints, e)) (zero_is f p) (zero_is g q)

-- ---- quotients of whole numbers

pub quotient_once : (n d : ℤ) (r s : Result Frac NumRefusal) → QuotientIs n d r → QuotientIs n d s → r ≡ s
quotient_once n d (Ok f) (Ok g) h k = ap Ok (frac_once n d f g h.0 h.1 k.1)
quotient_once n d (Ok f) (Err TooWide) h k = absurd (answer_excludes_wide n d f h.0 h.1 k.1)
quotient_once n d (Ok f) (Err ByZero) h k = absurd (h.0 k)
quotient_once n d (Ok f) (Err PiTimesPi) h k = absurd k
quotient_once n d (Ok f) (Err ByPi) h k = absurd k
quotient_once n d (Err TooWide) (Ok g) h k = absurd (answer_excludes_wide n d g k.0 k.1 h.1)
quotient_once n d (Err TooWide) (Err TooWide) h k = refl
quotient_once n d (Err TooWide) (Err ByZero) h k = absurd (h.0 k)
quotient_once n d (Err TooWide) (Err PiTimesPi) h k = absurd k
quotient_once n d (Err TooWide) (Err ByPi) h k = absurd k
quotient_once n d (Err ByZero) (Ok g) h k = absurd (k.0 h)
quotient_once n d (Err ByZero) (Err TooWide) h k = absurd (k.0 h)
quotient_once n d (Err ByZero) (Err ByZero) h k = refl
quotient_once n d (Err ByZero) (Err PiTimesPi) h k = absurd k
quotient_once n d (Err ByZero) (Err ByPi) h k = absurd k
quotient_once n d (Err PiTimesPi) s h k = absurd h
quotient_once n d (Err ByPi) s h k = absurd h

-- ---- numbers

pub number_once : (an ad bn bd : ℤ) (r s : Result Num NumRefusal) → ad ≢ pos 0 → bd ≢ pos 0 → NumberIs an ad bn bd r → NumberIs an ad bn bd s → r ≡ s
number_once an ad bn bd (Ok x) (Ok y) p q h k = ap Ok (same_number x y (frac_once an ad x.plain y.plain p h.0 k.0) (frac_once bn bd x.pi y.pi q h.1 k.1))
number_once an ad bn bd (Ok x) (Err TooWide) p q h (inl wide) = absurd (answer_excludes_wide an ad x.plain p h.0 wide)
number_once an ad bn bd (Ok x) (Err TooWide) p q h (inr wide) = absurd (answer_excludes_wide bn bd x.pi q h.1 wide)
number_once an ad bn bd (Ok x) (Err PiTimesPi) p q h k = absurd k
number_once an ad bn bd (Ok x) (Err ByZero) p q h k = absurd k
number_once an ad bn bd (Ok x) (Err ByPi) p q h k = absurd k
number_once an ad bn bd (Err TooWide) (Ok x) p q (inl wide) k = absurd (answer_excludes_wide an ad x.plain p k.0 wide)
number_once an ad bn bd (Err TooWide) (Ok x) p q (inr wide) k = absurd (answer_excludes_wide bn bd x.pi q k.1 wide)
number_once an ad bn bd (Err TooWide) (Err TooWide) p q h k = refl
number_once an ad bn bd (Err TooWide) (Err PiTimesPi) p q h k = absurd k
number_once an ad bn bd (Err TooWide) (Err ByZero) p q h k = absurd k
number_once an ad bn bd (Err TooWide) (Err ByPi) p q h k = absurd k
number_once an ad bn bd (Err PiTimesPi) s p q h k = absurd h
number_once an ad bn bd (Err ByZero) s p q h k = absurd h
number_once an ad bn bd (Err ByPi) s p q h k = absurd h

dens : (f g : Frac) → f.den *ℤ g.den ≢ pos 0
dens f g = nonzero_product f.den g.den (nonzero_den f) (nonzero_den g)

pub sum_once : (x y : Num) (r s : Result Num NumRefusal) → SumIs x y r → SumIs x y s → r ≡ s
sum_once x y r s = number_once _ _ _ _ r s (dens x.plain y.plain) (dens x.pi y.pi)

pub difference_once : (x y : Num) (r s : Result Num NumRefusal) → DifferenceIs x y r → DifferenceIs x y s → r ≡ s
difference_once x y r s = number_once _ _ _ _ r s (dens x.plain y.plain) (dens x.pi y.pi)

scaled_once : (x : Num) (f : Frac) (r s : Result Num NumRefusal) → ScaledIs x f r → ScaledIs x f s → r ≡ s
scaled_once x f r s = number_once _ _ _ _ r s (dens x.plain f) (dens x.pi f)

-- ---- products, which either factor may scale

mul_swap : (a b c : ℤ) → (a *ℤ b) *ℤ c ≡ (a *ℤ c) *ℤ b
mul_swap a b c = same_in _ _ (simp (up-mul, down-mul) (omega arith))

-- one fraction by other parts
moved : (n d m e p q : ℤ) → d ≢ pos 0 → n *ℤ e ≡ m *ℤ d → IsLowest n d p q → IsLowest m e p q
moved n d m e p q nonzero cross h = record {
  same = cancelled (p *ℤ e) (m *ℤ q) d nonzero (mul_swap p e d ∙ ap (λ z. z *ℤ e) h.same ∙ mul_swap n q e ∙ ap (λ z. z *ℤ q) cross ∙ mul_swap m d q);
  above = h.above;
  coprime = h.coprime;
}

wide_moved : (n d m e : ℤ) → d ≢ pos 0 → n *ℤ e ≡ m *ℤ d → IsWide n d → IsWide m e
wide_moved n d m e nonzero cross h = record { num = h.num; den = h.den; lowest = moved n d m e h.num h.den nonzero cross h.lowest; wide = h.wide }

-- one number by other parts
number_moved : (an ad bn bd cn cd dn dd : ℤ) (r : Result Num NumRefusal) → ad ≢ pos 0 → bd ≢ pos 0 → an *ℤ cd ≡ cn *ℤ ad → bn *ℤ dd ≡ dn *ℤ bd
    → NumberIs an ad bn bd r → NumberIs cn cd dn dd r
number_moved an ad bn bd cn cd dn dd (Ok x) p q e f h = (moved an ad cn cd x.plain.num x.plain.den p e h.0, moved bn bd dn dd x.pi.num x.pi.den q f h.1)
number_moved an ad bn bd cn cd dn dd (Err TooWide) p q e f (inl h) = inl (wide_moved an ad cn cd p e h)
number_moved an ad bn bd cn cd dn dd (Err TooWide) p q e f (inr h) = inr (wide_moved bn bd dn dd q f h)
number_moved an ad bn bd cn cd dn dd (Err PiTimesPi) p q e f h = h
number_moved an ad bn bd cn cd dn dd (Err ByZero) p q e f h = h
number_moved an ad bn bd cn cd dn dd (Err ByPi) p q e f h = h

-- where neither factor has pi, each scales the other alike
both_scale : (x y : Num) (r : Result Num NumRefusal) → IsZero x.pi → IsZero y.pi → ScaledIs y x.plain r → ScaledIs x y.plain r
both_scale x y r no_x no_y h = number_moved
    (y.plain.num *ℤ x.plain.num) (y.plain.den *ℤ x.plain.den) (y.pi.num *ℤ x.plain.num) (y.pi.den *ℤ x.plain.den)
    (x.plain.num *ℤ y.plain.num) (x.plain.den *ℤ y.plain.den) (x.pi.num *ℤ y.plain.num) (x.pi.den *ℤ y.plain.den)
    r (dens y.plain x.plain) (dens y.pi x.plain)
    (rw (*ℤ_comm y.plain.num x.plain.num, *ℤ_comm x.plain.den y.plain.den) refl)
    (rw (no_x, no_y, zero-*ℤ x.plain.num, zero-*ℤ y.plain.num, zero-*ℤ (x.pi.den *ℤ y.plain.den), zero-*ℤ (y.pi.den *ℤ x.plain.den)) refl)
    h

pub product_once : (x y : Num) (r s : Result Num NumRefusal) → ProductIs x y r → ProductIs x y s → r ≡ s
product_once x y r s (inl h) (inl k) = scaled_once x y.plain r s h.1 k.1
product_once x y r s (inl h) (inr (inl k)) = scaled_once x y.plain r s h.1 (both_scale x y s k.0 h.0 k.1)
product_once x y r s (inl h) (inr (inr k)) = absurd (k.1 h.0)
product_once x y r s (inr (inl h)) (inl k) = scaled_once x y.plain r s (both_scale x y r h.0 k.0 h.1) k.1
product_once x y r s (inr (inl h)) (inr (inl k)) = scaled_once y x.plain r s h.1 k.1
product_once x y r s (inr (inl h)) (inr (inr k)) = absurd (k.0 h.0)
product_once x y r s (inr (inr h)) (inl k) = absurd (h.1 k.0)
product_once x y r s (inr (inr h)) (inr (inl k)) = absurd (h.0 k.0)
product_once x y r s (inr (inr h)) (inr (inr k)) = h.2 ∙ sym k.2

-- ---- quotients of numbers

pub one_nonzero : pos 1 ≢ pos 0
one_nonzero e = omega (arith, ints, e)

not_both : (x y : Num) → IsZero x.plain → IsZero y.plain → (y.plain.num ≢ pos 0) ⊎ (x.plain.num ≢ pos 0) → ⊥
not_both x y p q (inl h) = h q
not_both x y p q (inr h) = h p

pub ratio_once : (x y : Num) (r s : Result Num NumRefusal) → RatioIs x y r → RatioIs x y s → r ≡ s
ratio_once x y r s (inl h) (inl k) = number_once _ _ _ _ r s (nonzero_product x.plain.den y.plain.num (nonzero_den x.plain) h.1) (nonzero_product x.pi.den y.plain.num (nonzero_den x.pi) h.1) h.2 k.2
ratio_once x y r s (inl h) (inr (inl k)) = absurd (h.1 k.1)
ratio_once x y r s (inl h) (inr (inr (inl k))) = absurd (k.0 h.0)
ratio_once x y r s (inl h) (inr (inr (inr k))) = absurd (k.0 h.0)
ratio_once x y r s (inr (inl h)) (inl k) = absurd (k.1 h.1)
ratio_once x y r s (inr (inl h)) (inr (inl k)) = h.2 ∙ sym k.2
ratio_once x y r s (inr (inl h)) (inr (inr (inl k))) = absurd (k.0 h.0)
ratio_once x y r s (inr (inl h)) (inr (inr (inr k))) = absurd (k.0 h.0)
ratio_once x y r s (inr (inr (inl h))) (inl k) = absurd (h.0 k.0)
ratio_once x y r s (inr (inr (inl h))) (inr (inl k)) = absurd (h.0 k.0)
ratio_once x y r s (inr (inr (inl h))) (inr (inr (inl k))) = number_once _ _ _ _ r s (nonzero_product x.pi.den y.pi.num (nonzero_den x.pi) h.0) one_nonzero h.3 k.3
ratio_once x y r s (inr (inr (inl h))) (inr (inr (inr k))) = absurd (not_both x y h.2 h.1 k.1)
ratio_once x y r s (inr (inr (inr h))) (inl k) = absurd (h.0 k.0)
ratio_once x y r s (inr (inr (inr h))) (inr (inl k)) = absurd (h.0 k.0)
ratio_once x y r s (inr (inr (inr h))) (inr (inr (inl k))) = absurd (not_both x y k.2 k.1 h.1)
ratio_once x y r s (inr (inr (inr h))) (inr (inr (inr k))) = h.2 ∙ sym k.2
