-- A power goes on by one product, and stays refused.
use Rattle.std.proofs.Common.{◌≡◌, ◌≢◌, ◌⊎◌, ◌≤◌, ◌<◌, ◌^◌, ℕ, zero, suc, refl, ap, sym, ◌∙◌, subst, arith, ℤ, pos, negsuc, ◌*ℤ◌, ◌<ℤ◌, unsigned_abs, inl, inr, Result, Ok, Err}
use Rattle.std.specs.Int.{int_pow}
use Rattle.std.proofs.Math.Nat.{one-dvd, one-le-pow}
use Rattle.std.proofs.lemmas.Int.{ints}
use borrow.Author.Differences.{same_in}
use Rattle.qs_values.specs.Lowest.{IsLowest, IsWide}
use Rattle.qs_values.specs.Number.{IsFrac, IsZero, NumberIs, ProductIs}
use Rattle.qs_values.specs.declared.number.Frac.{Frac}
use Rattle.qs_values.specs.declared.number.Num.{Num}
use Rattle.qs_values.specs.declared.refusal.NumRefusal.{NumRefusal}
use Rattle.qs_values.specs.declared.refusal.NumRefusal.TheVariants.{TooWide, PiTimesPi, ByZero, ByPi}
use Rattle.qs_values.proofs.LowestLemmas.{up-mul, down-mul}
use Rattle.qs_values.proofs.NumberLemmas.{nonzero_den, nonzero_product}
use Rattle.qs_values.proofs.OneNumber.{number_once, one_nonzero}
use Rattle.qs_values.proofs.OneQuotient.{cancelled, same_lowest}
use Rattle.qs_const.specs.Operations.{IsPower, IsPowerWithPi}
use Rattle.qs_const.proofs.SmallNumbers.{is_whole_frac, mul_one, zero_mul}
use Rattle.qs_const.proofs.WholePowers.{abs_int_pow, coprime_powers, int_pow_suc, int_pow_zero, large_from}

mul_comm : (a b : ℤ) → a *ℤ b ≡ b *ℤ a
mul_comm a b = same_in _ _ (simp (up-mul, down-mul) (omega arith))

pub zero_or_not : (z : ℤ) → (z ≡ pos 0) ⊎ (z ≢ pos 0)
zero_or_not (pos zero) = inl refl
zero_or_not (pos (suc n)) = inr (λ e. omega (arith, ints, e))
zero_or_not (negsuc n) = inr (λ e. omega (arith, ints, e))

-- ---- powers are in lowest terms

above_pow : (d : ℤ) (n : ℕ) → pos 0 <ℤ d → pos 0 <ℤ int_pow d n
above_pow (pos a) n h = let above : 0 < a ^ n = one-le-pow n a (omega (arith, ints)) in omega (arith, ints)
above_pow (negsuc a) n h = absurd (omega (arith, ints))

powers_lowest : (f : Frac) (n : ℕ) → IsLowest (int_pow f.num n) (int_pow f.den n) (int_pow f.num n) (int_pow f.den n)
powers_lowest f n = record {
  same = refl;
  above = above_pow f.den n f.above;
  coprime = rw (abs_int_pow f.num n, abs_int_pow f.den n) (coprime_powers (unsigned_abs f.num) (unsigned_abs f.den) n f.coprime);
}

pub nonzero_pow : (f : Frac) (n : ℕ) → int_pow f.den n ≢ pos 0
nonzero_pow f n e = omega (arith, ints, above_pow f.den n f.above, e)

-- a fraction that is a power has its parts
power_parts : (f g : Frac) (n : ℕ) → IsFrac (int_pow f.num n) (int_pow f.den n) g → (g.num ≡ int_pow f.num n) × (g.den ≡ int_pow f.den n)
power_parts f g n h = same_lowest _ _ _ _ _ _ (nonzero_pow f n) h (powers_lowest f n)

-- a fraction that is a whole number over 1 has its parts
whole_parts : (k : ℤ) (g : Frac) → IsFrac k (pos 1) g → (g.num ≡ k) × (g.den ≡ pos 1)
whole_parts k g h = same_lowest _ _ _ _ _ _ one_nonzero h (record { same = refl; above = omega (arith, ints); coprime = (one-dvd (unsigned_abs k), one-dvd 1, λ d p q. q) })

-- ---- one product more

-- 0 over any number is 0 over 1
zero_lowest : (d p q : ℤ) → d ≢ pos 0 → IsLowest (pos 0) d p q → IsLowest (pos 0) (pos 1) p q
zero_lowest d p q nonzero h =
    let none : p ≡ pos 0 = cancelled p (pos 0) d nonzero (h.same ∙ zero_mul q ∙ sym (zero_mul d)) in
    record { same = mul_one p ∙ none ∙ sym (zero_mul q); above = h.above; coprime = h.coprime }

without_pi : (n d e : ℤ) (r : Result Num NumRefusal) → e ≢ pos 0 → NumberIs n d (pos 0) e r → NumberIs n d (pos 0) (pos 1) r
without_pi n d e (Ok y) nonzero h = (h.0, zero_lowest e y.pi.num y.pi.den nonzero h.1)
without_pi n d e (Err TooWide) nonzero (inl h) = inl h
without_pi n d e (Err TooWide) nonzero (inr h) = inr (record { num = h.num; den = h.den; lowest = zero_lowest e h.num h.den nonzero h.lowest; wide = h.wide })
without_pi n d e (Err PiTimesPi) nonzero h = h
without_pi n d e (Err ByZero) nonzero h = h
without_pi n d e (Err ByPi) nonzero h = h

-- a product of parts that are those of a power and of its base
product_is : (x : Num) (n : ℕ) (a b c e : ℤ) (r : Result Num NumRefusal) → a ≡ int_pow x.plain.num (suc n) → b ≡ int_pow x.plain.den (suc n) → c ≡ pos 0 → e ≢ pos 0
    → NumberIs a b c e r → NumberIs (int_pow x.plain.num (suc n)) (int_pow x.plain.den (suc n)) (pos 0) (pos 1) r
product_is x n a b c e r p q none nonzero h = without_pi _ _ e r nonzero (rw (p, q, none) at h)

plain_next : (x before : Num) (n : ℕ) (r : Result Num NumRefusal) → IsZero x.pi
    → NumberIs (int_pow x.plain.num n) (int_pow x.plain.den n) (pos 0) (pos 1) (Ok before) → ProductIs before x r
    → NumberIs (int_pow x.plain.num (suc n)) (int_pow x.plain.den (suc n)) (pos 0) (pos 1) r
plain_next x before n r zero_pi is (inl (also, h)) =
    let parts = power_parts x.plain before.plain n is.0 in
    let pi = whole_parts (pos 0) before.pi is.1 in
    product_is x n _ _ _ _ r
    (ap (λ z. z *ℤ x.plain.num) parts.0 ∙ sym (int_pow_suc x.plain.num n))
    (ap (λ z. z *ℤ x.plain.den) parts.1 ∙ sym (int_pow_suc x.plain.den n))
    (ap (λ z. z *ℤ x.plain.num) pi.0 ∙ zero_mul x.plain.num)
    (nonzero_product before.pi.den x.plain.den (nonzero_den before.pi) (nonzero_den x.plain)) h
plain_next x before n r zero_pi is (inr (inl (also, h))) =
    let parts = power_parts x.plain before.plain n is.0 in
    product_is x n _ _ _ _ r
    (mul_comm x.plain.num before.plain.num ∙ ap (λ z. z *ℤ x.plain.num) parts.0 ∙ sym (int_pow_suc x.plain.num n))
    (mul_comm x.plain.den before.plain.den ∙ ap (λ z. z *ℤ x.plain.den) parts.1 ∙ sym (int_pow_suc x.plain.den n))
    (ap (λ z. z *ℤ before.plain.num) zero_pi ∙ zero_mul before.plain.num)
    (nonzero_product x.pi.den before.plain.den (nonzero_den x.pi) (nonzero_den before.plain)) h
plain_next x before n r zero_pi is (inr (inr (p, q, e))) = absurd (q zero_pi)

-- 1 times a number is that number
same_frac : (f : Frac) (a b : ℤ) → a ≡ pos 1 → b ≡ pos 1 → IsFrac (f.num *ℤ a) (f.den *ℤ b) f
same_frac f a b p q = record { same = rw (p, q, mul_one f.num, mul_one f.den) refl; above = f.above; coprime = f.coprime }

pi_next : (x before : Num) (n : ℕ) (r : Result Num NumRefusal) → x.pi.num ≢ pos 0 → IsPowerWithPi x n (Ok before) → ProductIs before x r → IsPowerWithPi x (suc n) r
pi_next x before n r pi is (inl (none, h)) = absurd (pi none)
pi_next x before zero r pi is (inr (inl (none, h))) =
    let one = whole_parts (pos 1) before.plain is.0 in
    number_once _ _ _ _ r (Ok x)
    (nonzero_product x.plain.den before.plain.den (nonzero_den x.plain) (nonzero_den before.plain))
    (nonzero_product x.pi.den before.plain.den (nonzero_den x.pi) (nonzero_den before.plain))
    h (same_frac x.plain before.plain.num before.plain.den one.0 one.1, same_frac x.pi before.plain.num before.plain.den one.0 one.1)
pi_next x before (suc zero) r pi is (inr (inl (none, h))) = absurd (pi (subst (λ (z : Result Num NumRefusal). pi_is_zero z) is none))
  where
    pi_is_zero : Result Num NumRefusal → Type 0
    pi_is_zero (Ok y) = IsZero y.pi
    pi_is_zero (Err e) = ⊥
pi_next x before (suc (suc n)) r pi is (inr (inl (none, h))) = absurd cc
pi_next x before zero r pi is (inr (inr (p, q, e))) = absurd (p (whole_parts (pos 0) before.pi is.1).0)
pi_next x before (suc zero) r pi is (inr (inr (p, q, e))) = e
pi_next x before (suc (suc n)) r pi is (inr (inr (p, q, e))) = absurd cc

pub power_next : (x before : Num) (n : ℕ) (r : Result Num NumRefusal) → IsPower x n (Ok before) → ProductIs before x r → IsPower x (suc n) r
power_next x before n r (inl (none, is)) h = inl (none, plain_next x before n r none is h)
power_next x before n r (inr (pi, is)) h = inr (pi, pi_next x before n r pi is h)

-- the power of no factors
pub power_start : (x one : Num) → one.plain.num ≡ pos 1 → one.plain.den ≡ pos 1 → one.pi.num ≡ pos 0 → one.pi.den ≡ pos 1 → IsPower x 0 (Ok one)
power_start x one p q r s =
    let is : NumberIs (pos 1) (pos 1) (pos 0) (pos 1) (Ok one) = (is_whole_frac one.plain (pos 1) p q, is_whole_frac one.pi (pos 0) r s) in
    elim (zero_or_not x.pi.num) [
      | inl none ↦ inl (none, rw (int_pow_zero x.plain.num, int_pow_zero x.plain.den) is)
      | inr pi ↦ inr (pi, is)
    ]

-- ---- a power that is refused stays so at each higher exponent

wide_from : (f : Frac) (n m : ℕ) → suc n ≤ m → IsWide (int_pow f.num (suc n)) (int_pow f.den (suc n)) → IsWide (int_pow f.num m) (int_pow f.den m)
wide_from f n m more h =
    let same = same_lowest _ _ _ _ _ _ (nonzero_pow f (suc n)) h.lowest (powers_lowest f (suc n)) in
    record {
      num = int_pow f.num m;
      den = int_pow f.den m;
      lowest = powers_lowest f m;
      wide = elim h.wide [
        | inl large ↦ inl (rw (abs_int_pow f.num m) (large_from (unsigned_abs f.num) n m more (rw (same.0, abs_int_pow f.num (suc n)) at large)))
        | inr large ↦ inr (rw (abs_int_pow f.den m) (large_from (unsigned_abs f.den) n m more (rw (same.1, abs_int_pow f.den (suc n)) at large)))
      ];
    }

pub refused_from : (x : Num) (e : NumRefusal) (n m : ℕ) → suc n ≤ m → IsPower x (suc n) (Err e) → IsPower x m (Err e)
refused_from x TooWide n m more (inl (none, inl wide)) = inl (none, inl (wide_from x.plain n m more wide))
refused_from x TooWide n m more (inl (none, inr wide)) = inl (none, inr wide)
refused_from x PiTimesPi n m more (inl (none, h)) = absurd h
refused_from x ByZero n m more (inl (none, h)) = absurd h
refused_from x ByPi n m more (inl (none, h)) = absurd h
refused_from x e zero m more (inr (pi, h)) = absurd cc
refused_from x e (suc n) zero more (inr (pi, h)) = absurd (omega arith)
refused_from x e (suc n) (suc zero) more (inr (pi, h)) = absurd (omega arith)
refused_from x e (suc n) (suc (suc m)) more (inr (pi, h)) = inr (pi, h)
