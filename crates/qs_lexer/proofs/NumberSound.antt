-- What the reader says of a number is so.
use Rattle.std.proofs.Common.{◌≡◌, ◌⊎◌, inl, inr, ℕ, List, [], ◌∷◌, ◌++◌, Bool, true, false, ◌||◌, nat_eq, eqb-true, codes, refl, ap, sym, ◌∙◌, subst, append_assoc, IsTrue}
use Rattle.std.specs.Char.{is_ascii_digit}
use Rattle.std.specs.Prelude.{Option, Some, None}
use Rattle.std.proofs.lemmas.Bool.{cond_both, or_cases}
use Rattle.std.proofs.lemmas.List.{append-nil}
use Rattle.std.proofs.lemmas.Option.{same_Some}
use Rattle.qs_lexer.specs.declared.shape.Shape.{Shape}
use Rattle.qs_lexer.specs.declared.shape.Shape.TheVariants.{Whole, Decimal, Time}
use Rattle.qs_lexer.specs.declared.state.Base.{Base}
use Rattle.qs_lexer.specs.declared.state.Base.TheVariants.{Hexadecimal, Binary, Octal}
use Rattle.qs_lexer.specs.declared.state.State.{State}
use Rattle.qs_lexer.specs.declared.state.State.TheVariants.{Nothing, Zero, Digits, Based, Point, Pointed, Part, Letter, Signed, Exponent, Half, Ended}
use Rattle.qs_lexer.specs.declared.token.Unit.{Unit as TimeUnit}
use Rattle.qs_lexer.specs.declared.token.Unit.TheVariants.{Us}
use Rattle.qs_lexer.specs.Forms.{AreDigits, Form, IsDecimal, IsPointed, IsUnit, IsWhole, goes_on}
use Rattle.qs_lexer.specs.steps.Scan.{at_based, at_digit, at_digits, at_exponent, at_half, at_number, at_part, at_start, at_zero, is_digit_of, last_letter, shape_before, step, unit_begun}
use Rattle.qs_lexer.proofs.DigitLemmas.{AreSoFar, decimal-cases, digit-follows, one-digit}
use Rattle.qs_lexer.proofs.NumberStates.{BeginsExponent, IsLetterOf, IsMantissa, IsNumber, ReachedNumber}

-- that a state was reached by a text
abbrev Reached : List ℕ → State → Type 0
Reached t s = ReachedNumber s t

-- the first letter of `us`, of which two are micro signs
us-begins : (c : ℕ) → (nat_eq c 117 || nat_eq c 181 || nat_eq c 956) ≡ true → IsUnit Us (c ∷ codes "s")
us-begins c h =
    elim (or_cases (nat_eq c 117 || nat_eq c 181) (nat_eq c 956) h) [
      | inl h' ↦ elim (or_cases (nat_eq c 117) (nat_eq c 181) h') [
        | inl e ↦ inl (ap (λ x. x ∷ codes "s") (eqb-true c 117 e))
        | inr e ↦ inr (inl (ap (λ x. x ∷ codes "s") (eqb-true c 181 e)))
      ]
      | inr e ↦ inr (inr (ap (λ x. x ∷ codes "s") (eqb-true c 956 e)))
    ]

-- a letter of a unit behind a number
unit-step : (t : List ℕ) (c : ℕ) → IsNumber t → ReachedNumber (unit_begun c) (t ++ c ∷ [])
unit-step t c h =
    cond_both (nat_eq c 100) _ _ (Reached (t ++ c ∷ [])) (λ e. (t, c, refl, h, ap (λ x. x ∷ codes "t") (eqb-true c 100 e))) (λ e.
    cond_both (nat_eq c 110) _ _ (Reached (t ++ c ∷ [])) (λ e. (t, c, refl, h, ap (λ x. x ∷ codes "s") (eqb-true c 110 e))) (λ e.
    cond_both (nat_eq c 117 || nat_eq c 181 || nat_eq c 956) _ _ (Reached (t ++ c ∷ [])) (λ e. (t, c, refl, h, us-begins c e)) (λ e.
    cond_both (nat_eq c 109) _ _ (Reached (t ++ c ∷ [])) (λ e. (t, c, refl, h, ap (λ x. x ∷ codes "s") (eqb-true c 109 e))) (λ e.
    cond_both (nat_eq c 115) _ _ (Reached (t ++ c ∷ [])) (λ e. (t, c ∷ [], refl, h, ap (λ x. x ∷ []) (eqb-true c 115 e))) (λ e. tt)))))

mantissa-is-number : (t : List ℕ) → IsMantissa t → IsNumber t
mantissa-is-number t (inl h) = inl h
mantissa-is-number t (inr h) = inr (inl h)

-- one of two letters
one-of : (c a b : ℕ) → (nat_eq c a || nat_eq c b) ≡ true → (c ≡ a) ⊎ (c ≡ b)
one-of c a b h = elim (or_cases (nat_eq c a) (nat_eq c b) h) [ inl e ↦ inl (eqb-true c a e) | inr e ↦ inr (eqb-true c b e) ]

-- a letter behind a number without exponent
letter-step : (t : List ℕ) (c : ℕ) → IsMantissa t → ReachedNumber (at_number c) (t ++ c ∷ [])
letter-step t c h =
    cond_both (nat_eq c 101 || nat_eq c 69) _ _ (Reached (t ++ c ∷ [])) (λ e. (t, c, refl, h, one-of c 101 69 e)) (λ e. unit-step t c (mantissa-is-number t h))

digits-step : (ended : Bool) (t : List ℕ) (c : ℕ) → AreSoFar is_ascii_digit ended t → ReachedNumber (at_digits ended c) (t ++ c ∷ [])
digits-step true t c h =
    cond_both (is_ascii_digit c) _ _ (Reached (t ++ c ∷ [])) (λ e. digit-follows is_ascii_digit true t c e h) (λ e.
    cond_both (nat_eq c 95) _ _ (Reached (t ++ c ∷ [])) (λ e. (t, ap (λ x. t ++ x ∷ []) (eqb-true c 95 e), h)) (λ e.
    cond_both (nat_eq c 46) _ _ (Reached (t ++ c ∷ [])) (λ e. (t, ap (λ x. t ++ x ∷ []) (eqb-true c 46 e), h)) (λ e. letter-step t c (inl h))))
digits-step false t c h = cond_both (is_ascii_digit c) _ _ (Reached (t ++ c ∷ [])) (λ e. digit-follows is_ascii_digit false t c e h) (λ e. tt)

-- `0`, and the letter of a base
base-begins : (base : Base) (c : ℕ) → IsLetterOf base c → ReachedNumber (Based base false) (48 ∷ c ∷ [])
base-begins base c h = (c, [], refl, h, inl (refl, refl))

zero-step : (c : ℕ) → ReachedNumber (at_zero c) (48 ∷ c ∷ [])
zero-step c =
    cond_both (nat_eq c 120 || nat_eq c 88) _ _ (Reached (48 ∷ c ∷ [])) (λ e. base-begins Hexadecimal c (one-of c 120 88 e)) (λ e.
    cond_both (nat_eq c 98 || nat_eq c 66) _ _ (Reached (48 ∷ c ∷ [])) (λ e. base-begins Binary c (one-of c 98 66 e)) (λ e.
    cond_both (nat_eq c 111) _ _ (Reached (48 ∷ c ∷ [])) (λ e. base-begins Octal c (inl (eqb-true c 111 e))) (λ e. digits-step true (codes "0") c refl)))

-- the digits behind the letter of a base
based-digit : (base : Base) (ended : Bool) (ds : List ℕ) (c : ℕ) → is_digit_of base c ≡ true → ((ended ≡ false) × (ds ≡ [])) ⊎ AreSoFar (is_digit_of base) ended ds
    → AreDigits (is_digit_of base) (ds ++ c ∷ [])
based-digit base ended ds c is (inl none) = subst (λ u. AreDigits (is_digit_of base) (u ++ c ∷ [])) (sym none.1) (one-digit (is_digit_of base) false c is)
based-digit base ended ds c is (inr some) = digit-follows (is_digit_of base) ended ds c is some

based-step : (base : Base) (ended : Bool) (t : List ℕ) (c : ℕ) → ReachedNumber (Based base ended) t → ReachedNumber (at_based base ended c) (t ++ c ∷ [])
based-step base true t c (letter, ds, e, l, inl none) = absurd (let bad : true ≡ false = none.0 in cc)
based-step base true t c (letter, ds, e, l, inr some) =
    cond_both (is_digit_of base c) _ _ (Reached (t ++ c ∷ [])) (λ is. (letter, ds ++ c ∷ [], ap (λ u. u ++ c ∷ []) e, l, inr (based-digit base true ds c is (inr some)))) (λ other.
    cond_both (nat_eq c 95) _ _ (Reached (t ++ c ∷ [])) (λ low. (letter, ds ++ c ∷ [], ap (λ u. u ++ c ∷ []) e, l, inr (ds, ap (λ x. ds ++ x ∷ []) (eqb-true c 95 low), some))) (λ other. tt))
based-step base false t c (letter, ds, e, l, d) =
    cond_both (is_digit_of base c) _ _ (Reached (t ++ c ∷ [])) (λ is. (letter, ds ++ c ∷ [], ap (λ u. u ++ c ∷ []) e, l, inr (based-digit base false ds c is d))) (λ other. tt)

-- digits and a point
pointed-form : (t : List ℕ) → ReachedNumber Pointed t → IsPointed t
pointed-form t (whole, e, w) = (whole, [], e ∙ sym (append-nil (whole ++ codes ".")), inl (w, inl refl))

-- and digits behind it
part-form : (t : List ℕ) → ReachedNumber (Part true) t → IsPointed t
part-form t (whole, part, e, inl w, p) = (whole, part, e, inl (w, inr p))
part-form t (whole, part, e, inr w, p) = (whole, part, e, inr (w, p))

pointed-step : (t : List ℕ) (c : ℕ) → ReachedNumber Pointed t → ReachedNumber (step Pointed c) (t ++ c ∷ [])
pointed-step t c (whole, e, w) =
    cond_both (is_ascii_digit c) _ _ (Reached (t ++ c ∷ [])) (λ is. (whole, c ∷ [], ap (λ u. u ++ c ∷ []) e, inl w, one-digit is_ascii_digit false c is))
    (λ other. letter-step t c (inr (pointed-form t (whole, e, w))))

part-digit : (ended : Bool) (t : List ℕ) (c : ℕ) → is_ascii_digit c ≡ true → ReachedNumber (Part ended) t → ReachedNumber (Part true) (t ++ c ∷ [])
part-digit ended t c is (whole, part, e, w, p) =
    (whole, part ++ c ∷ [], ap (λ u. u ++ c ∷ []) e ∙ append_assoc (whole ++ codes ".") part (c ∷ []), w, digit-follows is_ascii_digit ended part c is p)

part-low : (t : List ℕ) (c : ℕ) → c ≡ 95 → ReachedNumber (Part true) t → ReachedNumber (Part false) (t ++ c ∷ [])
part-low t c low (whole, part, e, w, p) =
    (whole, part ++ c ∷ [], ap (λ u. u ++ c ∷ []) e ∙ append_assoc (whole ++ codes ".") part (c ∷ []), w, (part, ap (λ x. part ++ x ∷ []) low, p))

part-step : (ended : Bool) (t : List ℕ) (c : ℕ) → ReachedNumber (Part ended) t → ReachedNumber (at_part ended c) (t ++ c ∷ [])
part-step true t c h =
    cond_both (is_ascii_digit c) _ _ (Reached (t ++ c ∷ [])) (λ is. part-digit true t c is h) (λ other.
    cond_both (nat_eq c 95) _ _ (Reached (t ++ c ∷ [])) (λ low. part-low t c (eqb-true c 95 low) h) (λ other. letter-step t c (inr (part-form t h))))
part-step false t c h = cond_both (is_ascii_digit c) _ _ (Reached (t ++ c ∷ [])) (λ is. part-digit false t c is h) (λ other. tt)

-- the first digit of an exponent
first-of-exponent : (sign t : List ℕ) (c : ℕ) → (sign ≡ []) ⊎ ((sign ≡ codes "+") ⊎ (sign ≡ codes "-")) → BeginsExponent sign t → ReachedNumber (at_digit (Exponent true) c) (t ++ c ∷ [])
first-of-exponent sign t c signed (number, letter, e, n, l) =
    cond_both (is_ascii_digit c) _ _ (Reached (t ++ c ∷ [])) (λ is. (number, letter, sign, c ∷ [], ap (λ u. u ++ c ∷ []) e, n, l, signed, one-digit is_ascii_digit false c is)) (λ other. tt)

-- the sign of an exponent
sign-follows : (t : List ℕ) (c sign : ℕ) → c ≡ sign → BeginsExponent [] t → BeginsExponent (sign ∷ []) (t ++ c ∷ [])
sign-follows t c sign same (number, letter, e, n, l) =
    (number, letter, ap (λ u. u ++ c ∷ []) e ∙ append_assoc number (letter ∷ []) (c ∷ []) ∙ ap (λ x. number ++ letter ∷ x ∷ []) same, n, l)

exponent-letter-step : (t : List ℕ) (c : ℕ) → ReachedNumber Letter t → ReachedNumber (step Letter c) (t ++ c ∷ [])
exponent-letter-step t c h =
    cond_both (nat_eq c 43 || nat_eq c 45) _ _ (Reached (t ++ c ∷ [])) (λ e. elim (one-of c 43 45 e) [ inl plus ↦ inl (sign-follows t c 43 plus h) | inr minus ↦ inr (sign-follows t c 45 minus h) ])
    (λ other. first-of-exponent [] t c (inl refl) h)

signed-step : (t : List ℕ) (c : ℕ) → ReachedNumber Signed t → ReachedNumber (step Signed c) (t ++ c ∷ [])
signed-step t c (inl plus) = first-of-exponent (codes "+") t c (inr (inl refl)) plus
signed-step t c (inr minus) = first-of-exponent (codes "-") t c (inr (inr refl)) minus

exponent-form : (t : List ℕ) → ReachedNumber (Exponent true) t → IsDecimal t
exponent-form t (number, letter, sign, ds, e, n, l, s, d) = inr (number, letter ∷ sign ++ ds, e ∙ append_assoc number (letter ∷ sign) ds, n, (letter, sign, ds, refl, l, s, d))

exponent-digit : (ended : Bool) (t : List ℕ) (c : ℕ) → is_ascii_digit c ≡ true → ReachedNumber (Exponent ended) t → ReachedNumber (Exponent true) (t ++ c ∷ [])
exponent-digit ended t c is (number, letter, sign, ds, e, n, l, s, d) =
    (number, letter, sign, ds ++ c ∷ [], ap (λ u. u ++ c ∷ []) e ∙ append_assoc (number ++ letter ∷ sign) ds (c ∷ []), n, l, s, digit-follows is_ascii_digit ended ds c is d)

exponent-low : (t : List ℕ) (c : ℕ) → c ≡ 95 → ReachedNumber (Exponent true) t → ReachedNumber (Exponent false) (t ++ c ∷ [])
exponent-low t c low (number, letter, sign, ds, e, n, l, s, d) =
    (number, letter, sign, ds ++ c ∷ [], ap (λ u. u ++ c ∷ []) e ∙ append_assoc (number ++ letter ∷ sign) ds (c ∷ []), n, l, s, (ds, ap (λ x. ds ++ x ∷ []) low, d))

exponent-step : (ended : Bool) (t : List ℕ) (c : ℕ) → ReachedNumber (Exponent ended) t → ReachedNumber (at_exponent ended c) (t ++ c ∷ [])
exponent-step true t c h =
    cond_both (is_ascii_digit c) _ _ (Reached (t ++ c ∷ [])) (λ is. exponent-digit true t c is h) (λ other.
    cond_both (nat_eq c 95) _ _ (Reached (t ++ c ∷ [])) (λ low. exponent-low t c (eqb-true c 95 low) h) (λ other. unit-step t c (inr (exponent-form t h))))
exponent-step false t c h = cond_both (is_ascii_digit c) _ _ (Reached (t ++ c ∷ [])) (λ is. exponent-digit false t c is h) (λ other. tt)

-- the second letter of a unit
half-step : (unit : TimeUnit) (t : List ℕ) (c : ℕ) → ReachedNumber (Half unit) t → ReachedNumber (at_half unit c) (t ++ c ∷ [])
half-step unit t c (number, letter, e, n, u) =
    cond_both (nat_eq c (last_letter unit)) _ _ (Reached (t ++ c ∷ []))
    (λ is. (number, letter ∷ c ∷ [], ap (λ u. u ++ c ∷ []) e ∙ append_assoc number (letter ∷ []) (c ∷ []), n, subst (λ x. IsUnit unit (letter ∷ x ∷ [])) (sym (eqb-true c (last_letter unit) is)) u))
    (λ other. tt)

point-step : (t : List ℕ) (c : ℕ) → ReachedNumber Point t → ReachedNumber (step Point c) (t ++ c ∷ [])
point-step t c h = cond_both (is_ascii_digit c) _ _ (Reached (t ++ c ∷ [])) (λ is. ([], c ∷ [], ap (λ u. u ++ c ∷ []) h, inr refl, one-digit is_ascii_digit false c is)) (λ other. tt)

-- one character more
pub number-step : (s : State) (t : List ℕ) (c : ℕ) → ReachedNumber s t → ReachedNumber (step s c) (t ++ c ∷ [])
number-step Nothing t c h = tt
number-step Zero t c h = subst (λ u. ReachedNumber (at_zero c) (u ++ c ∷ [])) (sym h) (zero-step c)
number-step (Digits ended) t c h = digits-step ended t c h
number-step (Based base ended) t c h = based-step base ended t c h
number-step Point t c h = point-step t c h
number-step Pointed t c h = pointed-step t c h
number-step (Part ended) t c h = part-step ended t c h
number-step Letter t c h = exponent-letter-step t c h
number-step Signed t c h = signed-step t c h
number-step (Exponent ended) t c h = exponent-step ended t c h
number-step (Half unit) t c h = half-step unit t c h
number-step (Ended unit) t c h = tt
number-step s t c h = absurd h

-- the states of one character: `0`, a digit, a point
pub zero-start : (c : ℕ) → c ≡ 48 → ReachedNumber Zero (c ∷ [])
zero-start c e = ap (λ x. x ∷ []) e

pub digit-start : (c : ℕ) → IsTrue (is_ascii_digit c) → ReachedNumber (Digits true) (c ∷ [])
digit-start c is = one-digit is_ascii_digit false c is

pub point-start : (c : ℕ) → c ≡ 46 → ReachedNumber Point (c ∷ [])
point-start c e = ap (λ x. x ∷ []) e

-- what begins with a digit or a point
pub number-start : (first : Bool) (c : ℕ) → IsTrue (is_ascii_digit c) ⊎ (c ≡ 46) → ReachedNumber (at_start first c) (c ∷ [])
number-start first c (inl digit) = decimal-cases (λ c. ReachedNumber (at_start first c) (c ∷ [])) refl refl refl refl refl refl refl refl refl refl c digit
number-start first c (inr point) = subst (λ c. ReachedNumber (at_start first c) (c ∷ [])) (sym point) refl

-- a whole number by its base
base-form : (base : Base) (t : List ℕ) → ReachedNumber (Based base true) t → IsWhole t
base-form base t (letter, ds, e, l, inl none) = absurd (let bad : true ≡ false = none.0 in cc)
base-form Hexadecimal t (letter, ds, e, l, inr some) = inr (inl (letter, ds, e, l, some))
base-form Binary t (letter, ds, e, l, inr some) = inr (inr (inl (letter, ds, e, l, some)))
base-form Octal t (letter, ds, e, l, inr some) = inr (inr (inr (letter, ds, e, l, some)))

-- a text of this form, where that was told
pub form_told : (first : Bool) (t after : List ℕ) (form told : Shape) → Some form ≡ Some told → Form first form t after → Form first told t after
form_told first t after form told same is = subst (λ s. Form first s t after) (same_Some form told same) is

no-shape : {P : Type 0} (shape : Shape) → None ≡ Some shape → P
no-shape shape e = absurd cc

-- what may end here has its form
pub number-form : (s : State) (t : List ℕ) (next : Option ℕ) (shape : Shape) → ReachedNumber s t → shape_before s next ≡ Some shape → (first : Bool) (after : List ℕ) → Form first shape t after
number-form Nothing t next shape h e first after = no-shape shape e
number-form Zero t next shape h e first after = form_told first t after Whole shape e (inl (ap (goes_on is_ascii_digit false) h))
number-form (Digits true) t next shape h e first after = form_told first t after Whole shape e (inl h)
number-form (Digits false) t next shape h e first after = no-shape shape e
number-form (Based base true) t next shape h e first after = form_told first t after Whole shape e (base-form base t h)
number-form (Based base false) t next shape h e first after = no-shape shape e
number-form Point t next shape h e first after = no-shape shape e
number-form Pointed t next shape h e first after = form_told first t after Decimal shape e (inl (pointed-form t h))
number-form (Part true) t next shape h e first after = form_told first t after Decimal shape e (inl (part-form t h))
number-form (Part false) t next shape h e first after = no-shape shape e
number-form Letter t next shape h e first after = no-shape shape e
number-form Signed t next shape h e first after = no-shape shape e
number-form (Exponent true) t next shape h e first after = form_told first t after Decimal shape e (exponent-form t h)
number-form (Exponent false) t next shape h e first after = no-shape shape e
number-form (Half unit) t next shape h e first after = no-shape shape e
number-form (Ended unit) t next shape h e first after = form_told first t after (Time unit) shape e h
number-form s t next shape h e first after = absurd h
