-- The signs, as the reader tells them character by character.
use Rattle.std.proofs.Common.{◌≡◌, ℕ, ◌<◌, List, [], ◌∷◌, Bool, true, false, ◌&&◌, ◌||◌, nat_eq, codes, Option, Some, refl, sym, ◌∙◌, subst, arith, true≢false, inl, inr}
use Rattle.std.specs.List.{list_all, list_any}
use Rattle.std.specs.Str.{bytes_eq}
use Rattle.std.proofs.lemmas.Bool.{agree_below_at, and_parts, or_cases, eqb-true, cond_both}
use Rattle.std.proofs.lemmas.Bool.Decides.{nat_tests}
use Rattle.std.proofs.lemmas.Slice.Eq.{bytes_eq-Decides}
use Rattle.qs_lexer.specs.declared.shape.Shape.{Shape}
use Rattle.qs_lexer.specs.declared.shape.Shape.TheVariants as shape
use Rattle.qs_lexer.specs.declared.state.State.TheVariants.{Start}
use Rattle.qs_lexer.specs.Forms.{IsSign, signs}
use Rattle.qs_lexer.specs.steps.Scan.{is_one_sign, is_two_signs, is_three_signs, takes_equals, run, shape_before}

-- whether a text is a sign
abbrev pub is_sign : List ℕ → Bool
is_sign t = list_any (bytes_eq t) signs

-- ---- the reader's signs are signs

below_of_one : (a : ℕ) → is_one_sign a ≡ true → a < 128
below_of_one a h = grind (arith, nat_tests)

below_of_equals : (a : ℕ) → takes_equals a ≡ true → a < 128
below_of_equals a h = grind (arith, nat_tests)

pub one_is_sign : (a : ℕ) → is_one_sign a ≡ true → is_sign (a ∷ []) ≡ true
unfolding signs
one_is_sign a h = sym (agree_below_at is_one_sign (λ c. is_sign (c ∷ [])) 128 a refl (below_of_one a h)) ∙ h

before_equals_is_sign : (a : ℕ) → takes_equals a ≡ true → is_sign (a ∷ 61 ∷ []) ≡ true
unfolding signs
before_equals_is_sign a h = sym (agree_below_at takes_equals (λ c. is_sign (c ∷ 61 ∷ [])) 128 a refl (below_of_equals a h)) ∙ h

before_greater_is_sign : (a : ℕ) → (nat_eq a 45 || nat_eq a 62) ≡ true → is_sign (a ∷ 62 ∷ []) ≡ true
unfolding signs
before_greater_is_sign a h = elim (or_cases (nat_eq a 45) (nat_eq a 62) h) [ inl e ↦ rw (eqb-true a 45 e) refl | inr e ↦ rw (eqb-true a 62 e) refl ]

pub two_are_sign : (a b : ℕ) → is_two_signs a b ≡ true → is_sign (a ∷ b ∷ []) ≡ true
unfolding signs
two_are_sign a b h =
    let P : Bool → Type 0 = λ so. so ≡ true → is_sign (a ∷ b ∷ []) ≡ true in
    cond_both (nat_eq b 61) (takes_equals a) _ P (λ e so. rw (eqb-true b 61 e) (before_equals_is_sign a so))
    (λ _. cond_both (nat_eq b 62) (nat_eq a 45 || nat_eq a 62) _ P (λ e so. rw (eqb-true b 62 e) (before_greater_is_sign a so))
    (λ _. cond_both (nat_eq b 60 || nat_eq b 42 || nat_eq b 38 || nat_eq b 124) (nat_eq a b) false P (λ e so. rw (eqb-true a b so) (twice b e)) (λ _ so. absurd (true≢false (sym so))))) h
  where
    twice : (c : ℕ) → (nat_eq c 60 || nat_eq c 42 || nat_eq c 38 || nat_eq c 124) ≡ true → is_sign (c ∷ c ∷ []) ≡ true
    twice c e = elim (or_cases (nat_eq c 60 || nat_eq c 42 || nat_eq c 38) (nat_eq c 124) e) [
      | inr is ↦ rw (eqb-true c 124 is) refl
      | inl e ↦ elim (or_cases (nat_eq c 60 || nat_eq c 42) (nat_eq c 38) e) [
        | inr is ↦ rw (eqb-true c 38 is) refl
        | inl e ↦ elim (or_cases (nat_eq c 60) (nat_eq c 42) e) [ inl is ↦ rw (eqb-true c 60 is) refl | inr is ↦ rw (eqb-true c 42 is) refl ]
      ]
    ]

pub three_are_sign : (a b c : ℕ) → is_three_signs a b c ≡ true → is_sign (a ∷ b ∷ c ∷ []) ≡ true
unfolding signs
three_are_sign a b c h =
    let parts = and_parts (nat_eq c 61 && nat_eq a b) (nat_eq a 60 || nat_eq a 62) h in
    let before = and_parts (nat_eq c 61) (nat_eq a b) parts.0 in
    rw (eqb-true c 61 before.0, ← eqb-true a b before.1) (elim (or_cases (nat_eq a 60) (nat_eq a 62) parts.1) [ inl e ↦ rw (eqb-true a 60 e) refl | inr e ↦ rw (eqb-true a 62 e) refl ])

-- ---- signs are read

-- what holds of all texts of a list holds of one that is among them
among : (test : List ℕ → Bool) (t : List ℕ) (ts : List (List ℕ)) → list_all test ts ≡ true → list_any (bytes_eq t) ts ≡ true → test t ≡ true
among test t [] all any = absurd (let bad : false ≡ true = any in cc)
among test t (s ∷ ss) all any =
    let parts = and_parts (test s) (list_all test ss) all in
    elim (or_cases (bytes_eq t s) (list_any (bytes_eq t) ss) any) [
      | inl same ↦ subst (λ u. test u ≡ true) (sym ((bytes_eq-Decides t s).0 same)) parts.0
      | inr later ↦ among test t ss parts.1 later
    ]

-- whether a shape was told and is a sign's
abbrev is_told_sign : Option Shape → Bool
is_told_sign (Some shape.Sign) = true
is_told_sign _ = false

told_sign : (told : Option Shape) → is_told_sign told ≡ true → told ≡ Some shape.Sign
told_sign (Some shape.Sign) h = refl
told_sign _ h = absurd (let bad : false ≡ true = h in cc)

sign_inside : (next : Option ℕ) (t : List ℕ) → is_sign t ≡ true → is_told_sign (shape_before (run (Start false) t) next) ≡ true
unfolding signs
sign_inside next t h = among (λ s. is_told_sign (shape_before (run (Start false) s) next)) t signs refl h

sign_first : (next : Option ℕ) (t : List ℕ) → is_sign t ≡ true → (bytes_eq t (codes "@") || is_told_sign (shape_before (run (Start true) t) next)) ≡ true
unfolding signs
sign_first next t h = among (λ s. bytes_eq s (codes "@") || is_told_sign (shape_before (run (Start true) s) next)) t signs refl h

pub complete_sign : (first : Bool) (t : List ℕ) (next : Option ℕ) → IsSign first t → shape_before (run (Start first) t) next ≡ Some shape.Sign
complete_sign false t next h = told_sign (shape_before (run (Start false) t) next) (sign_inside next t h.0)
complete_sign true t next h = told_sign (shape_before (run (Start true) t) next)
    (elim (or_cases (bytes_eq t (codes "@")) (is_told_sign (shape_before (run (Start true) t) next)) (sign_first next t h.0)) [
      | inl same ↦ absurd (h.1 (refl, (bytes_eq-Decides t (codes "@")).0 same))
      | inr told ↦ told
    ])
