-- Digits with single `_` between them.
use Rattle.std.proofs.Common.{◌≡◌, ◌⊎◌, inl, inr, ℕ, List, [], ◌∷◌, ◌++◌, Bool, true, false, ◌&&◌, cond, leb, nat_eq, ◌+◌, ◌-◌, ◌<◌, ◌≤◌, zero, suc, codes, refl, ap, subst, ◌∙◌, append_assoc, arith}
use Rattle.std.specs.Char.{is_ascii_digit}
use Rattle.std.proofs.lemmas.Bool.{and_parts, cond_both, leb-true}
use Rattle.qs_lexer.specs.Forms.{AreDigits, goes_on}

-- digits, and a `_` behind them where the last character is no digit
abbrev pub AreSoFar : (ℕ → Bool) → Bool → List ℕ → Type 0
AreSoFar digit true t = AreDigits digit t
AreSoFar digit false t = (ds : List ℕ) × (t ≡ ds ++ codes "_") × AreDigits digit ds

first-cases : (is_digit is_low is_behind more after : Bool) → cond is_digit more (is_low && is_behind && after) ≡ true
    → ((is_digit ≡ true) × (more ≡ true)) ⊎ ((is_digit ≡ false) × (is_low ≡ true) × (is_behind ≡ true) × (after ≡ true))
first-cases true is_low is_behind more after h = inl (refl, h)
first-cases false true true more after h = inr (refl, refl, refl, h)
first-cases false true false more after h = absurd cc
first-cases false false is_behind more after h = absurd cc

-- a digit, or a `_` behind one
pub goes_on-cases : (digit : ℕ → Bool) (behind : Bool) (c : ℕ) (cs : List ℕ) → goes_on digit behind (c ∷ cs) ≡ true
    → ((digit c ≡ true) × (goes_on digit true cs ≡ true)) ⊎ ((digit c ≡ false) × (nat_eq c 95 ≡ true) × (behind ≡ true) × (goes_on digit false cs ≡ true))
goes_on-cases digit behind c cs h = first-cases (digit c) (nat_eq c 95) behind (goes_on digit true cs) (goes_on digit false cs) h

-- what follows digits goes on as behind one
goes_on-append : (digit : ℕ → Bool) (behind : Bool) (ds more : List ℕ) → goes_on digit behind ds ≡ true → goes_on digit behind (ds ++ more) ≡ goes_on digit true more
goes_on-append digit behind [] more h = ap (λ b. goes_on digit b more) h
goes_on-append digit behind (c ∷ cs) more h =
    elim (goes_on-cases digit behind c cs h) [
      | inl p ↦ let is : digit c ≡ true = p.0 in rw is (goes_on-append digit true cs more p.1)
      | inr p ↦
          let is : digit c ≡ false = p.0 in
          let low : nat_eq c 95 ≡ true = p.1 in
          rw (is, low, p.2) (goes_on-append digit false cs more p.3)
    ]

-- one digit
pub one-digit : (digit : ℕ → Bool) (behind : Bool) (c : ℕ) → digit c ≡ true → goes_on digit behind (c ∷ []) ≡ true
one-digit digit behind c is = rw is refl

-- a `_` and a digit, behind a digit
low-digit : (digit : ℕ → Bool) (c : ℕ) → digit c ≡ true → goes_on digit true (95 ∷ c ∷ []) ≡ true
low-digit digit c is =
    cond_both (digit 95) (goes_on digit true (c ∷ [])) (goes_on digit false (c ∷ [])) (λ b. b ≡ true) (λ low. one-digit digit true c is) (λ low. one-digit digit false c is)

-- one digit more
pub digit-follows : (digit : ℕ → Bool) (ended : Bool) (t : List ℕ) (c : ℕ) → digit c ≡ true → AreSoFar digit ended t → AreDigits digit (t ++ c ∷ [])
digit-follows digit true t c is h = goes_on-append digit false t (c ∷ []) h ∙ one-digit digit true c is
digit-follows digit false t c is h =
    ap (λ u. goes_on digit false (u ++ c ∷ [])) h.1 ∙ ap (goes_on digit false) (append_assoc h.0 (codes "_") (c ∷ []))
    ∙ goes_on-append digit false h.0 (95 ∷ c ∷ []) h.2 ∙ low-digit digit c is

between : (low high c : ℕ) → (leb low c && leb c high) ≡ true → (low ≤ c) × (c ≤ high)
between low high c h = let p = and_parts (leb low c) (leb c high) h in (leb-true low c p.0, leb-true c high p.1)

-- a number below 10 is one of these
below-ten : (P : ℕ → Type 0) → P 48 → P 49 → P 50 → P 51 → P 52 → P 53 → P 54 → P 55 → P 56 → P 57 → (n : ℕ) → n < 10 → P (48 + n)
below-ten P p0 p1 p2 p3 p4 p5 p6 p7 p8 p9 zero h = p0
below-ten P p0 p1 p2 p3 p4 p5 p6 p7 p8 p9 (suc zero) h = p1
below-ten P p0 p1 p2 p3 p4 p5 p6 p7 p8 p9 (suc (suc zero)) h = p2
below-ten P p0 p1 p2 p3 p4 p5 p6 p7 p8 p9 (suc (suc (suc zero))) h = p3
below-ten P p0 p1 p2 p3 p4 p5 p6 p7 p8 p9 (suc (suc (suc (suc zero)))) h = p4
below-ten P p0 p1 p2 p3 p4 p5 p6 p7 p8 p9 (suc (suc (suc (suc (suc zero))))) h = p5
below-ten P p0 p1 p2 p3 p4 p5 p6 p7 p8 p9 (suc (suc (suc (suc (suc (suc zero)))))) h = p6
below-ten P p0 p1 p2 p3 p4 p5 p6 p7 p8 p9 (suc (suc (suc (suc (suc (suc (suc zero))))))) h = p7
below-ten P p0 p1 p2 p3 p4 p5 p6 p7 p8 p9 (suc (suc (suc (suc (suc (suc (suc (suc zero)))))))) h = p8
below-ten P p0 p1 p2 p3 p4 p5 p6 p7 p8 p9 (suc (suc (suc (suc (suc (suc (suc (suc (suc zero))))))))) h = p9
below-ten P p0 p1 p2 p3 p4 p5 p6 p7 p8 p9 (suc (suc (suc (suc (suc (suc (suc (suc (suc (suc n)))))))))) h = absurd (omega arith)

-- a decimal digit is one of these
pub decimal-cases : (P : ℕ → Type 0) → P 48 → P 49 → P 50 → P 51 → P 52 → P 53 → P 54 → P 55 → P 56 → P 57 → (c : ℕ) → is_ascii_digit c ≡ true → P c
decimal-cases P p0 p1 p2 p3 p4 p5 p6 p7 p8 p9 c h =
    let within = between 48 57 c h in
    let low : 48 ≤ c = within.0 in
    let high : c ≤ 57 = within.1 in
    let e : 48 + (c - 48) ≡ c = omega arith in
    subst P e (below-ten P p0 p1 p2 p3 p4 p5 p6 p7 p8 p9 (c - 48) (omega arith))
