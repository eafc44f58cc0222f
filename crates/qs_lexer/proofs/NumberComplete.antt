-- What is a number is one to the reader.
use Rattle.std.proofs.Common.{◌≡◌, ◌⊎◌, inl, inr, ℕ, List, [], ◌∷◌, ◌++◌, Bool, true, false, codes, eqb-true, refl, ap, sym, subst, ◌∙◌}
use Rattle.std.specs.Char.{is_ascii_digit}
use Rattle.std.specs.Prelude.{Option, Some}
use Rattle.qs_lexer.specs.declared.shape.Shape.TheVariants.{Whole, Decimal, Time}
use Rattle.qs_lexer.specs.declared.state.Base.{Base}
use Rattle.qs_lexer.specs.declared.state.Base.TheVariants.{Hexadecimal, Binary, Octal}
use Rattle.qs_lexer.specs.declared.state.State.{State}
use Rattle.qs_lexer.specs.declared.state.State.TheVariants.{Start, Zero, Digits, Based, Point, Pointed, Part, Letter, Signed, Exponent, Ended}
use Rattle.qs_lexer.specs.declared.token.Unit.{Unit as TimeUnit}
use Rattle.qs_lexer.specs.declared.token.Unit.TheVariants.{Dt, Ns, Us, Ms, S}
use Rattle.qs_lexer.specs.Forms.{AreDigits, IsDecimal, IsExponent, IsPointed, IsTime, IsUnit, IsWhole, MayBeDigits, goes_on}
use Rattle.qs_lexer.specs.steps.Scan.{is_digit_of, run, shape_before, step}
use Rattle.qs_lexer.proofs.DigitLemmas.{decimal-cases, goes_on-cases}
use Rattle.qs_lexer.proofs.Runs.{run-append}
use Rattle.qs_lexer.proofs.NumberStates.{IsExponentLetter, IsLetterOf, IsMantissa, IsNumber}

-- ---- digits

-- Two states, at a digit and at a `_`, keep to digits.
record Keeps (digit : ℕ → Bool) (at : Bool → State) : Type 0 where
  on : (behind : Bool) (c : ℕ) → digit c ≡ true → step (at behind) c ≡ at true
  low : step (at true) 95 ≡ at false

digits-run : {digit : ℕ → Bool} {at : Bool → State} → Keeps digit at → (behind : Bool) (ds : List ℕ) → goes_on digit behind ds ≡ true → run (at behind) ds ≡ at true
digits-run {digit} {at} keeps behind [] h = ap at h
digits-run {digit} {at} keeps behind (c ∷ cs) h =
    elim (goes_on-cases digit behind c cs h) [
      | inl p ↦ ap (λ s. run s cs) (keeps.on behind c p.0) ∙ digits-run keeps true cs p.1
      | inr p ↦ ap (λ s. run s cs) (ap (λ b. step (at b) c) p.2 ∙ ap (step (at true)) (eqb-true c 95 p.1) ∙ keeps.low) ∙ digits-run keeps false cs p.3
    ]

-- digits behind a state that each of them leaves for theirs
first-digits-run : {digit : ℕ → Bool} {at : Bool → State} → Keeps digit at → (s : State) → ((c : ℕ) → digit c ≡ true → step s c ≡ at true) → (ds : List ℕ) → AreDigits digit ds → run s ds ≡ at true
first-digits-run keeps s begins [] h = absurd cc
first-digits-run {digit} {at} keeps s begins (c ∷ cs) h =
    elim (goes_on-cases digit false c cs h) [
      | inl p ↦ ap (λ s. run s cs) (begins c p.0) ∙ digits-run keeps true cs p.1
      | inr p ↦ absurd (let bad : false ≡ true = p.2 in cc)
    ]

keeps-digits : Keeps is_ascii_digit Digits
keeps-digits = record { on = λ behind c is. rw is refl; low = refl }

keeps-part : Keeps is_ascii_digit Part
keeps-part = record { on = λ behind c is. rw is refl; low = refl }

keeps-exponent : Keeps is_ascii_digit Exponent
keeps-exponent = record { on = λ behind c is. rw is refl; low = refl }

based-low : (base : Base) → step (Based base true) 95 ≡ Based base false
based-low Hexadecimal = refl
based-low Binary = refl
based-low Octal = refl

keeps-based : (base : Base) → Keeps (is_digit_of base) (Based base)
keeps-based base = record { on = λ behind c is. rw is refl; low = based-low base }

-- ---- whole numbers

abbrev EndsWhole : State → Type 0
EndsWhole s = (s ≡ Zero) ⊎ (s ≡ Digits true)

-- more digits behind `0`
zero-run : (ds : List ℕ) → goes_on is_ascii_digit true ds ≡ true → EndsWhole (run Zero ds)
zero-run [] h = inl refl
zero-run (c ∷ cs) h =
    inr (elim (goes_on-cases is_ascii_digit true c cs h) [
      | inl p ↦ ap (λ s. run s cs) (decimal-cases (λ c. step Zero c ≡ Digits true) refl refl refl refl refl refl refl refl refl refl c p.0) ∙ digits-run keeps-digits true cs p.1
      | inr p ↦ ap (λ c. run (step Zero c) cs) (eqb-true c 95 p.1) ∙ digits-run keeps-digits false cs p.3
    ])

start-digit : (first : Bool) (c : ℕ) → is_ascii_digit c ≡ true → EndsWhole (step (Start first) c)
start-digit first c is =
    decimal-cases (λ c. EndsWhole (step (Start first) c)) (inl refl) (inr refl) (inr refl) (inr refl) (inr refl) (inr refl) (inr refl) (inr refl) (inr refl) (inr refl) c is

-- digits behind a first one
more-run : (s : State) (ds : List ℕ) → EndsWhole s → goes_on is_ascii_digit true ds ≡ true → EndsWhole (run s ds)
more-run s ds (inl e) h = subst (λ s. EndsWhole (run s ds)) (sym e) (zero-run ds h)
more-run s ds (inr e) h = inr (ap (λ s. run s ds) e ∙ digits-run keeps-digits true ds h)

whole-run : (first : Bool) (t : List ℕ) → AreDigits is_ascii_digit t → EndsWhole (run (Start first) t)
whole-run first [] h = absurd cc
whole-run first (c ∷ cs) h =
    elim (goes_on-cases is_ascii_digit false c cs h) [
      | inl p ↦ more-run (step (Start first) c) cs (start-digit first c p.0) p.1
      | inr p ↦ absurd (let bad : false ≡ true = p.2 in cc)
    ]

-- the letter of a base
base-letter : (base : Base) (letter : ℕ) → IsLetterOf base letter → step Zero letter ≡ Based base false
base-letter Hexadecimal letter (inl e) = ap (step Zero) e
base-letter Hexadecimal letter (inr e) = ap (step Zero) e
base-letter Binary letter (inl e) = ap (step Zero) e
base-letter Binary letter (inr e) = ap (step Zero) e
base-letter Octal letter (inl e) = ap (step Zero) e
base-letter Octal letter (inr e) = ap (step Zero) e

based-run : (base : Base) (first : Bool) (t : List ℕ) (letter : ℕ) (ds : List ℕ) → t ≡ 48 ∷ letter ∷ ds → IsLetterOf base letter → AreDigits (is_digit_of base) ds
    → run (Start first) t ≡ Based base true
based-run base first t letter ds e l h = ap (run (Start first)) e ∙ ap (λ s. run s ds) (base-letter base letter l) ∙ digits-run (keeps-based base) false ds h

pub complete-whole : (t : List ℕ) → IsWhole t → (first : Bool) (next : Option ℕ) → shape_before (run (Start first) t) next ≡ Some Whole
complete-whole t (inl h) first next =
    elim (whole-run first t h) [ inl e ↦ ap (λ s. shape_before s next) e | inr e ↦ ap (λ s. shape_before s next) e ]
complete-whole t (inr (inl (letter, ds, e, l, h))) first next = ap (λ s. shape_before s next) (based-run Hexadecimal first t letter ds e l h)
complete-whole t (inr (inr (inl (letter, ds, e, l, h)))) first next = ap (λ s. shape_before s next) (based-run Binary first t letter ds e l h)
complete-whole t (inr (inr (inr (letter, ds, e, l, h)))) first next = ap (λ s. shape_before s next) (based-run Octal first t letter ds e l h)

-- ---- numbers with a point or an exponent

abbrev EndsPointed : State → Type 0
EndsPointed s = (s ≡ Pointed) ⊎ (s ≡ Part true)

abbrev EndsDecimal : State → Type 0
EndsDecimal s = EndsPointed s ⊎ (s ≡ Exponent true)

point-follows : (s : State) → EndsWhole s → step s 46 ≡ Pointed
point-follows s (inl e) = ap (λ s. step s 46) e
point-follows s (inr e) = ap (λ s. step s 46) e

-- the digits behind a point
pointed-part-run : (part : List ℕ) → MayBeDigits part → EndsPointed (run Pointed part)
pointed-part-run part (inl e) = inl (ap (run Pointed) e)
pointed-part-run part (inr h) = inr (first-digits-run keeps-part Pointed (λ c is. rw is refl) part h)

whole-point : (first : Bool) (whole part : List ℕ) → AreDigits is_ascii_digit whole → run (Start first) (whole ++ codes "." ++ part) ≡ run Pointed part
whole-point first whole part w =
    run-append (Start first) (whole ++ codes ".") part ∙ ap (λ s. run s part) (run-append (Start first) whole (codes ".") ∙ point-follows (run (Start first) whole) (whole-run first whole w))

pointed-run : (first : Bool) (t : List ℕ) → IsPointed t → EndsPointed (run (Start first) t)
pointed-run first t (whole, part, e, inl (w, p)) = subst EndsPointed (sym (ap (run (Start first)) e ∙ whole-point first whole part w)) (pointed-part-run part p)
pointed-run first t (whole, part, e, inr (none, p)) =
    inr (ap (run (Start first)) (e ∙ ap (λ w. w ++ codes "." ++ part) none) ∙ first-digits-run keeps-part Point (λ c is. rw is refl) part p)

-- a number without exponent
mantissa-run : (first : Bool) (t : List ℕ) → IsMantissa t → EndsWhole (run (Start first) t) ⊎ EndsPointed (run (Start first) t)
mantissa-run first t (inl h) = inl (whole-run first t h)
mantissa-run first t (inr h) = inr (pointed-run first t h)

letter-at : (s : State) → step s 101 ≡ Letter → step s 69 ≡ Letter → (letter : ℕ) → IsExponentLetter letter → step s letter ≡ Letter
letter-at s small large letter (inl e) = ap (step s) e ∙ small
letter-at s small large letter (inr e) = ap (step s) e ∙ large

letter-follows : (s : State) → EndsWhole s ⊎ EndsPointed s → (letter : ℕ) → IsExponentLetter letter → step s letter ≡ Letter
letter-follows s (inl (inl e)) letter l = ap (λ s. step s letter) e ∙ letter-at Zero refl refl letter l
letter-follows s (inl (inr e)) letter l = ap (λ s. step s letter) e ∙ letter-at (Digits true) refl refl letter l
letter-follows s (inr (inl e)) letter l = ap (λ s. step s letter) e ∙ letter-at Pointed refl refl letter l
letter-follows s (inr (inr e)) letter l = ap (λ s. step s letter) e ∙ letter-at (Part true) refl refl letter l

first-of-exponent : (c : ℕ) → is_ascii_digit c ≡ true → step Letter c ≡ Exponent true
first-of-exponent c is = decimal-cases (λ c. step Letter c ≡ Exponent true) refl refl refl refl refl refl refl refl refl refl c is

-- a sign or none, and digits
signed-run : (sign ds : List ℕ) → (sign ≡ []) ⊎ ((sign ≡ codes "+") ⊎ (sign ≡ codes "-")) → AreDigits is_ascii_digit ds → run Letter (sign ++ ds) ≡ Exponent true
signed-run sign ds (inl e) h = ap (λ u. run Letter (u ++ ds)) e ∙ first-digits-run keeps-exponent Letter first-of-exponent ds h
signed-run sign ds (inr (inl e)) h = ap (λ u. run Letter (u ++ ds)) e ∙ first-digits-run keeps-exponent Signed (λ c is. rw is refl) ds h
signed-run sign ds (inr (inr e)) h = ap (λ u. run Letter (u ++ ds)) e ∙ first-digits-run keeps-exponent Signed (λ c is. rw is refl) ds h

exponent-run : (s : State) → EndsWhole s ⊎ EndsPointed s → (t : List ℕ) → IsExponent t → run s t ≡ Exponent true
exponent-run s ends t (letter, sign, ds, e, l, signed, d) = ap (run s) e ∙ ap (λ s. run s (sign ++ ds)) (letter-follows s ends letter l) ∙ signed-run sign ds signed d

decimal-run : (first : Bool) (t : List ℕ) → IsDecimal t → EndsDecimal (run (Start first) t)
decimal-run first t (inl h) = inl (pointed-run first t h)
decimal-run first t (inr (number, exponent, e, n, h)) =
    inr (ap (run (Start first)) e ∙ run-append (Start first) number exponent ∙ exponent-run (run (Start first) number) (mantissa-run first number n) exponent h)

pub complete-decimal : (t : List ℕ) → IsDecimal t → (first : Bool) (next : Option ℕ) → shape_before (run (Start first) t) next ≡ Some Decimal
complete-decimal t h first next =
    elim (decimal-run first t h) [
      | inl (inl e) ↦ ap (λ s. shape_before s next) e
      | inl (inr e) ↦ ap (λ s. shape_before s next) e
      | inr e ↦ ap (λ s. shape_before s next) e
    ]

-- ---- numbers with a unit

number-run : (first : Bool) (t : List ℕ) → IsNumber t → EndsWhole (run (Start first) t) ⊎ EndsDecimal (run (Start first) t)
number-run first t (inl h) = inl (whole-run first t h)
number-run first t (inr h) = inr (decimal-run first t h)

unit-at : (s : State) → run s (codes "dt") ≡ Ended Dt → run s (codes "ns") ≡ Ended Ns → run s (codes "us") ≡ Ended Us → run s (181 ∷ codes "s") ≡ Ended Us → run s (956 ∷ codes "s") ≡ Ended Us
    → run s (codes "ms") ≡ Ended Ms → run s (codes "s") ≡ Ended S → (u : TimeUnit) (t : List ℕ) → IsUnit u t → run s t ≡ Ended u
unit-at s dt ns us micro mu ms sec Dt t e = ap (run s) e ∙ dt
unit-at s dt ns us micro mu ms sec Ns t e = ap (run s) e ∙ ns
unit-at s dt ns us micro mu ms sec Us t (inl e) = ap (run s) e ∙ us
unit-at s dt ns us micro mu ms sec Us t (inr (inl e)) = ap (run s) e ∙ micro
unit-at s dt ns us micro mu ms sec Us t (inr (inr e)) = ap (run s) e ∙ mu
unit-at s dt ns us micro mu ms sec Ms t e = ap (run s) e ∙ ms
unit-at s dt ns us micro mu ms sec S t e = ap (run s) e ∙ sec

unit-follows : (s : State) → EndsWhole s ⊎ EndsDecimal s → (u : TimeUnit) (t : List ℕ) → IsUnit u t → run s t ≡ Ended u
unit-follows s (inl (inl e)) u t h = ap (λ s. run s t) e ∙ unit-at Zero refl refl refl refl refl refl refl u t h
unit-follows s (inl (inr e)) u t h = ap (λ s. run s t) e ∙ unit-at (Digits true) refl refl refl refl refl refl refl u t h
unit-follows s (inr (inl (inl e))) u t h = ap (λ s. run s t) e ∙ unit-at Pointed refl refl refl refl refl refl refl u t h
unit-follows s (inr (inl (inr e))) u t h = ap (λ s. run s t) e ∙ unit-at (Part true) refl refl refl refl refl refl refl u t h
unit-follows s (inr (inr e)) u t h = ap (λ s. run s t) e ∙ unit-at (Exponent true) refl refl refl refl refl refl refl u t h

pub complete-time : (u : TimeUnit) (t : List ℕ) → IsTime u t → (first : Bool) (next : Option ℕ) → shape_before (run (Start first) t) next ≡ Some (Time u)
complete-time u t (number, unit, e, n, h) first next =
    ap (λ s. shape_before s next) (ap (run (Start first)) e ∙ run-append (Start first) number unit ∙ unit-follows (run (Start first) number) (number-run first number n) u unit h)
