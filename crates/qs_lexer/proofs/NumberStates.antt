-- What the characters that were read of a number are, by the reader's state.
use Rattle.std.specs.Prelude.{◌≡◌, ◌⊎◌, ℕ, List, [], ◌∷◌, ◌++◌, false, codes}
use Rattle.std.specs.Char.{is_ascii_digit}
use Rattle.qs_lexer.specs.declared.state.Base.{Base}
use Rattle.qs_lexer.specs.declared.state.Base.TheVariants.{Hexadecimal, Binary, Octal}
use Rattle.qs_lexer.specs.declared.state.State.{State}
use Rattle.qs_lexer.specs.declared.state.State.TheVariants.{Nothing, Zero, Digits, Based, Point, Pointed, Part, Letter, Signed, Exponent, Half, Ended}
use Rattle.qs_lexer.specs.Forms.{AreDigits, IsPointed, IsDecimal, IsUnit, IsTime}
use Rattle.qs_lexer.specs.steps.Scan.{is_digit_of, last_letter}
use Rattle.qs_lexer.proofs.DigitLemmas.{AreSoFar}

-- the letter of a base in either form
abbrev pub IsLetterOf : Base → ℕ → Type 0
IsLetterOf Hexadecimal letter = (letter ≡ 120) ⊎ (letter ≡ 88)
IsLetterOf Binary letter = (letter ≡ 98) ⊎ (letter ≡ 66)
IsLetterOf Octal letter = (letter ≡ 111) ⊎ (letter ≡ 111)

-- digits, or digits and a point
abbrev pub IsMantissa : List ℕ → Type 0
IsMantissa t = AreDigits is_ascii_digit t ⊎ IsPointed t

-- what a unit may follow
abbrev pub IsNumber : List ℕ → Type 0
IsNumber t = AreDigits is_ascii_digit t ⊎ IsDecimal t

abbrev pub IsExponentLetter : ℕ → Type 0
IsExponentLetter letter = (letter ≡ 101) ⊎ (letter ≡ 69)

-- a number, and the letter of an exponent and a sign or none
abbrev pub BeginsExponent : List ℕ → List ℕ → Type 0
BeginsExponent sign t = (number : List ℕ) × (letter : ℕ) × (t ≡ number ++ letter ∷ sign) × IsMantissa number × IsExponentLetter letter

abbrev pub ReachedNumber : State → List ℕ → Type 0
ReachedNumber Nothing t = Unit {0}
ReachedNumber Zero t = t ≡ codes "0"
ReachedNumber (Digits ended) t = AreSoFar is_ascii_digit ended t
ReachedNumber (Based base ended) t =
    (letter : ℕ) × (ds : List ℕ) × (t ≡ 48 ∷ letter ∷ ds) × IsLetterOf base letter × (((ended ≡ false) × (ds ≡ [])) ⊎ AreSoFar (is_digit_of base) ended ds)
ReachedNumber Point t = t ≡ codes "."
ReachedNumber Pointed t = (whole : List ℕ) × (t ≡ whole ++ codes ".") × AreDigits is_ascii_digit whole
ReachedNumber (Part ended) t =
    (whole : List ℕ) × (part : List ℕ) × (t ≡ whole ++ codes "." ++ part) × (AreDigits is_ascii_digit whole ⊎ (whole ≡ [])) × AreSoFar is_ascii_digit ended part
ReachedNumber Letter t = BeginsExponent [] t
ReachedNumber Signed t = BeginsExponent (codes "+") t ⊎ BeginsExponent (codes "-") t
ReachedNumber (Exponent ended) t =
    (number : List ℕ) × (letter : ℕ) × (sign : List ℕ) × (ds : List ℕ) × (t ≡ number ++ letter ∷ sign ++ ds) × IsMantissa number × IsExponentLetter letter
    × ((sign ≡ []) ⊎ ((sign ≡ codes "+") ⊎ (sign ≡ codes "-"))) × AreSoFar is_ascii_digit ended ds
ReachedNumber (Half unit) t = (number : List ℕ) × (letter : ℕ) × (t ≡ number ++ letter ∷ []) × IsNumber number × IsUnit unit (letter ∷ last_letter unit ∷ [])
ReachedNumber (Ended unit) t = IsTime unit t
ReachedNumber _ t = ⊥
