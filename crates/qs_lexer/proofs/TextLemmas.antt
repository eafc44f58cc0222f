-- The characters of a text.
use Rattle.std.proofs.Common.{◌≡◌, ℕ, List, [], ◌∷◌, ◌++◌, take, length, subst, arith, ◌∙◌, ap, sym, refl, true, false, ◌==◌}
use lib.Utf8.{encodes}
use Rattle.std.proofs.Math.Seq.{take-append_seam}
use Rattle.std.proofs.lemmas.Bool.{eqb-true}
use Rattle.std.specs.Str.{IsUtf8, chars}
use Rattle.std.proofs.lemmas.Str.{chars-nil, encodes-chars, IsUtf8-take, IsCharBoundary-at_seam}

pub chars_at_end : (bs : List ℕ) → length bs ≡ 0 → chars bs ≡ []
chars_at_end [] none = chars-nil
chars_at_end (b ∷ bs) none = absurd (omega arith)

-- what stands before the end of a text is text, if the end is
pub front_utf8 : (text front behind : List ℕ) → IsUtf8 text → text ≡ front ++ behind → IsUtf8 behind → IsUtf8 front
front_utf8 text front behind utf8 whole ends =
    subst IsUtf8 (ap (take (length front)) whole ∙ take-append_seam front behind) (IsUtf8-take text (length front) utf8 (IsCharBoundary-at_seam text front behind whole ends))

-- A text without a character is empty.
pub empty_from_chars : (bs : List ℕ) → IsUtf8 bs → chars bs ≡ [] → bs ≡ []
empty_from_chars bs utf8 none = sym (encodes-chars bs utf8) ∙ ap encodes none

pub empty_if : (bs : List ℕ) → true ≡ (length bs == 0) → bs ≡ []
empty_if [] is = refl
empty_if (b ∷ bs) is = absurd (omega (arith, eqb-true (length (b ∷ bs)) 0 (sym is)))

pub some_if : (bs : List ℕ) → false ≡ (length bs == 0) → ¬ (bs ≡ [])
some_if [] is = absurd (cc)
some_if (b ∷ bs) is = λ e. absurd (cc)
