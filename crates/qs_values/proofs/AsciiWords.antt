-- Of ASCII, letters alone are letters by their category.
use Rattle.std.proofs.Common.{◌≡◌, ℕ, ◌<◌, Bool, true, false, ◌||◌, nat_eq, refl, ap, ◌∙◌}
use Rattle.std.specs.Bool.{beq}
use Rattle.std.specs.Char.{is_ascii_alphabetic}
use Rattle.ucd_table.proofs.Computing.{tables}
use Rattle.ucd_table.proofs.Facts.{Stepped-below, same_from_beq}
use Rattle.ucd_category.proofs.GeneralCategoryLemmas.{general_category_stepped}
use Rattle.unicode.specs.GeneralCategory.{general_category}
use Rattle.qs_values.specs.Names.{begins_word, is_letter}

or-again : (a b : Bool) → (a || b || b) ≡ (a || b)
or-again true b = refl
or-again false true = refl
or-again false false = refl

pub letter-ascii : (c : ℕ) → c < 128 → is_letter (general_category c) ≡ is_ascii_alphabetic c
unfolding tables general_category_stepped
letter-ascii c h =
    same_from_beq _ _ (Stepped-below general_category general_category_stepped (λ x v. beq (is_letter v) (is_ascii_alphabetic x)) 128 refl c h)

-- Of ASCII, `_` and letters begin a word.
pub begins_word-ascii : (c : ℕ) → c < 128 → begins_word c ≡ (nat_eq c 95 || is_ascii_alphabetic c)
begins_word-ascii c h = ap (λ letter. nat_eq c 95 || is_ascii_alphabetic c || letter) (letter-ascii c h) ∙ or-again (nat_eq c 95) (is_ascii_alphabetic c)
