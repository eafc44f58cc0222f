-- What the second character of an exponent says.
use Rattle.std.proofs.Common.{◌≡◌, ℕ, List, [], ◌∷◌, Some, drop, refl, arith}
use Rattle.std.specs.Prelude.{nat_eq}
use Rattle.std.specs.List.{slice_get}
use Rattle.std.specs.Option.{option_eq}
use Rattle.std.proofs.lemmas.Bool.Decides.{nat_tests}
use Rattle.qs_lexer.specs.Forms.{begins}

-- a minus as the second character
pub second_minus : (t : List ℕ) → option_eq nat_eq (slice_get t 1) (Some 45) ≡ begins (nat_eq 45) (drop 1 t)
second_minus [] = refl
second_minus (a ∷ []) = refl
second_minus (a ∷ b ∷ t) = grind (arith, nat_tests)
