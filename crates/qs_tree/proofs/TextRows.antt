-- Small cases of the definitions of names and texts.
use Rattle.std.proofs.Common.{◌≡◌, [], ◌∷◌, true, false, Some, None, refl}
use Rattle.std.specs.Prelude.{codes}
use Rattle.qs_tree.specs.declared.constant.ConstVal.TheVariants.{Truth}
use Rattle.qs_tree.specs.Constants.{constant_in}
use Rattle.qs_tree.specs.Texts.{bits_of, digits_of}

first_counts : constant_in (record { name = codes "k"; value = Truth true } ∷ record { name = codes "k"; value = Truth false } ∷ []) (codes "k") ≡ Some (Truth true)
first_counts = refl

digits : bits_of (codes "\"0_1\"") ≡ Some (48 ∷ 49 ∷ [])
digits = refl

two_between : digits_of (codes "0__1") ≡ None
two_between = refl

no_digit : bits_of (codes "\"\"") ≡ None
no_digit = refl
