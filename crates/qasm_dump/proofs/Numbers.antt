-- Whole numbers that are passed on in 128 bits.
use Rattle.std.proofs.Common.{◌≡◌, ◌<◌, ◌^◌, ℤ, unsigned_abs, SFits, to_z, of_z, ap, ◌∙◌, subst, sym, arith}
use mir.Syntax.{w128}
use Rattle.std.specs.Fmt.{signed_decimal}
use Rattle.std.proofs.lemmas.Int.{ints, to_z-of_z}

fits : (z : ℤ) → unsigned_abs z < 10 ^ 18 → SFits w128 z
fits z small = omega (arith, ints)

-- a small number's digits are the same after it was passed on
pub signed-as : (z n : ℤ) → z ≡ n → unsigned_abs n < 10 ^ 18 → signed_decimal (to_z w128 (of_z w128 z)) ≡ signed_decimal n
signed-as z n same small =
    let small_z : unsigned_abs z < 10 ^ 18 = subst (λ k. unsigned_abs k < 10 ^ 18) (sym same) small in
    ap signed_decimal (to_z-of_z w128 z (fits z small_z) ∙ same)
