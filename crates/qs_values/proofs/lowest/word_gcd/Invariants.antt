use Rattle.std.proofs.Common.{ℕ}
use Rattle.std.specs.Int.{IsGcd}
use Rattle.qs_values.proofs.lowest.word_gcd.Given as goal

-- the greatest common divisor of what is left is that of the two numbers
abbrev pub invariant-steps : goal.invariant-steps
invariant-steps l = (g : ℕ) → IsGcd l.whole l.part g → IsGcd l.fn.a l.fn.b g

abbrev pub decreases-steps : goal.decreases-steps
decreases-steps l = l.part
