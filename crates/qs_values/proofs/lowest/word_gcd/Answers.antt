use Rattle.std.proofs.lemmas.Nat.Gcd.{IsGcd-from_mod, IsGcd-from_zero}
use Rattle.qs_values.proofs.lowest.word_gcd.Goals as goal

pub steps-preserved : goal.steps-preserved
steps-preserved c = λ g h. c.steps.invariant g (IsGcd-from_mod c.steps.whole c.steps.part g h)

pub returns : goal.returns
returns c = c.steps.invariant c.steps.whole (IsGcd-from_zero c.steps.whole c.steps.part c.steps-test.false)
