use Rattle.std.proofs.Common.{Ok}
use Rattle.qs_const.specs.Operations.{IsPower}
use Rattle.qs_const.proofs.powers.nth_power.Given as goal

-- the product so far
abbrev pub invariant-loop-i : goal.invariant-loop-i
invariant-loop-i l = IsPower l.fn.x l.i (Ok l.product)
