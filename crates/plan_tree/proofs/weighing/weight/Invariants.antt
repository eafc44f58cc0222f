use Rattle.std.proofs.Common.{◌≡◌, min, sum_by, take}
use Rattle.plan_tree.specs.Sound.{greatest_weight, weight_in}
use Rattle.plan_tree.proofs.weighing.weight.Given as goal

-- The sum is the weight of the statements so far.
abbrev pub invariant-loop-stmt : goal.invariant-loop-stmt
invariant-loop-stmt l =
    l.sum ≡ min (sum_by (weight_in l.plan.budget) (take l.stmt-index l.stmt-items)) greatest_weight
