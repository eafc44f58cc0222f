use Rattle.std.proofs.Common.{arith}
use Rattle.std.proofs.lemmas.Bool.Decides.{nat_tests}
use Rattle.std.proofs.lemmas.Grind.{common_steps}
use Rattle.std.proofs.lemmas.List.Sums.{sum-map, sum_by_more}
use Rattle.plan_tree.specs.Sound.{weight_in}
use Rattle.plan_tree.proofs.weighing.weight.Goals as goal

pub loop-stmt-preserved : goal.loop-stmt-preserved
loop-stmt-preserved c =
    let budget = c.args.plan.now.budget in
    let more = sum_by_more (weight_in budget) _ c.loop-stmt.stmt-index c.stmt-item.result c.loop-stmt-test.true in
    grind (arith, nat_tests, more, c.stmt-item.is, c.weight_in.ensures budget)

pub returns : goal.returns
returns c = rw (sum-map (weight_in c.args.plan.now.budget) c.args.plan.now.body) (grind (arith, common_steps))
