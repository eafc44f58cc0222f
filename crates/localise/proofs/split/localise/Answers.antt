use Rattle.plan_tree.specs.Parts.{part_of}
use Rattle.localise.proofs.PartLemmas.{made_more}
use Rattle.localise.proofs.split.localise.Goals as goal

pub loop-controller-preserved : goal.loop-controller-preserved
loop-controller-preserved c =
    rw c.in_ok-push.ensures.ok (made_more (part_of c.args.plan.now) _ _ _ _ _ c.loop-controller-test.true c.in_ok-part_of.ensures c.loop-controller.invariant)
