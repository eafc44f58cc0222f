use Rattle.std.proofs.Common.{◌<◌, arith, rules}
use Rattle.std.proofs.iter.Rest.{range_with_len_first}
use Rattle.std.proofs.lemmas.List.FromFn.{length-range_with_len}
use Rattle.controller_core.proofs.StepLemmas.{seen-reached}
use Rattle.controller_core.proofs.SweepLemmas.{goes-few, goes-on}
use Rattle.controller_core.proofs.picks.Core.sweep.Goals as goal

pub with-counts-requires-clause-stepped : goal.with-counts-requires-clause-stepped
with-counts-requires-clause-stepped c = let few = goes-few _ _ _ _ _ _ c.loop-k.invariant in omega (arith, few.0, length-range_with_len 0 c.args.self.now.plan.controllers, (seen-reached _ c.args.self.now c.self.view_is c.self.invariant.0).bounds.few)

pub with-counts-requires-clause-waited : goal.with-counts-requires-clause-waited
with-counts-requires-clause-waited c = let few = goes-few _ _ _ _ _ _ c.loop-k.invariant in omega (arith, few.1, length-range_with_len 0 c.args.self.now.plan.controllers, (seen-reached _ c.args.self.now c.self.view_is c.self.invariant.0).bounds.few)

pub loop-k-preserved : goal.loop-k-preserved
loop-k-preserved c =
    let within : c.loop-k.k < c.args.self.now.plan.controllers = search rules in
    rw (c.with-counts.ensures.stepped, c.with-counts.ensures.waited)
    (goes-on c.args.self.now c.loop-k.self c.step.new.self _ _ _ c.loop-k.k _ _ c.step.result c.loop-k.invariant (range_with_len_first c.loop-k.k c.args.self.now.plan.controllers within) c.step.ensures.pick c.step.ensures.answer)
