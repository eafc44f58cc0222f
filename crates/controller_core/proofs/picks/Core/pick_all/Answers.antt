use Rattle.std.proofs.Common.{arith}
use Rattle.controller_core.proofs.SweepLemmas.{goes-few}
use Rattle.controller_core.proofs.picks.Core.pick_all.Goals as goal

pub with-counts-requires-clause-stepped : goal.with-counts-requires-clause-stepped
with-counts-requires-clause-stepped c = let few = goes-few _ _ _ _ _ _ c.loop-k.invariant in omega (arith, few.0)

pub with-counts-requires-clause-waited : goal.with-counts-requires-clause-waited
with-counts-requires-clause-waited c = let few = goes-few _ _ _ _ _ _ c.loop-k.invariant in omega (arith, few.1)
