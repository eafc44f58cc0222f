use Rattle.std.proofs.Common.{drop}
use Rattle.controller_core.proofs.SweepLemmas.{Goes}
use Rattle.controller_core.proofs.picks.Core.pick_all.Given as goal

abbrev pub invariant-loop-k : goal.invariant-loop-k
invariant-loop-k l = Goes l.fn.self l.order l.self (drop l.k-index l.order) l.counts.stepped l.counts.waited
