use Rattle.std.proofs.Common.{◌-◌}
use Rattle.std.specs.List.{range_with_len}
use Rattle.controller_core.proofs.SweepLemmas.{Goes}
use Rattle.controller_core.proofs.picks.Core.sweep.Given as goal

abbrev pub invariant-loop-k : goal.invariant-loop-k
invariant-loop-k l = Goes l.fn.self (range_with_len 0 l.fn.self.plan.controllers) l.self (range_with_len l.k (l.fn.self.plan.controllers - l.k)) l.counts.stepped l.counts.waited
