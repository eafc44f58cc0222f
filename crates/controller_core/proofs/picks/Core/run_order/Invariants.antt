use Rattle.std.proofs.Common.{◌-◌}
use Rattle.std.specs.Prelude.{sum}
use Rattle.controller_core.specs.Core.{acts_made}
use Rattle.controller_core.specs.Reached.{acts_planned}
use Rattle.controller_core.proofs.SweepLemmas.{HasRun}
use Rattle.controller_core.proofs.picks.Core.run_order.Given as goal

abbrev pub invariant-loop-swept : goal.invariant-loop-swept
invariant-loop-swept l = HasRun l.order l.fn.self l.self l.counts.stepped l.counts.waited

-- the planned acts that are left
abbrev pub decreases-loop-swept : goal.decreases-loop-swept
decreases-loop-swept l = sum (acts_planned l.fn.self.plan l.fn.self.tape) - acts_made l.self
