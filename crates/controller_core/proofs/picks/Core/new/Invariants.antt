use Rattle.std.proofs.Common.{◌≡◌, map}
use Rattle.std.specs.List.{range_with_len}
use Rattle.controller_core.specs.Core.{start_controller}
use Rattle.controller_core.proofs.picks.Core.new.Given as goal

-- The controllers so far stand at their starts.
abbrev pub invariant-loop-part : goal.invariant-loop-part
invariant-loop-part l = l.controllers.items ≡ map (start_controller l.plan l.tape) (range_with_len 0 l.part-index)
