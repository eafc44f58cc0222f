use Rattle.std.proofs.Common.{◌≡◌, ◌+◌, drop, length}
use Rattle.controller_machine.specs.steps.Left.{items_left}
use Rattle.controller_machine.proofs.stand.items_in.Given as goal

abbrev pub invariant-loop-stmt : goal.invariant-loop-stmt
invariant-loop-stmt l = l.count + length (items_left (drop l.stmt-index l.body) 0) ≡ length (items_left l.body 0)
