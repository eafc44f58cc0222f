use Rattle.std.proofs.Common.{◌≡◌, ◌++◌, [], drop, map}
use Rattle.plan_tree.specs.Parts.{kept_in_order, part_stmt}
use Rattle.localise.proofs.split.part_of.Given as goal

abbrev pub invariant-loop-stmt : goal.invariant-loop-stmt
invariant-loop-stmt l =
    l.body ++ kept_in_order (map (part_stmt l.plan l.controller) (drop l.stmt-index l.plan.body)) l.stmt-index [] ≡ kept_in_order (map (part_stmt l.plan l.controller) l.plan.body) 0 []
