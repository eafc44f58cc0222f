use Rattle.std.proofs.Common.{◌≡◌, ◌++◌, ◌-◌, map}
use Rattle.std.specs.List.{range_with_len}
use Rattle.plan_tree.specs.Parts.{part_of, parts_of}
use Rattle.localise.proofs.split.localise.Given as goal

abbrev pub invariant-loop-controller : goal.invariant-loop-controller
invariant-loop-controller l =
    l.parts ++ map (part_of l.plan) (range_with_len l.controller (l.plan.controllers - l.controller)) ≡ parts_of l.plan
