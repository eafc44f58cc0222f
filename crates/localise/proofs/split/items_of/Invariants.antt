use Rattle.std.proofs.Common.{◌≡◌, ◌++◌, drop}
use Rattle.plan_tree.specs.Parts.{items_of}
use Rattle.localise.proofs.split.items_of.Given as goal

abbrev pub invariant-loop-event : goal.invariant-loop-event
invariant-loop-event l =
    l.items ++ items_of l.plan l.controller (drop l.event-index l.events) ≡ items_of l.plan l.controller l.events
