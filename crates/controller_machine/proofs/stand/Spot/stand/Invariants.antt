use Rattle.std.proofs.Common.{◌≡◌, ◌+◌, ◌-◌, ◌<◌, ◌^◌, drop, length}
use Rattle.controller_machine.specs.steps.Place.{stand_from}
use Rattle.controller_machine.specs.steps.Left.{ticks_of}
use Rattle.controller_machine.proofs.stand.Spot.stand.Given as goal

-- What is left leads to the same place.
abbrev pub invariant-loop-stmt : goal.invariant-loop-stmt
invariant-loop-stmt l = record {
  time : l.spot.tick + ticks_of (drop l.spot.statement l.body) < 2 ^ 61;
  same : stand_from (drop l.spot.statement l.body) l.spot.statement l.spot.item l.spot.tick
      ≡ stand_from (drop l.fn.self.statement l.body) l.fn.self.statement l.fn.self.item l.fn.self.tick;
}

abbrev pub decreases-loop-stmt : goal.decreases-loop-stmt
decreases-loop-stmt l = length l.body - l.spot.statement
