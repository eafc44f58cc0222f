-- What follows from the definitions of plans, for the crates above. This project's own.
use Rattle.std.specs.Prelude.{List, filter}
use Rattle.std.specs.List.{IsDistinct}
use Rattle.plan_tree.specs.declared.plan.Event.{Event}
use Rattle.plan_tree.specs.Deeds.{plays}
use Rattle.plan_tree.specs.Sound.{same_start}

-- Where no two events begin together on a port, no two that play do.
abbrev pub PlaysStayApart : Type 0
PlaysStayApart = (events : List Event) → IsDistinct same_start events → IsDistinct same_start (filter (λ e. plays e.act) events)
