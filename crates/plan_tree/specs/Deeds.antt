-- What kinds of deeds there are. This project's own.
use Rattle.std.specs.Prelude.{Bool, true}
use Rattle.plan_tree.specs.declared.plan.Deed.{Deed}
use Rattle.plan_tree.specs.declared.plan.Deed.TheVariants.{Pulse}

-- whether a deed plays, so that it counts for ports and logs; frame changes don't
abbrev pub plays : Deed → Bool
plays (Pulse f w) = true
