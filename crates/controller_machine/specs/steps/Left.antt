-- What is left of a part, and that it ends in time. An account of the code, which flat code will replace.
use Rattle.std.specs.Prelude.{ℕ, ◌+◌, ◌<◌, ◌≤◌, ◌^◌, List, [], ◌∷◌, ◌++◌, drop, All}
use Rattle.plan_tree.specs.declared.part.Item.{Item}
use Rattle.plan_tree.specs.declared.part.Item.TheVariants.{Own}
use Rattle.plan_tree.specs.declared.part.PartStmt.{PartStmt}
use Rattle.plan_tree.specs.declared.part.PartStmt.TheVariants.{Block, Wait}
use Rattle.controller_machine.specs.declared.stand.Spot.{Spot}
use Rattle.controller_machine.specs.declared.stand.Stand.{Stand}
use Rattle.controller_machine.specs.declared.stand.Stand.TheVariants.{At, Over}

-- the ticks that statements take
abbrev pub ticks_of : List PartStmt → ℕ
ticks_of [] = 0
ticks_of (Block ticks items ∷ rest) = ticks + ticks_of rest
ticks_of (Wait ticks ∷ rest) = ticks + ticks_of rest

-- the items that are left, from this item of the first statement on
abbrev pub items_left : List PartStmt → ℕ → List Item
items_left [] i = []
items_left (Block ticks items ∷ rest) i = drop i items ++ items_left rest 0
items_left (Wait ticks ∷ rest) i = items_left rest 0

-- An item is near its block's beginning.
abbrev pub IsNear : Item → Type 0
IsNear (Own e) = e.offset ≤ 2 ^ 40

-- What is left from a spot on ends before tick 2^61, and its items are near their blocks' beginnings.
pub record LeavesTime (body : List PartStmt) (spot : Spot) : Type 0 where
  pub time : spot.tick + ticks_of (drop spot.statement body) < 2 ^ 61
  pub near : All IsNear (items_left (drop spot.statement body) spot.item)

-- A controller that stands here is in time to the end of its part.
abbrev pub IsInTime : List PartStmt → Stand → Type 0
IsInTime body (At spot) = LeavesTime body spot
IsInTime body (Over ending tick) = Unit {0}
