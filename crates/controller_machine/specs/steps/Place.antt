-- How a controller finds its next act in its part: items, and where it stands. An account of the code, which flat code will replace.
use Rattle.std.specs.Prelude.{ℕ, ◌+◌, List, [], ◌∷◌, length, drop, slice_get, Option, Some, None, nat_lt, if◌then◌else◌}
use Rattle.plan_tree.specs.declared.part.Item.{Item}
use Rattle.plan_tree.specs.declared.part.PartStmt.{PartStmt}
use Rattle.plan_tree.specs.declared.part.PartStmt.TheVariants.{Block, Wait}
use Rattle.controller_machine.specs.declared.stand.Ending.TheVariants.{Done}
use Rattle.controller_machine.specs.declared.stand.Spot.{Spot}
use Rattle.controller_machine.specs.declared.stand.Stand.{Stand}
use Rattle.controller_machine.specs.declared.stand.Stand.TheVariants.{At, Over}

-- where a controller stands that has come to this item of the first of these statements, whose number and tick are given: before the first item from there on, or at its end
abbrev pub stand_from : List PartStmt → ℕ → ℕ → ℕ → Stand
stand_from [] s i t = Over Done t
stand_from (Block ticks items ∷ rest) s i t =
    if nat_lt i (length items) then At (record { statement = s; item = i; tick = t }) else stand_from rest (s + 1) 0 (t + ticks)
stand_from (Wait ticks ∷ rest) s i t = stand_from rest (s + 1) 0 (t + ticks)

-- the item of this number in a statement
abbrev pub item_in : ℕ → Option PartStmt → Option Item
item_in i None = None
item_in i (Some (Block ticks items)) = slice_get items i
item_in i (Some (Wait ticks)) = None

-- the item at a spot
abbrev pub item_at : List PartStmt → Spot → Option Item
item_at body spot = item_in spot.item (slice_get body spot.statement)

-- the item before which a controller stands
abbrev pub item_of : List PartStmt → Stand → Option Item
item_of body (At spot) = item_at body spot
item_of body (Over ending tick) = None

-- where a controller stands after the item at a spot
abbrev pub stand_after : List PartStmt → Spot → Stand
stand_after body spot = stand_from (drop spot.statement body) spot.statement (spot.item + 1) spot.tick
