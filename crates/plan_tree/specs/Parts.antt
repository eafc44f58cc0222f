-- What each controller has of a plan: need and keep, and the parts. This project's own.
-- A controller keeps the events of its ports, and each statement that holds one. The hub, controller 0, reads every variable.
use Rattle.std.specs.Prelude.{ℕ, ◌+◌, List, [], ◌∷◌, ◌++◌, length, map, replicate, slice_index, Bool, nat_eq, if◌then◌else◌}
use Rattle.std.specs.List.{flat_map, range_with_len}
use Rattle.plan_tree.specs.declared.plan.Plan.{Plan}
use Rattle.plan_tree.specs.declared.plan.Event.{Event}
use Rattle.plan_tree.specs.declared.plan.Deed.{Deed}
use Rattle.plan_tree.specs.declared.plan.Deed.TheVariants.{Pulse}
use Rattle.plan_tree.specs.declared.plan.PlanStmt.{PlanStmt}
use Rattle.plan_tree.specs.declared.plan.PlanStmt.TheVariants.{Block as PlanBlock}
use Rattle.plan_tree.specs.declared.part.Item.{Item}
use Rattle.plan_tree.specs.declared.part.Item.TheVariants.{Own}
use Rattle.plan_tree.specs.declared.part.PartStmt.{PartStmt}
use Rattle.plan_tree.specs.declared.part.PartStmt.TheVariants.{Block, Wait}
use Rattle.plan_tree.specs.declared.part.Part.{Part}
use Rattle.plan_tree.specs.Run.{Place}

-- the controller of a port
abbrev pub owner_of : Plan → ℕ → ℕ
owner_of plan port = slice_index plan.owner port

-- whether an event is of this controller's ports
abbrev pub is_own : Plan → ℕ → Event → Bool
is_own plan k e = nat_eq (owner_of plan e.port) k

-- what a controller has of an event, by its deed
abbrev pub deed_items : Plan → ℕ → Event → Deed → List Item
deed_items plan k e (Pulse f w) = if is_own plan k e then Own e ∷ [] else []

-- what a controller does in a block
abbrev pub items_of : Plan → ℕ → List Event → List Item
items_of plan k events = flat_map (λ e. deed_items plan k e e.act) events

-- a block with what is kept of it, or a wait of its length where nothing is
abbrev pub block_or_wait : ℕ → List Item → PartStmt
block_or_wait ticks [] = Wait ticks
block_or_wait ticks (item ∷ items) = Block ticks (item ∷ items)

-- what a controller has of a statement at its place: a list of statements of its part
abbrev pub Kept : Type 0
Kept = Place → List PartStmt

-- what it has of a statement of the plan
abbrev pub part_stmt : Plan → ℕ → PlanStmt → Kept
part_stmt plan k (PlanBlock b) here = block_or_wait b.length (items_of plan k b.events) ∷ []

-- what it has of statements one after another, the first of them of number n
abbrev pub kept_in_order : List Kept → ℕ → Kept
kept_in_order [] n here = []
kept_in_order (x ∷ xs) n here = x (n ∷ here) ++ kept_in_order xs (n + 1) here

-- which variables a controller reads
abbrev pub reads_of : Plan → ℕ → List Bool
reads_of plan k = replicate (length plan.vars) (nat_eq k 0)

-- the part of controller k
abbrev pub part_of : Plan → ℕ → Part
part_of plan k = record { controller = k; reads = reads_of plan k; body = kept_in_order (map (part_stmt plan k) plan.body) 0 [] }

-- the parts, in order of controller
abbrev pub parts_of : Plan → List Part
parts_of plan = map (part_of plan) (range_with_len 0 plan.controllers)
