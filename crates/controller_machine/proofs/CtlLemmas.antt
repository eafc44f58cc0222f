-- A controller as it is made, and what it may count on when it acts.
use Rattle.std.proofs.Common.{◌≡◌, ℕ, ◌+◌, ◌<◌, ◌^◌, List, [], length, refl, arith, sym, subst, drop}
use Rattle.std.specs.Prelude.{Some, slice_get, replicate}
use Rattle.qs_values.specs.declared.tape.Tape.{Tape}
use Rattle.plan_tree.specs.declared.frame.FrameState.{FrameState}
use Rattle.plan_tree.specs.declared.plan.Plan.{Plan}
use Rattle.plan_tree.specs.declared.plan.Event.{Event}
use Rattle.plan_tree.specs.declared.plan.Deed.{Deed}
use Rattle.plan_tree.specs.declared.plan.Deed.TheVariants.{Pulse}
use Rattle.plan_tree.specs.declared.part.Item.{Item}
use Rattle.plan_tree.specs.declared.part.Item.TheVariants.{Own}
use Rattle.plan_tree.specs.declared.part.Part.{Part}
use Rattle.plan_tree.specs.declared.part.PartStmt.{PartStmt}
use Rattle.plan_tree.specs.Parts.{part_of}
use Rattle.plan_tree.specs.Run.{most_qubits, start_frames}
use Rattle.plan_tree.specs.Sound.{IsSound}
use Rattle.plan_tree.specs.Store.{start_store}
use Rattle.controller_machine.specs.declared.ctl.Played.{Played}
use Rattle.controller_machine.specs.declared.stand.Spot.{Spot}
use Rattle.controller_machine.specs.declared.stand.Stand.{Stand}
use Rattle.controller_machine.specs.declared.stand.Stand.TheVariants.{At}
use Rattle.controller_machine.specs.Ctl.{CtlState, start_ctl, with_deed}
use Rattle.controller_machine.specs.steps.Place.{item_at, item_in, stand_from}
use Rattle.controller_machine.specs.steps.Left.{IsInTime, LeavesTime, items_left, ticks_of}
use Rattle.controller_machine.proofs.Sizes.{items-near, items-room, items-weigh, ticks-few}
use Rattle.controller_machine.proofs.Stands.{stand-in_time}
pub use Rattle.controller_machine.proofs.Stands.{item-in_time, item-near}

-- A part has few items.
pub items-few : (plan : Plan) (k : ℕ) (body : List PartStmt) → IsSound plan → body ≡ (part_of plan k).body → length (items_left body 0) < 2 ^ 32
items-few plan k body sound same = rw same (omega (arith, items-weigh plan k [] 0 plan.body, sound.weight))

-- A part ends in time.
pub ends-in_time : (plan : Plan) (k : ℕ) (body : List PartStmt) → IsSound plan → body ≡ (part_of plan k).body → 0 + ticks_of body < 2 ^ 61
ends-in_time plan k body sound same = rw same (omega (arith, ticks-few plan k [] 0 plan.body sound.body, sound.weight))

-- A controller that starts in its part is in time.
pub starts-in_time : (plan : Plan) (k : ℕ) (body : List PartStmt) (stand : Stand) → IsSound plan → body ≡ (part_of plan k).body → stand ≡ stand_from body 0 0 0 → IsInTime body stand
starts-in_time plan k body stand sound same is = rw is (stand-in_time body body 0 0 0 refl (ends-in_time plan k body sound same) (rw same (items-near plan k [] 0 plan.body sound.body)))

-- An item is an event of its controller's own.
pub own-event : (item : Item) → (e : Event) × (item ≡ Own e)
own-event (Own e) = (e, refl)

-- A controller that is made of these is one at the start.
pub made-start : (plan : Plan) (tape : Tape) (k : ℕ) (part : Part) (stand : Stand) (store : List ℕ) (frames : List FrameState) (captured : List ℕ) (log : List Played) (room : ℕ) →
    part ≡ part_of plan k → stand ≡ stand_from part.body 0 0 0 → store ≡ start_store plan.vars plan.inputs tape.inputs → frames ≡ start_frames plan.frames →
    captured ≡ replicate most_qubits 0 → log ≡ [] → room ≡ length (items_left part.body 0) →
    record { part = part; stand = stand; store = store; frames = frames; captured = captured; log = log; room = room } ≡ start_ctl plan tape k
made-start plan tape k part stand store frames captured log room is_part is_stand is_store is_frames is_captured is_log is_room =
    rw (is_stand, is_store, is_frames, is_captured, is_log, is_room, is_part, items-room plan k) refl

-- What was read at a spot is the item there.
pub found-at : (slice : List PartStmt) (part seen : Part) (spot : Spot) (item : Item) → slice ≡ part.body → part ≡ seen → Some item ≡ item_in spot.item (slice_get slice spot.statement) → item_at seen.body spot ≡ Some item
found-at slice part seen spot item is_slice is_part found = sym (rw (is_slice, is_part) at found)

-- A controller that stands at a spot is in time there.
pub in_time-at : (body : List PartStmt) (stand : Stand) (spot : Spot) → stand ≡ At spot → IsInTime body stand → LeavesTime body spot
in_time-at body stand spot here in_time = subst (IsInTime body) here in_time

deed-part : (c : CtlState) (tick : ℕ) (e : Event) (d : Deed) → (with_deed c tick e d).part ≡ c.part
deed-part c tick e (Pulse f w) = refl

-- An event of its own leaves a controller its part.
pub event-part : (c : CtlState) (tick : ℕ) (e : Event) → (with_deed c tick e e.act).part ≡ c.part
event-part c tick e = deed-part c tick e e.act

-- After its act it is in time.
pub acted-in_time : (slice : List PartStmt) (part seen later : Part) (spot : Spot) (item : Item) (stand : Stand) → slice ≡ part.body → part ≡ seen → later ≡ part → LeavesTime seen.body spot → item_at seen.body spot ≡ Some item →
    stand ≡ stand_from (drop spot.statement slice) spot.statement (spot.item + 1) spot.tick → IsInTime later.body stand
acted-in_time slice part seen later spot item stand is_slice is_part is_later in_time found is_stand =
    rw (is_stand, is_slice, is_later, is_part) (item-in_time seen.body spot item in_time found)
