-- One controller in its part, act by act. This project's own.
use Rattle.std.specs.Prelude.{ℕ, ◌+◌, ◌-◌, List, [], ◌∷◌, ◌++◌, map, sum, replicate, count_by, Option, Some, None, ◌&&◌, if◌then◌else◌, zero, suc}
use Rattle.qs_values.specs.declared.tape.Tape.{Tape}
use Rattle.plan_tree.specs.declared.frame.FrameState.{FrameState}
use Rattle.plan_tree.specs.declared.plan.Plan.{Plan}
use Rattle.plan_tree.specs.declared.plan.Event.{Event}
use Rattle.plan_tree.specs.declared.plan.Deed.{Deed}
use Rattle.plan_tree.specs.declared.plan.Deed.TheVariants.{Pulse}
use Rattle.plan_tree.specs.declared.plan.PlanStmt.{PlanStmt}
use Rattle.plan_tree.specs.declared.plan.PlanStmt.TheVariants.{Block as PlanBlock}
use Rattle.plan_tree.specs.declared.part.Item.{Item}
use Rattle.plan_tree.specs.declared.part.Item.TheVariants.{Own}
use Rattle.plan_tree.specs.declared.part.Part.{Part}
use Rattle.plan_tree.specs.Store.{start_store}
use Rattle.plan_tree.specs.Deeds.{plays}
use Rattle.plan_tree.specs.Run.{frame_at, most_qubits, start_frames}
use Rattle.plan_tree.specs.Parts.{is_own, part_of}
use Rattle.controller_machine.specs.declared.ctl.Played.{Played}
use Rattle.controller_machine.specs.declared.ctl.Want.{Want}
use Rattle.controller_machine.specs.declared.ctl.Want.TheVariants.{Go, Ended}
use Rattle.controller_machine.specs.declared.stand.Ending.{Ending}
use Rattle.controller_machine.specs.declared.stand.Ending.TheVariants.{Going}
use Rattle.controller_machine.specs.declared.stand.Spot.{Spot}
use Rattle.controller_machine.specs.declared.stand.Stand.{Stand}
use Rattle.controller_machine.specs.declared.stand.Stand.TheVariants.{At, Over}
use Rattle.controller_machine.specs.Alone.{Shown}
use Rattle.controller_machine.specs.steps.Place.{item_at, item_of, stand_after, stand_from}

-- a controller: the part that it was made with, where it stands in it, its variables and frames, how many bits each qubit's captures have used, what it has played, and how many entries its log has room for
pub record CtlState : Type 0 where
  pub part : Part
  pub stand : Stand
  pub store : List ℕ
  pub frames : List FrameState
  pub captured : List ℕ
  pub log : List Played
  pub room : ℕ

-- the tick at which the statement of the next act begins, or at which the run ended
abbrev pub tick_in : Stand → ℕ
tick_in (At spot) = spot.tick
tick_in (Over ending tick) = tick

-- whether and how the run has ended
abbrev pub ending_in : Stand → Ending
ending_in (At spot) = Going
ending_in (Over ending tick) = ending

-- what a controller shows
abbrev pub shown_of : CtlState → Shown
shown_of c = record { store = c.store; frames = c.frames; captured = c.captured; log = c.log; tick = tick_in c.stand; ending = ending_in c.stand }

-- what a controller wants that stands before this item, or at its end
abbrev pub want_at : Option Item → Want
want_at None = Ended
want_at (Some (Own e)) = Go

-- what a controller wants to do next
abbrev pub want_of : CtlState → Want
want_of c = want_at (item_of c.part.body c.stand)

-- how many entries an item makes in the log
abbrev pub entries_at : Option Item → ℕ
entries_at None = 0
entries_at (Some (Own e)) = if plays e.act then 1 else 0

-- how many entries the next act makes in the log
abbrev pub entries_next : CtlState → ℕ
entries_next c = entries_at (item_of c.part.body c.stand)

-- what an event of a block that began at this tick plays
abbrev pub played_of : List FrameState → ℕ → Event → Deed → Played
played_of frames tick e (Pulse f w) = record { tick = tick + e.offset; port = e.port; wave = w; phase = (frame_at frames f).phase; hz = (frame_at frames f).hz; bit = None }

-- a controller that has done a deed of its own, of a block that began at this tick
abbrev pub with_deed : CtlState → ℕ → Event → Deed → CtlState
with_deed c tick e (Pulse f w) = record c { log = c.log ++ played_of c.frames tick e (Pulse f w) ∷ []; room = c.room - 1 }

-- a controller that has done this item
abbrev pub with_item : CtlState → ℕ → Item → CtlState
with_item c tick (Own e) = with_deed c tick e e.act

-- a controller after an item at its spot
abbrev pub after_item : CtlState → Spot → Option Item → CtlState
after_item c spot None = c
after_item c spot (Some item) = record (with_item c spot.tick item) { stand = stand_after c.part.body spot }

-- a controller after its next act, by where it stands
abbrev pub after_stand : CtlState → Stand → CtlState
after_stand c (At spot) = after_item c spot (item_at c.part.body spot)
after_stand c (Over ending tick) = c

-- a controller after its next act, where it has one
abbrev pub after_act : CtlState → CtlState
after_act c = after_stand c c.stand

-- how many events of a statement are on ports of a controller and play
abbrev pub most_in : Plan → ℕ → PlanStmt → ℕ
most_in plan k (PlanBlock b) = count_by (λ e. is_own plan k e && plays e.act) b.events

-- how many entries the log of a controller has at most
abbrev pub most : Plan → ℕ → ℕ
most plan k = sum (map (most_in plan k) plan.body)

-- a controller at the start
abbrev pub start_ctl : Plan → Tape → ℕ → CtlState
start_ctl plan tape k = record {
  part = part_of plan k;
  stand = stand_from (part_of plan k).body 0 0 0;
  store = start_store plan.vars plan.inputs tape.inputs;
  frames = start_frames plan.frames;
  captured = replicate most_qubits 0;
  log = [];
  room = most plan k;
}

-- the state after n acts
abbrev pub state_after : Plan → Tape → ℕ → ℕ → CtlState
state_after plan tape k zero = start_ctl plan tape k
state_after plan tape k (suc n) = after_act (state_after plan tape k n)
