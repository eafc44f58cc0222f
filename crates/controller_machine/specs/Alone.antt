-- A controller alone: a walk of its part's tree over the lists of the values that it takes, each statement before what follows it. This project's own.
use Rattle.std.specs.Prelude.{ℕ, ◌+◌, List, [], ◌∷◌, ◌++◌, map, replicate, zero, suc}
use Rattle.std.specs.List.{range_with_len}
use Rattle.qs_values.specs.declared.tape.Tape.{Tape}
use Rattle.plan_tree.specs.declared.frame.FrameState.{FrameState}
use Rattle.plan_tree.specs.declared.plan.Plan.{Plan}
use Rattle.plan_tree.specs.declared.plan.Event.{Event}
use Rattle.plan_tree.specs.declared.plan.Deed.{Deed}
use Rattle.plan_tree.specs.declared.plan.Deed.TheVariants.{Pulse}
use Rattle.plan_tree.specs.declared.part.Item.{Item}
use Rattle.plan_tree.specs.declared.part.Item.TheVariants.{Own as OwnItem}
use Rattle.plan_tree.specs.declared.part.Part.{Part}
use Rattle.plan_tree.specs.declared.part.PartStmt.{PartStmt}
use Rattle.plan_tree.specs.declared.part.PartStmt.TheVariants.{Block, Wait}
use Rattle.plan_tree.specs.Acts.{Act, Own, planned_messages}
use Rattle.plan_tree.specs.Parts.{part_of}
use Rattle.plan_tree.specs.Run.{Onward, Pulsed, frame_at, most_qubits, start_frames}
use Rattle.plan_tree.specs.Store.{start_store}
use Rattle.controller_machine.specs.declared.ctl.Played.{Played}
use Rattle.controller_machine.specs.declared.stand.Ending.{Ending}
use Rattle.controller_machine.specs.declared.stand.Ending.TheVariants.{Going, Done}
use Rattle.controller_machine.specs.Log.{log_of}

-- what a controller shows: its variables, its frames, how many bits each qubit's captures have used, what it has played, its tick, and whether and how its run has ended
pub record Shown : Type 0 where
  pub store : List ℕ
  pub frames : List FrameState
  pub captured : List ℕ
  pub log : List Played
  pub tick : ℕ
  pub ending : Ending

-- a controller on its way: what it shows, and what is left of the list of each controller that gives to it, by number
pub record Walker : Type 0 where
  pub shown : Shown
  pub lists : List (List ℕ)

-- what a controller does from a moment on: its acts, with where it is before each, and where it is at last
pub data Alone : Type 0 where
  Ends : (last : Walker) → Alone
  Makes : (now : Walker) (act : Act) (rest : Alone) → Alone

-- the rest of a walk, from where a controller is
abbrev pub Rest : Type 0
Rest = Walker → Alone

-- a statement of a part, before what follows it
abbrev pub Walk : Type 0
Walk = Onward Rest → Rest

-- the end of a walk
abbrev pub ends : Ending → Rest
ends ending w = Ends (record w { shown = record w.shown { ending = ending } })

-- a controller some ticks after_ticks
abbrev pub after_ticks : ℕ → Walker → Walker
after_ticks ticks w = record w { shown = record w.shown { tick = w.shown.tick + ticks } }

-- a controller that has played what an act plays
abbrev pub with_entry_of : Act → Walker → Walker
with_entry_of act w = record w { shown = record w.shown { log = w.shown.log ++ log_of (act ∷ []) } }

-- an act, before what follows it
abbrev pub act_then : Act → Rest → Rest
act_then act rest w = Makes w act (rest (with_entry_of act w))

-- statements one after another
abbrev pub in_order : List Walk → Walk
in_order [] on = on.next
in_order (w ∷ ws) on = w (record on { next = in_order ws on })

-- what follows a part
abbrev pub part_end : Onward Rest
part_end = record { next = ends Done; again = ends Done; leave = ends Done }

-- what controller k does by its part of a plan, where captures read a tape
module _ (plan : Plan) (tape : Tape) (k : ℕ) where
  -- what an event of a block does where the block began: a pulse has its frame's phase and frequency
  abbrev pub deed_then : Event → Deed → Rest → Rest
  deed_then e (Pulse f w) rest s = act_then (Own k (s.shown.tick + e.offset)
      (Pulsed e.port w (frame_at s.shown.frames f).phase (frame_at s.shown.frames f).hz)) rest s

  -- an item of a block, before what follows it
  abbrev pub item_then : Item → Rest → Rest
  item_then (OwnItem e) rest = deed_then e e.act rest

  -- items one after another
  abbrev pub items_then : List Item → Rest → Rest
  items_then [] rest = rest
  items_then (item ∷ items) rest = item_then item (items_then items rest)

  -- a statement, before what follows it
  abbrev pub walk : PartStmt → Walk
  walk (Block ticks items) on = items_then items (λ w. on.next (after_ticks ticks w))
  walk (Wait ticks) on = λ w. on.next (after_ticks ticks w)

-- a controller alone in its part, from where it starts
abbrev pub alone : Plan → Tape → Part → Rest
alone plan tape part = in_order (map (walk plan tape part.controller) part.body) part_end

-- where a controller starts: as the run does, with nothing played
abbrev pub start_shown : Plan → Tape → Shown
start_shown plan tape = record {
  store = start_store plan.vars plan.inputs tape.inputs;
  frames = start_frames plan.frames;
  captured = replicate most_qubits 0;
  log = [];
  tick = 0;
  ending = Going;
}

-- the planned messages to a controller, by the number of who gives them
abbrev pub lists_to : Plan → Tape → ℕ → List (List ℕ)
lists_to plan tape k = map (λ from. planned_messages plan tape from k) (range_with_len 0 plan.controllers)

-- controller k of a plan alone, over its planned messages
abbrev pub alone_of : Plan → Tape → ℕ → Alone
alone_of plan tape k = alone plan tape (part_of plan k) (record { shown = start_shown plan tape; lists = lists_to plan tape k })

-- the acts of a walk
abbrev pub acts_in : Alone → List Act
acts_in (Ends last) = []
acts_in (Makes now act rest) = act ∷ acts_in rest

-- where a controller is before its next act, or at last
abbrev pub now_in : Alone → Walker
now_in (Ends last) = last
now_in (Makes now act rest) = now

-- where it is at last
abbrev pub last_in : Alone → Walker
last_in (Ends last) = last
last_in (Makes now act rest) = last_in rest

-- what is left of a walk after so many acts
abbrev pub left_after : ℕ → Alone → Alone
left_after zero a = a
left_after (suc n) (Ends last) = Ends last
left_after (suc n) (Makes now act rest) = left_after n rest

-- what controller k shows after so many acts
abbrev pub shown_after : Plan → Tape → ℕ → ℕ → Shown
shown_after plan tape k n = (now_in (left_after n (alone_of plan tape k))).shown
