-- The undivided run of a plan: one tree, one store, one frame table, one tick. Each statement stands before what follows it. This project's own.
use Rattle.std.specs.Prelude.{ℕ, ◌+◌, List, [], ◌∷◌, map, replicate, slice_get, unwrap_or}
use Rattle.qs_values.specs.declared.tape.Tape.{Tape}
use Rattle.qs_values.specs.declared.tape.FrameStart.{FrameStart}
use Rattle.plan_tree.specs.declared.frame.FrameState.{FrameState}
use Rattle.plan_tree.specs.declared.plan.Plan.{Plan}
use Rattle.plan_tree.specs.declared.plan.Block.{Block as Block-}
use Rattle.plan_tree.specs.declared.plan.Event.{Event}
use Rattle.plan_tree.specs.declared.plan.Deed.{Deed}
use Rattle.plan_tree.specs.declared.plan.Deed.TheVariants.{Pulse}
use Rattle.plan_tree.specs.declared.plan.PlanStmt.{PlanStmt}
use Rattle.plan_tree.specs.declared.plan.PlanStmt.TheVariants.{Block}
use Rattle.plan_tree.specs.Store.{start_store}

-- where an entry stands in the plan: the number of its event in its block, and before it those of the statements round it, the innermost first
abbrev pub Place : Type 0
Place = List ℕ

-- what happens at one moment of a run
pub data Happening : Type 0 where
  Pulsed : (port wave phase hz : ℕ) → Happening

-- an entry of the trace
pub record Entry : Type 0 where
  pub place : Place
  pub tick : ℕ
  pub what : Happening

-- how a run ends
pub data Ending : Type 0 where
  Done : Ending

-- where a run stands: its variables, its frames, how many bits each qubit's captures have used, and its tick
pub record RunState : Type 0 where
  pub store : List ℕ
  pub frames : List FrameState
  pub captured : List ℕ
  pub tick : ℕ

-- a run as a whole: its trace, and what stands at its end
pub record Outcome : Type 0 where
  pub trace : List Entry
  pub store : List ℕ
  pub tick : ℕ
  pub ending : Ending

-- the rest of a run, from a state on
abbrev pub Rest : Type 0
Rest = RunState → Outcome

-- what follows a statement: the next one, the next turn of its loop, and what stands after its loop
pub record Onward (R : Type 0) : Type 0 where
  pub next : R
  pub again : R
  pub leave : R

-- a statement at its place, before what follows it
abbrev pub Walk : Type 0
Walk = Place → Onward Rest → Rest

-- an entry, before the rest of a trace
abbrev pub with_entry : Entry → Outcome → Outcome
with_entry e o = record o { trace = e ∷ o.trace }

-- the end of a run
abbrev pub ends : Ending → Rest
ends ending s = record { trace = []; store = s.store; tick = s.tick; ending = ending }

-- what a frame is whose number is none
abbrev pub no_frame : FrameState
no_frame = record { phase = 0; hz = 0 }

-- the frame of this number
abbrev pub frame_at : List FrameState → ℕ → FrameState
frame_at frames n = unwrap_or (slice_get frames n) no_frame

-- the frames in which a run begins
abbrev pub start_frames : List FrameStart → List FrameState
start_frames frames = map (λ f. record { phase = f.phase; hz = f.hz }) frames

-- statements one after another, the first of them of number n
abbrev pub in_order : List Walk → ℕ → Walk
in_order [] n here on = on.next
in_order (w ∷ ws) n here on = w (n ∷ here) (record on { next = in_order ws (n + 1) here on })

-- how many qubits a machine has at most
abbrev pub most_qubits : ℕ
most_qubits = 32

-- what follows the plan
abbrev pub at_the_end : Onward Rest
at_the_end = record { next = ends Done; again = ends Done; leave = ends Done }

-- what a run does by its plan and its tape
module _ (plan : Plan) (tape : Tape) where
  -- what an event does in a state whose tick is that of its block: a pulse has its frame's phase and frequency
  abbrev pub deed_then : Place → Event → Deed → Rest → Rest
  deed_then here e (Pulse f w) rest s = with_entry (record {
    place = here;
    tick = s.tick + e.offset;
    what = Pulsed e.port w (frame_at s.frames f).phase (frame_at s.frames f).hz;
  }) (rest s)

  -- events one after another, the first of them of number n
  abbrev pub events_then : Place → ℕ → List Event → Rest → Rest
  events_then here n [] rest = rest
  events_then here n (e ∷ es) rest = deed_then (n ∷ here) e e.act (events_then here (n + 1) es rest)

  -- a block's events, and then its length
  abbrev pub block_then : Place → Block- → Rest → Rest
  block_then here b rest = events_then here 0 b.events (λ s. rest (record s { tick = s.tick + b.length }))

  -- a statement, before what follows it
  abbrev pub walk : PlanStmt → Walk
  walk (Block b) here on = block_then here b on.next

  -- where a run begins
  abbrev pub start_of : RunState
  start_of = record {
    store = start_store plan.vars plan.inputs tape.inputs;
    frames = start_frames plan.frames;
    captured = replicate most_qubits 0;
    tick = 0;
  }

  -- the undivided run
  abbrev pub run_of : Outcome
  run_of = in_order (map walk plan.body) 0 [] at_the_end start_of
