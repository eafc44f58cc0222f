-- The acts of all controllers in one order, those of each, and the values that one gives another: a filter of the undivided run's trace. This project's own.
use Rattle.std.specs.Prelude.{ℕ, List, [], ◌∷◌, Option, None, filter, nat_eq}
use Rattle.std.specs.List.{flat_map, filter_map}
use Rattle.qs_values.specs.declared.tape.Tape.{Tape}
use Rattle.plan_tree.specs.declared.plan.Plan.{Plan}
use Rattle.plan_tree.specs.Run.{Entry, Happening, Pulsed, run_of}
use Rattle.plan_tree.specs.Parts.{owner_of}

-- one act: what a controller itself does at a tick
pub data Act : Type 0 where
  Own : (controller tick : ℕ) (what : Happening) → Act

-- who acts
abbrev pub actor : Act → ℕ
actor (Own k tick what) = k

-- the acts of an entry by what happens there, in their order
abbrev pub acts_by : Plan → Entry → Happening → List Act
acts_by plan e (Pulsed port wave phase hz) = Own (owner_of plan port) e.tick e.what ∷ []

-- the acts of an entry of the trace
abbrev pub acts_in : Plan → Entry → List Act
acts_in plan e = acts_by plan e e.what

-- the acts of all controllers, entry by entry
abbrev pub all_acts : Plan → List Entry → List Act
all_acts plan trace = flat_map (acts_in plan) trace

-- the acts of one controller
abbrev pub acts_of : ℕ → List Act → List Act
acts_of k acts = filter (λ a. nat_eq (actor a) k) acts

-- the planned acts of a controller
abbrev pub planned_acts : Plan → Tape → ℕ → List Act
planned_acts plan tape k = acts_of k (all_acts plan (run_of plan tape).trace)

-- the value that an act gives to this controller, if it gives it one
abbrev pub given_to : ℕ → Act → Option ℕ
given_to to (Own k tick what) = None

-- the planned messages from one controller to another: the values of its planned gives
abbrev pub planned_messages : Plan → Tape → ℕ → ℕ → List ℕ
planned_messages plan tape from to = filter_map (given_to to) (planned_acts plan tape from)
