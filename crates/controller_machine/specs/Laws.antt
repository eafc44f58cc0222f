-- What follows from the definitions of controllers, for the crates above. This project's own.
use Rattle.std.specs.Prelude.{◌≡◌, ℕ, ◌≤◌, length, All, Bool, true}
use Rattle.std.specs.List.{flat_map}
use Rattle.std.specs.List.Sorted.{IsPermutation, IsSortedByKey}
use Rattle.qs_values.specs.declared.tape.Tape.{Tape}
use Rattle.plan_tree.specs.declared.plan.Plan.{Plan}
use Rattle.plan_tree.specs.declared.plan.Deed.{Deed}
use Rattle.plan_tree.specs.declared.plan.Deed.TheVariants.{Pulse}
use Rattle.plan_tree.specs.declared.plan.PlanStmt.{PlanStmt}
use Rattle.plan_tree.specs.declared.plan.PlanStmt.TheVariants.{Block}
use Rattle.plan_tree.specs.Acts.{planned_acts}
use Rattle.plan_tree.specs.Run.{run_of}
use Rattle.plan_tree.specs.Sound.{IsSound, start_cmp, weight_of}
use Rattle.controller_machine.specs.Alone.{acts_in, alone_of, last_in}
use Rattle.controller_machine.specs.Ctl.{most, state_after}
use Rattle.controller_machine.specs.Last.{Follows, IsLast}
use Rattle.controller_machine.specs.Log.{log_of, logs_planned, play_key, timeline_of}

-- A controller alone makes exactly its planned acts, its last log is its planned timeline, for which its log has room, and the hub's last state is the run's.
pub record WalksItsPlan (plan : Plan) (tape : Tape) (k : ℕ) : Type 0 where
  pub acts : acts_in (alone_of plan tape k) ≡ planned_acts plan tape k
  pub log : (last_in (alone_of plan tape k)).shown.log ≡ log_of (planned_acts plan tape k)
  pub room : length (log_of (planned_acts plan tape k)) ≤ most plan k
  pub hub : k ≡ 0 → IsLast plan tape (last_in (alone_of plan tape k)).shown

-- Each controller alone walks its plan.
abbrev pub ControllersWalk : Type 0
ControllersWalk = (plan : Plan) (tape : Tape) (k : ℕ) → WalksItsPlan plan tape k

-- A controller that started in its part follows its walk, act by act.
abbrev pub ControllersFollow : Type 0
ControllersFollow = (plan : Plan) (tape : Tape) (k n : ℕ) → n ≤ length (planned_acts plan tape k) → Follows plan tape k n (state_after plan tape k n)

-- The acts of a controller are at most as many as its plan weighs.
abbrev pub ActsAreFew : Type 0
ActsAreFew = (plan : Plan) (tape : Tape) (k : ℕ) → length (planned_acts plan tape k) ≤ weight_of plan

-- The log of each controller of a sound plan, on any tape, stands by tick and then by port.
abbrev pub LogsStandInOrder : Type 0
LogsStandInOrder = (plan : Plan) (tape : Tape) (k : ℕ) → IsSound plan → IsSortedByKey play_key start_cmp (log_of (planned_acts plan tape k))

-- The planned timelines of all controllers of a sound plan are the run's, in another order.
abbrev pub LogsAreTheTimeline : Type 0
LogsAreTheTimeline = (plan : Plan) (tape : Tape) → IsSound plan → IsPermutation (timeline_of (run_of plan tape).trace) (flat_map (λ log. log) (logs_planned plan tape))

-- What a deed plays on this port passes a test of port and waveform.
abbrev pub PassesDeed : (ℕ → ℕ → Bool) → ℕ → Deed → Type 0
PassesDeed test port (Pulse f w) = test port w ≡ true

-- All that a statement plays passes it.
abbrev pub PassesStmt : (ℕ → ℕ → Bool) → PlanStmt → Type 0
PassesStmt test (Block b) = All (λ e. PassesDeed test e.port e.act) b.events

-- A test of port and waveform that all events of a plan pass is passed by all that each controller plays.
abbrev pub PlaysAreEvents : Type 0
PlaysAreEvents = (test : ℕ → ℕ → Bool) (plan : Plan) (tape : Tape) (k : ℕ) → All (PassesStmt test) plan.body →
    All (λ p. test p.port p.wave ≡ true) (log_of (planned_acts plan tape k))
