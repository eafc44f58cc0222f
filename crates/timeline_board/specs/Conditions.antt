-- What a report asks of a run, and what it and the line of a refusal promise. This project's own.
use Rattle.std.specs.Prelude.{◌≡◌, ℕ, ◌+◌, ◌<◌, ◌^◌, List, length, slice_get, slice_index, All, IsSomeAnd, Result, Some}
use Rattle.qs_values.specs.declared.kind.Kind.{Kind}
use Rattle.qs_values.specs.declared.kind.Kind.TheVariants.{Bit, Bool, Bits, Int, Uint, Angle}
use Rattle.qs_values.specs.declared.kind.Ty.{Ty}
use Rattle.qs_values.specs.declared.refusal.Refusal.{Refusal}
use Rattle.qs_values.specs.declared.tape.Tape.{Tape}
use Rattle.plan_tree.specs.declared.plan.Plan.{Plan}
use Rattle.plan_tree.specs.declared.plan.Deed.{Deed}
use Rattle.plan_tree.specs.declared.plan.Deed.TheVariants.{Pulse}
use Rattle.plan_tree.specs.declared.plan.PlanStmt.{PlanStmt}
use Rattle.plan_tree.specs.declared.plan.PlanStmt.TheVariants.{Block}
use Rattle.qs_machine.specs.declared.machine.Machine.{Machine}
use Rattle.controller_machine.specs.declared.ctl.Played.{Played}
use Rattle.controller_machine.specs.Ctl.{CtlState, shown_of}
use Rattle.controller_machine.specs.Log.{logs_planned}
use Rattle.outside.specs.declared.sink.PutFailed.{PutFailed}
use Rattle.outside.specs.Sink.{SinkState, PutsText}
use Rattle.timeline_board.specs.Order.{IsMerge, logs_of}
use Rattle.timeline_board.specs.Report.{report_text}
use Rattle.timeline_board.specs.Refused.{name_of, refusal_line}

-- A machine has the port and the waveform of an entry.
pub record IsNamed (machine : Machine) (p : Played) : Type 0 where
  pub port : p.port < length machine.ports
  pub wave : p.wave < length machine.waveforms

-- A machine has the ports and the waveforms of all entries of these logs.
abbrev pub AreNamed : Machine → List (List Played) → Type 0
AreNamed machine logs = All (λ log. All (IsNamed machine) log) logs

-- A deed's waveform is one of so many.
abbrev pub HasWave : ℕ → Deed → Type 0
HasWave count (Pulse frame wave) = wave < count

-- A machine has the ports and the waveforms of a statement.
abbrev pub HasNamesOf : Machine → PlanStmt → Type 0
HasNamesOf machine (Block b) = All (λ e. (e.port < length machine.ports) × HasWave (length machine.waveforms) e.act) b.events

-- A machine has the ports and the waveforms of a plan.
abbrev pub HasNames : Machine → Plan → Type 0
HasNames machine plan = All (HasNamesOf machine) plan.body

-- Then it has those of the logs of all planned acts.
abbrev pub LogsHaveNames : Type 0
LogsHaveNames = (machine : Machine) (plan : Plan) (tape : Tape) → HasNames machine plan → AreNamed machine (logs_planned plan tape)

-- A store has a value of its type for each variable.
abbrev pub HoldsVars : List Ty → List ℕ → Type 0
HoldsVars vars store = (v : ℕ) (ty : Ty) → slice_get vars v ≡ Some ty → IsSomeAnd (slice_get store v) (λ value. value < 2 ^ ty.width)

-- The first controller's store, the hub's, has a value of its type for each variable.
abbrev pub HubHolds : List Ty → List CtlState → Type 0
HubHolds vars states = IsSomeAnd (slice_get states 0) (λ hub. HoldsVars vars hub.store)

-- A store has the variables of a value of this type, and that of a signed number holds one.
abbrev pub HoldsValue : List ℕ → ℕ → Kind → ℕ → Type 0
HoldsValue store first Bit width = first < length store
HoldsValue store first Bool width = first < length store
HoldsValue store first Bits width = (i : ℕ) → i < width → first + i < length store
HoldsValue store first Int width = (first < length store) × (slice_index store first < 2 ^ width)
HoldsValue store first Uint width = first < length store
HoldsValue store first Angle width = first < length store

-- The report of all entries of these controllers was put.
pub record PutsReport (plan : Plan) (machine : Machine) (states : List CtlState) (old new : SinkState) (result : Result (Unit {0}) PutFailed) : Type 0 where
  pub entries : List Played
  pub hub : CtlState
  pub merged : IsMerge entries (logs_of states)
  pub first : slice_get states 0 ≡ Some hub
  pub text : PutsText old new (report_text plan machine entries (shown_of hub)) result

-- The line of a refusal was put, with the name of its code.
pub record PutsRefusal (refusal : Refusal) (old new : SinkState) (result : Result (Unit {0}) PutFailed) : Type 0 where
  pub name : List ℕ
  pub named : name_of refusal.code ≡ Some name
  pub text : PutsText old new (refusal_line name refusal) result
