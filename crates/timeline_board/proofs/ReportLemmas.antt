-- The merge of all planned logs is the timeline of the undivided run, and its report is that run's.
use Rattle.std.proofs.Common.{◌≡◌, ℕ, ◌+◌, ◌<◌, List, true, refl, sym, subst, arith}
use Rattle.std.specs.Prelude.{All, nat_lt, ◌&&◌, length, Bool}
use Rattle.std.specs.List.Sorted.{ties}
use Rattle.std.specs.List.{range_with_len}
use Rattle.std.proofs.lemmas.Bool.Decides.{nat_tests}
use Rattle.std.proofs.lemmas.List.Elements.{All-map, All-weaker}
use Rattle.plan_tree.specs.declared.plan.Deed.{Deed}
use Rattle.plan_tree.specs.declared.plan.Deed.TheVariants.{Pulse}
use Rattle.plan_tree.specs.declared.plan.PlanStmt.{PlanStmt}
use Rattle.plan_tree.specs.declared.plan.PlanStmt.TheVariants.{Block}
use Rattle.plan_tree.specs.Acts.{planned_acts}
use Rattle.plan_tree.specs.Run.{run_of}
use Rattle.qs_machine.specs.declared.machine.Machine.{Machine}
use Rattle.controller_machine.specs.declared.ctl.Played.{Played}
use Rattle.controller_machine.specs.Laws.{LogsStandInOrder, PassesDeed, PassesStmt, PlaysAreEvents}
use Rattle.controller_machine.specs.Log.{log_of, logs_planned, timeline_of}
use Rattle.timeline_board.specs.Conditions.{HasNamesOf, HasWave, IsNamed, LogsHaveNames}
use Rattle.timeline_board.specs.Order.{IsInOrder, comes_before}
use Rattle.timeline_board.specs.Report.{MergeIsTimeline, ReportIsRun}
use Rattle.timeline_board.proofs.Keys.{ties-port}
use Rattle.timeline_board.proofs.Merges.{merge-orders}
use Rattle.timeline_board.proofs.Shares.{made-at, port-share}
use Rattle.timeline_board.proofs.TimeOrder.{time-order-once}

-- Merged, all planned logs are the timeline in order.
pub merged-planned : LogsStandInOrder → MergeIsTimeline
merged-planned logs_stand plan tape entries sound merged =
    let f : ℕ → List Played = λ k. log_of (planned_acts plan tape k) in
    let ordered = merge-orders (logs_planned plan tape) entries
    (λ k log at. subst IsInOrder (sym (made-at f plan.controllers 0 k log at)) (logs_stand plan tape (0 + k) sound)) merged in
    time-order-once entries (timeline_of (run_of plan tape).trace) ordered.order
    (λ x. port-share plan tape entries (ties comes_before x) x.port sound (λ p tie. ties-port x p tie) merged)

-- Reported with the hub's last state, they give the report of the run.
pub report-is-run : MergeIsTimeline → ReportIsRun
report-is-run is_timeline plan tape machine entries hub sound merged last =
    rw (is_timeline plan tape entries sound merged, last.store, last.tick, last.ending) refl

-- ---- names

-- whether a machine has this port and this waveform
abbrev has : Machine → ℕ → ℕ → Bool
has machine port wave = nat_lt port (length machine.ports) && nat_lt wave (length machine.waveforms)

deed-passes : (machine : Machine) (port : ℕ) (d : Deed) → nat_lt port (length machine.ports) ≡ true → HasWave (length machine.waveforms) d → PassesDeed (has machine) port d
deed-passes machine port (Pulse frame wave) port_has wave_has = let wave_lt : nat_lt wave (length machine.waveforms) ≡ true = grind (arith, nat_tests) in rw (port_has, wave_lt) refl

stmt-passes : (machine : Machine) (stmt : PlanStmt) → HasNamesOf machine stmt → PassesStmt (has machine) stmt
stmt-passes machine (Block b) names =
    All-weaker (λ e. (e.port < length machine.ports) × HasWave (length machine.waveforms) e.act) (λ e. PassesDeed (has machine) e.port e.act)
    (λ e h. let port_lt : nat_lt e.port (length machine.ports) ≡ true = let low = h.0 in grind (arith, nat_tests) in deed-passes machine e.port e.act port_lt h.1) b.events names

named : (machine : Machine) (p : Played) → has machine p.port p.wave ≡ true → IsNamed machine p
named machine p passes = record { port = grind (arith, nat_tests); wave = grind (arith, nat_tests) }

-- A machine with the names of a plan has those of all planned logs.
pub logs-have-names : PlaysAreEvents → LogsHaveNames
logs-have-names events machine plan tape names =
    All-map (λ log. All (IsNamed machine) log) (λ k. log_of (planned_acts plan tape k)) (range_with_len 0 plan.controllers)
    (λ k d within. All-weaker (λ p. has machine p.port p.wave ≡ true) (IsNamed machine) (named machine) _
    (events (has machine) plan tape _ (All-weaker (HasNamesOf machine) (PassesStmt (has machine)) (stmt-passes machine) plan.body names)))
