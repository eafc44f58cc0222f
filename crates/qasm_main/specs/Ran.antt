-- Runs by picks, in any order. This project's own.
use Rattle.std.specs.Prelude.{◌≡◌, ℕ, List, [], slice_get, Some}
use Rattle.qs_values.specs.declared.tape.Tape.{Tape}
use Rattle.plan_tree.specs.declared.plan.Plan.{Plan}
use Rattle.plan_tree.specs.Run.{run_of}
use Rattle.qs_machine.specs.declared.machine.Machine.{Machine}
use Rattle.controller_machine.specs.declared.ctl.Played.{Played}
use Rattle.controller_machine.specs.Ctl.{CtlState, shown_of}
use Rattle.controller_core.specs.Core.{CoreState, Runs, start_core, states_of}
use Rattle.controller_core.specs.Reached.{IsOver}
use Rattle.timeline_board.specs.Order.{IsMerge, logs_of}
use Rattle.timeline_board.specs.Report.{report_of, report_text}
use Rattle.qasm_main.specs.declared.run.Ran.{Ran}

-- a tape that tells nothing
abbrev pub no_tape : Tape
no_tape = record { bits = []; inputs = [] }

-- On every machine the merged logs of a core's controllers, with what its hub shows, give the report of the undivided run.
abbrev pub ReportsRun : Plan → Tape → CoreState → Type 0
ReportsRun plan tape core = (machine : Machine) (entries : List Played) (hub : CtlState)
    → IsMerge entries (logs_of (states_of core)) → slice_get (states_of core) 0 ≡ Some hub
    → report_text plan machine entries (shown_of hub) ≡ report_of plan machine (run_of plan tape)

-- A plan was run by the picks of an order and then by sweeps until all controllers had ended. Each has then made all of its planned acts, and together they give the report of the undivided run.
pub record IsRunBy (plan : Plan) (tape : Tape) (mail : ℕ) (order : List ℕ) (ran : Ran) : Type 0 where
  pub same : ran.plan ≡ plan
  pub runs : Runs order (start_core plan tape mail) ran.core ran.counts.stepped ran.counts.waited
  pub over : IsOver plan tape mail ran.core
  pub report : ReportsRun plan tape ran.core
