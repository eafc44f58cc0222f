-- The program's own value of what a call comes to, as the reply that is told. This project's own.
use Rattle.std.specs.Prelude.{ℕ, List, ◌++◌, All, IsSome, Option, Some, None}
use Rattle.plan_tree.specs.Run.{run_of}
use Rattle.plan_tree.specs.Sound.{HasVars}
use Rattle.qs_machine.specs.declared.machine.Machine.{Machine}
use Rattle.controller_core.specs.Core.{CoreState, states_of}
use Rattle.timeline_board.specs.Conditions.{AreNamed, HubHolds}
use Rattle.timeline_board.specs.Order.{logs_of}
use Rattle.timeline_board.specs.Refused.{name_of}
use Rattle.timeline_board.specs.Report.{report_of}
use Rattle.qasm_main.specs.declared.run.Ran.{Ran}
use Rattle.qasm_main.specs.declared.telling.Outcome.{Outcome}
use Rattle.qasm_main.specs.declared.telling.Outcome.TheVariants.{Usage, ReadFailed, Refused, Report}
use Rattle.qasm_main.specs.Answer.{Reply, status_by}
use Rattle.qasm_main.specs.Ran.{ReportsRun, no_tape}
use Rattle.qasm_main.specs.Texts.{counts_line, read_failed, refusal_text, usage}

-- the status of an outcome
abbrev pub status_of : Outcome → ℕ
status_of Usage = 2
status_of (ReadFailed name) = 4
status_of (Refused status refusal) = status
status_of (Report ran machine) = status_by (run_of ran.plan no_tape).ending

-- its text
abbrev pub text_of : Outcome → List ℕ
text_of Usage = usage
text_of (ReadFailed name) = read_failed name.now
text_of (Refused status refusal) = refusal_text refusal
text_of (Report ran machine) = report_of ran.plan machine (run_of ran.plan no_tape) ++ counts_line ran.counts.stepped ran.counts.waited

-- its core
abbrev pub core_of : Outcome → Option CoreState
core_of Usage = None
core_of (ReadFailed name) = None
core_of (Refused status refusal) = None
core_of (Report ran machine) = Some ran.core

-- the reply that an outcome is
abbrev pub reply_of : Outcome → Reply
reply_of outcome = record { status = status_of outcome; text = text_of outcome; core = core_of outcome }

-- A run can be reported on a machine.
pub record IsReportable (ran : Ran) (machine : Machine) : Type 0 where
  pub names : AreNamed machine (logs_of (states_of ran.core))
  pub store : HubHolds ran.plan.vars (states_of ran.core)
  pub outs : All (λ o. HasVars ran.plan.vars o.first o.ty.kind o.ty.width) ran.plan.outs
  pub report : ReportsRun ran.plan no_tape ran.core

-- An outcome has a text.
abbrev pub IsTellable : Outcome → Type 0
IsTellable Usage = Unit {0}
IsTellable (ReadFailed name) = Unit {0}
IsTellable (Refused status refusal) = IsSome (name_of refusal.code)
IsTellable (Report ran machine) = IsReportable ran machine
