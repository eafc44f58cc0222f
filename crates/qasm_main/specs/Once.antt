-- What a source has one of: a plan or a refusal, and an answer; and what every order of picks has: the report of the undivided run. This project's own.
use Rattle.std.specs.Prelude.{◌≡◌, ℕ, ◌≤◌, List}
use Rattle.qs_values.specs.declared.refusal.Refusal.{Refusal}
use Rattle.qs_values.specs.declared.tape.Tape.{Tape}
use Rattle.plan_tree.specs.declared.plan.Plan.{Plan}
use Rattle.plan_tree.specs.Sound.{Fits, IsSound}
use Rattle.qs_machine.specs.declared.machine.Machine.{Machine}
use Rattle.controller_core.specs.Core.{CoreState, Runs, start_core}
use Rattle.qasm_main.specs.Answer.{Reply, StepsSource}
use Rattle.qasm_main.specs.Ran.{ReportsRun}
use Rattle.qasm_main.specs.front.Compile.{IsCompiled, IsRefused}

-- A source has at most one plan on a machine.
abbrev pub PlanOnce : Type 0
PlanOnce = (source : List ℕ) (machine : Machine) (plan other : Plan) → IsCompiled source machine plan → IsCompiled source machine other → plan ≡ other

-- A source that has a plan isn't refused.
abbrev pub NoRefusalBesidePlan : Type 0
NoRefusalBesidePlan = (source : List ℕ) (machine : Machine) (plan : Plan) (refusal : Refusal) → IsCompiled source machine plan → ¬ (IsRefused source machine refusal)

-- A source has at most one refusal on a machine.
abbrev pub RefusedOnce : Type 0
RefusedOnce = (source : List ℕ) (machine : Machine) (refusal other : Refusal) → IsRefused source machine refusal → IsRefused source machine other → refusal ≡ other

-- A source has at most one answer on a machine.
abbrev pub AnsweredOnce : Type 0
AnsweredOnce = (machine : Machine) (source : List ℕ) (reply other : Reply) → StepsSource machine source reply → StepsSource machine source other → reply ≡ other

-- Whatever the order of picks, the merged logs with the hub give the report of the undivided run.
abbrev pub EveryOrderReports : Type 0
EveryOrderReports = (plan : Plan) (tape : Tape) (mail : ℕ) (order : List ℕ) (core : CoreState) (stepped waited : ℕ) →
    IsSound plan → Fits plan tape → 1 ≤ mail → mail ≤ 64 → Runs order (start_core plan tape mail) core stepped waited → ReportsRun plan tape core
