-- What a run that is over gives: the report of the undivided run.
use Rattle.std.proofs.Common.{ℕ, ap, subst}
use Rattle.std.specs.Prelude.{IsSomeAnd}
use Rattle.qs_values.specs.declared.tape.Tape.{Tape}
use Rattle.plan_tree.specs.declared.plan.Plan.{Plan}
use Rattle.plan_tree.specs.Sound.{IsSound}
use Rattle.controller_machine.specs.Ctl.{CtlState, ending_in, shown_of, tick_in}
use Rattle.controller_machine.specs.Last.{IsLast}
use Rattle.controller_core.specs.Core.{CoreState}
use Rattle.controller_core.specs.Reached.{EndsRun, IsOver}
use Rattle.timeline_board.specs.Order.{IsMerge}
use Rattle.timeline_board.specs.Report.{ReportIsRun}
use Rattle.qasm_main.specs.Ran.{ReportsRun}

-- A hub that has ended as the run has shows its last state.
ends-shown : (plan : Plan) (tape : Tape) (hub : CtlState) → EndsRun plan tape hub → IsLast plan tape (shown_of hub)
ends-shown plan tape hub last = record { tick = ap tick_in last.stand; store = last.store; ending = ap ending_in last.stand }

-- A run that is over gives the report of the undivided run.
pub reports-run : ReportIsRun → (plan : Plan) (tape : Tape) (mail : ℕ) (core : CoreState) → IsSound plan → IsOver plan tape mail core → ReportsRun plan tape core
reports-run is_run plan tape mail core sound over machine entries hub merged at =
    let last : EndsRun plan tape hub = subst (λ first. IsSomeAnd first (EndsRun plan tape)) at over.hub in
    is_run plan tape machine entries (shown_of hub) sound (subst (IsMerge entries) over.logs merged) (ends-shown plan tape hub last)
