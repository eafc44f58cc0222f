use Rattle.std.proofs.Common.{refl, subst}
use Rattle.controller_core.specs.Core.{CoreState, Runs}
use Rattle.controller_core.specs.Reached.{IsOver}
use Rattle.qasm_main.proofs.RunLemmas.{reports-run}
use Rattle.qasm_main.proofs.run.run.Goals as goal

pub returns : goal.returns
returns c =
    let started = c.in_ok-core.ensures.start in
    let core = c.run_order-counts.new.self in
    let counts = c.run_order-counts.result in
    let over = subst (λ (start : CoreState). IsOver start.plan start.tape start.mail core) started c.run_order-counts.ensures.over in
    record {
      same = refl;
      runs = subst (λ start. Runs c.args.order.now start core counts.stepped counts.waited) started c.run_order-counts.ensures.runs;
      over = over;
      report = reports-run c.report_is_run.ensures c.args.plan c.args.tape.now c.args.mail core c.requires.sound over;
    }
