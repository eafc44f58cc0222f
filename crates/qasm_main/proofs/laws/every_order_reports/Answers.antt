use Rattle.qasm_main.proofs.OnceLemmas.{every-order-reports}
use Rattle.qasm_main.proofs.laws.every_order_reports.Goals as goal

pub returns : goal.returns
returns c = every-order-reports c.every_order_is_the_run.ensures c.report_is_run.ensures
