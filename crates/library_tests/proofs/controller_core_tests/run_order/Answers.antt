use Rattle.library_tests.proofs.ExampleLemmas.{ready-same}
use Rattle.library_tests.proofs.controller_core_tests.run_order.Goals as goal

pub returns : goal.returns
returns c = ready-same c.args.parts.now c.args.core.now c.run_order.new.self c.requires.ready c.run_order.ensures.over.plan_same
