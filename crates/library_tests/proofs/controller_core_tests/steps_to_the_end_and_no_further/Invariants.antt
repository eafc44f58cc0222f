use Rattle.library_tests.specs.Ready.{IsReady}
use Rattle.library_tests.proofs.controller_core_tests.steps_to_the_end_and_no_further.Given as goal

abbrev pub invariant-loop-k : goal.invariant-loop-k
invariant-loop-k g l = IsReady l.parts-inside.held.items l.core
