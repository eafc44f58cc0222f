use Rattle.std.proofs.Common.{◌∙◌}
use Rattle.library_tests.proofs.ExampleLemmas.{vars-same}
use Rattle.library_tests.proofs.controller_core_tests.make_vars.Goals as goal

pub returns : goal.returns
returns c = c.from_vec.ensures ∙ c.in_ok-vec.ensures.items ∙ vars-same _ _ _ _
