use Rattle.std.proofs.Common.{◌∙◌}
use Rattle.library_tests.proofs.ExampleLemmas.{inputs-same}
use Rattle.library_tests.proofs.controller_core_tests.make_inputs.Goals as goal

pub returns : goal.returns
returns c = c.from_vec.ensures ∙ c.in_ok-vec.ensures.items ∙ inputs-same _ _ _ _ c.in_ok-copy_of.ensures c.in_ok-copy_of-2.ensures
