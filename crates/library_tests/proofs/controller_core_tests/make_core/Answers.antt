use Rattle.library_tests.proofs.controller_core_tests.make_core.Goals as goal

pub new-requires-clause-sound : goal.new-requires-clause-sound
new-requires-clause-sound c = rw c.in_ok-plan.ensures c.example_is_sound.ensures.sound
