use Rattle.plan_tree.proofs.ExampleLemmas.{plan-sound, tape-fits}
use Rattle.plan_tree.proofs.laws.example_is_sound.Goals as goal

pub returns : goal.returns
returns c = record { sound = plan-sound; fits = tape-fits }
