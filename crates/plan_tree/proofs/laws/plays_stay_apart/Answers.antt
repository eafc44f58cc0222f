use Rattle.plan_tree.proofs.DeedLemmas.{apart-plays}
use Rattle.plan_tree.proofs.laws.plays_stay_apart.Goals as goal

pub returns : goal.returns
returns c = apart-plays
