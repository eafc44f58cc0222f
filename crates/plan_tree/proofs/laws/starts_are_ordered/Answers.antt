use Rattle.plan_tree.proofs.StartLemmas.{start-total}
use Rattle.plan_tree.proofs.laws.starts_are_ordered.Goals as goal

pub returns : goal.returns
returns c = start-total
