use Rattle.controller_core.proofs.OverLemmas.{once}
use Rattle.controller_core.proofs.laws.runs_once.Goals as goal

pub returns : goal.returns
returns c = once
