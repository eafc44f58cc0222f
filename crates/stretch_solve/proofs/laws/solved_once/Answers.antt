use Rattle.stretch_solve.proofs.OnceLemmas.{once}
use Rattle.stretch_solve.proofs.laws.solved_once.Goals as goal

pub returns : goal.returns
returns c = once
