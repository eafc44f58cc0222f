use Rattle.qs_const.proofs.OneJudgement.{comes_to_one}
use Rattle.qs_const.proofs.laws.comes_to_one.Goals as goal

pub returns : goal.returns
returns c = comes_to_one
