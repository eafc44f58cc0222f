use Rattle.std.proofs.Common.{refl}
use Rattle.qs_const.proofs.judging.plain_number.Goals as goal

pub returns : goal.returns
returns c = (record { plain = c.args.plain; pi = c.whole.result }, refl, c.whole.ensures.num, refl)
