use Rattle.qs_lexer.proofs.Powers.{power_at}
use Rattle.qs_lexer.proofs.value.power_of_ten.Goals as goal

pub returns : goal.returns
returns c = power_at c.args.up c.requires
