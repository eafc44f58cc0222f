use Rattle.std.proofs.Common.{arith}
use Rattle.std.specs.Str.{chars}
use Rattle.qs_lexer.specs.Values.{scaled}
use Rattle.qs_lexer.proofs.WideCuts.{wide_cut}
use Rattle.qs_lexer.proofs.value.scaled_cut.Goals as goal

pub returns-then-value-eq-CAP : goal.returns-then-value-eq-CAP
returns-then-value-eq-CAP c = wide_cut (scaled (chars c.args.text.now)) (omega (arith, c.if-value-eq-CAP.true, c.scaled-value.ensures))
