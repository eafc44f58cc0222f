use Rattle.qs_parser.proofs.Deeper.{none_answered, some_answered}
use Rattle.qs_parser.proofs.below.Below.answer.Goals as goal

pub returns-then-self-eq0 : goal.returns-then-self-eq0
returns-then-self-eq0 g c = none_answered c.args.self.now.depth c.args.ask c.args.self.now.tokens.now c.if-self-eq0.true

pub returns : goal.returns
returns g c = some_answered _ c.args.self.now.depth c.args.self.now.tokens.now c.args.ask c.read.result c.requires.exact c.if-self-eq0.false c.read.ensures
