use Rattle.qs_parser.proofs.Deeper.{knot_answered, none_answered}
use Rattle.qs_parser.proofs.knot.answer_at.Goals as goal

pub returns-then-depth-eq0 : goal.returns-then-depth-eq0
returns-then-depth-eq0 c = none_answered c.args.depth c.args.ask c.args.tokens.now c.if-depth-eq0.true

pub returns : goal.returns
returns c = knot_answered c.args.depth c.args.tokens.now c.args.ask c.read.result c.if-depth-eq0.false c.read.ensures
