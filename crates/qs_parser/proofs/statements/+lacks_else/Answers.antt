use Rattle.qs_parser.proofs.LacksElse.{body_ends}
use Rattle.qs_parser.proofs.statements.+lacks_else.Goals as goal

pub returns-in_default : goal.returns-in_default
returns-in_default t c =
    body_ends c.args.body.now c.in-One.statement c.get.result.now c.in-One.is c.get.ensures c.in_default.not-If c.in_default.not-While c.in_default.not-For
