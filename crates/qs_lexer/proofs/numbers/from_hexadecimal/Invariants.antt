use Rattle.std.proofs.Common.{length, false}
use Rattle.qs_lexer.specs.declared.state.Base.TheVariants.{Hexadecimal}
use Rattle.qs_lexer.specs.declared.state.State.TheVariants.{Based}
use Rattle.qs_lexer.specs.steps.Runs.{IsRead}
use Rattle.qs_lexer.proofs.numbers.from_hexadecimal.Given as goal

abbrev pub invariant-groups : goal.invariant-groups
invariant-groups l = IsRead l.first l.fn.bytes (Based Hexadecimal false) l.line l.ahead

abbrev pub decreases-groups : goal.decreases-groups
decreases-groups l = length l.ahead
