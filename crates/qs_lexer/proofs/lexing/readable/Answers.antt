use Rattle.qs_lexer.proofs.FaultLemmas.{valid_is_readable}
use Rattle.qs_lexer.proofs.lexing.readable.Goals as goal

pub returns-in-Ok-from_utf8 : goal.returns-in-Ok-from_utf8
returns-in-Ok-from_utf8 c =
    let cut = c.split_at.ensures in
    rw (c.in-Ok-from_utf8.ensures.cases.0, cut.front, cut.back, c.valid_up_to.ensures) (valid_is_readable _ _ c.in-Err.ensures.cases.1)
