use Rattle.qs_lexer.proofs.AsciiRuns.{word_ends}
use Rattle.qs_lexer.proofs.ascii.plain_word.Goals as goal

pub returns-in-Nothing-default-default : goal.returns-in-Nothing-default-default
returns-in-Nothing-default-default c =
    let at = c.in_ok-byte in
    let on = c.in_ok-rest.field-0 in
    word_ends c.args.first c.args.bytes.now at.byte.now at.after.now on.1.now on.0 on.2 at.ensures.cases.0 c.if-not-begins_only_word.ensures c.in_ok-rest.ensures c.in-Nothing-default-default.is-0
