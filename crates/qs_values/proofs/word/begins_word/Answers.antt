use Rattle.std.proofs.Common.{rules, ◌<◌, arith}
use Rattle.qs_values.proofs.AsciiWords.{begins_word-ascii}
use Rattle.qs_values.proofs.word.begins_word.Goals as goal

pub returns-else-c-ge128 : goal.returns-else-c-ge128
returns-else-c-ge128 c =
    let below : c.args.c < 128 = omega (arith, c.if-c-ge128.false) in
    rw (begins_word-ascii c.args.c below) (search rules)
