use Rattle.std.specs.Prelude.{Err, Ok}
use Rattle.qs_lexer.proofs.Decimals.{lowest_scaled, quotient_of_words, wide_scaled}
use Rattle.qs_lexer.proofs.value.uncut.Goals as goal

pub returns-in-Ok : goal.returns-in-Ok
returns-in-Ok c =
    let number = c.in-Ok.number in
    let is = quotient_of_words c.args.value c.power_of_ten.result c.args.decimals (Ok number) c.requires.value c.requires.decimals c.power_of_ten.ensures c.in-Ok.ensures in
    lowest_scaled c.args.value c.args.decimals number.num number.den c.requires.decimals is.1

pub returns-in-Err : goal.returns-in-Err
returns-in-Err c =
    let refusal = c.in-Err.field-0 in
    wide_scaled c.args.value c.args.decimals refusal c.requires.decimals (quotient_of_words c.args.value c.power_of_ten.result c.args.decimals (Err refusal) c.requires.value c.requires.decimals c.power_of_ten.ensures c.in-Err.ensures)
