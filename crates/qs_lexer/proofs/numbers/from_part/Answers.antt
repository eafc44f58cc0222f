use Rattle.std.proofs.Common.{true}
use Rattle.qs_lexer.specs.declared.state.State.TheVariants.{Part}
use Rattle.qs_lexer.proofs.AsciiRuns.{to_end}
use Rattle.qs_lexer.proofs.numbers.from_part.Goals as goal

pub returns-in-Nothing : goal.returns-in-Nothing
returns-in-Nothing c =
    let on = c.in_ok-next in
    to_end c.args.first c.args.bytes.now (Part true) on.next c.args.in_line on.line on.after.now on.ensures c.in-Nothing.is _ c.piece_before.ensures
