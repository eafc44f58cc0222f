use Rattle.qs_lexer.proofs.AsciiRuns.{reads_to}
use Rattle.qs_lexer.proofs.numbers.read_to.Goals as goal

pub returns : goal.returns
returns c =
    let on = c.in_ok-next in
    reads_to c.args.first c.args.bytes.now c.args.state on.next c.args.in_line on.is_in_line c.args.rest.now on.after.now c.requires on.ensures
