use Rattle.std.proofs.Common.{true}
use Rattle.qs_lexer.proofs.AsciiRuns.{pieces_end, reads_end}
use Rattle.qs_lexer.proofs.ascii.run_to_end.Goals as goal

pub returns-in-Nothing-default-default : goal.returns-in-Nothing-default-default
returns-in-Nothing-default-default c =
    let on = c.in_ok-after.field-0 in
    let ends = reads_end c.args.first c.args.bytes.now c.args.state on.0 true on.2 c.args.rest.now on.1.now c.requires c.in_ok-after.ensures c.in-Nothing-default-default.is-0 in
    pieces_end c.args.first c.args.bytes.now c.args.state true on.1.now ends.0 ends.1 _ c.piece_before.ensures
