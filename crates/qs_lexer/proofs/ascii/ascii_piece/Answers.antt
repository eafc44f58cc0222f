use Rattle.qs_lexer.proofs.AsciiRuns.{pieces_end, reads_end, reads_more}
use Rattle.qs_lexer.proofs.ascii.ascii_piece.Goals as goal

pub returns-in-Nothing : goal.returns-in-Nothing
returns-in-Nothing c =
    let at = c.bytes in
    let on = c.in_ok-next in
    let ends = reads_end c.args.first c.args.bytes.now at.state on.next at.in_line on.is_in_line at.rest.now on.after.now at.invariant on.ensures c.in-Nothing.is in
    pieces_end c.args.first c.args.bytes.now at.state at.in_line on.after.now ends.0 ends.1 _ c.piece_before.ensures

pub bytes-preserved : goal.bytes-preserved
bytes-preserved c =
    let at = c.bytes in
    let on = c.in_ok-next in
    (reads_more c.args.first c.args.bytes.now at.state on.next at.in_line on.is_in_line at.rest.now on.after.now at.invariant on.ensures c.in_default.not-Nothing).0
