use Rattle.std.proofs.Common.{true, false, ◌&&◌}
use Rattle.qs_lexer.specs.declared.state.Base.TheVariants.{Hexadecimal}
use Rattle.qs_lexer.specs.declared.state.State.TheVariants.{Based}
use Rattle.qs_lexer.proofs.AsciiRuns.{based_reads, pieces_end, reads_end}
use Rattle.qs_lexer.proofs.numbers.from_hexadecimal.Goals as goal

pub returns-in-Nothing : goal.returns-in-Nothing
returns-in-Nothing c =
    let at = c.groups in
    let on = c.in_ok-digit in
    let then = c.in_ok-next in
    let read = based_reads c.args.first c.args.bytes.now false true on.digit at.line on.digit_line at.ahead.now on.digits.now at.invariant on.ensures c.if-not-ends_in_digit.ensures in
    let ends = reads_end c.args.first c.args.bytes.now (Based Hexadecimal true) then.next (at.line && on.digit_line) then.next_line on.digits.now then.after.now read then.ensures c.in-Nothing.is in
    pieces_end c.args.first c.args.bytes.now (Based Hexadecimal true) (at.line && on.digit_line) then.after.now ends.0 ends.1 _ c.piece_before.ensures

pub groups-preserved : goal.groups-preserved
groups-preserved c =
    let at = c.groups in
    let on = c.in_ok-digit in
    let then = c.in_ok-next in
    let read = based_reads c.args.first c.args.bytes.now false true on.digit at.line on.digit_line at.ahead.now on.digits.now at.invariant on.ensures c.if-not-ends_in_digit.ensures in
    based_reads c.args.first c.args.bytes.now true false then.next (at.line && on.digit_line) then.next_line on.digits.now then.after.now read then.ensures c.if-not-ends_in_line.ensures
