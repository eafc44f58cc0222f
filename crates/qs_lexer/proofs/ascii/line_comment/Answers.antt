use Rattle.std.proofs.Common.{◌≡◌, arith}
use Rattle.qs_lexer.proofs.AsciiRuns.{slashes_read}
use Rattle.qs_lexer.proofs.ascii.line_comment.Goals as goal

pub run_to_end-requires : goal.run_to_end-requires
run_to_end-requires c =
    let slash : c.in_ok-slash.slash.now ≡ 47 = omega (arith, c.if-slash-ne47.false) in
    let second : c.in_ok-second.second.now ≡ 47 = omega (arith, c.if-second-ne47.false) in
    slashes_read c.args.first c.args.bytes.now c.in_ok-slash.after.now c.in_ok-second.rest.now c.in_ok-slash.slash.now c.in_ok-second.second.now c.in_ok-slash.ensures.cases.0 c.in_ok-second.ensures.cases.0 slash second
