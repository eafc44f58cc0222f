use Rattle.std.proofs.Common.{◌≡◌, arith, sym}
use Rattle.qs_lexer.proofs.AsciiRuns.{qubit_read}
use Rattle.qs_lexer.proofs.ascii.physical.Goals as goal

pub run_to_end-requires : goal.run_to_end-requires
run_to_end-requires c =
    let dollar : c.in_ok-dollar.dollar.now ≡ 36 = omega (arith, c.if-dollar-ne36.false) in
    qubit_read c.args.first c.args.bytes.now c.in_ok-dollar.after.now c.in_ok-digit.rest.now c.in_ok-dollar.dollar.now c.in_ok-digit.digit.now c.in_ok-dollar.ensures.cases.0 c.in_ok-digit.ensures.cases.0 dollar (sym c.if-not-is_ascii_digit.ensures.value)
