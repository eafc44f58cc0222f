use Rattle.qs_lexer.proofs.AsciiRuns.{past_one}
use Rattle.qs_lexer.proofs.ascii.past_each.Goals as goal

pub loop-byte-preserved : goal.loop-byte-preserved
loop-byte-preserved c = λ rest past.
    c.loop-byte.invariant rest
    (past_one c.args.state c.in-Some.byte.now c.loop-byte.rest.now c.in-Some.after.now rest c.in-Some.ensures.cases.0 c.if-not-stays_with.ensures past)
