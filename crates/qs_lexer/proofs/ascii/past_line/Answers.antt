use Rattle.qs_lexer.specs.declared.state.State.TheVariants.{Line}
use Rattle.qs_lexer.proofs.AsciiRuns.{past_more, past_one}
use Rattle.qs_lexer.proofs.ascii.past_line.Goals as goal

pub loop-byte-preserved : goal.loop-byte-preserved
loop-byte-preserved c = λ rest past.
    c.loop-byte.invariant rest
    (past_one Line c.in-Some.byte.now c.loop-byte.rest.now c.in-Some.after.now rest c.in-Some.ensures.cases.0 c.if-not-stays_with.ensures
    (past_more Line c.in-Some.after.now c.past_printed-rest-in-Some.result.now rest c.past_printed-rest-in-Some.ensures past))

pub loop-byte-init : goal.loop-byte-init
loop-byte-init c = λ rest past. past_more Line c.args.bytes.now c.past_printed-rest.result.now rest c.past_printed-rest.ensures past
