use Rattle.std.proofs.Common.{◌≡◌}
use Rattle.qs_lexer.specs.declared.state.State.TheVariants.{Line}
use Rattle.qs_lexer.proofs.AsciiRuns.{past_nothing, past_one}
use Rattle.qs_lexer.proofs.ascii.past_printed.Goals as goal

pub returns-in_default-split_first : goal.returns-in_default-split_first
returns-in_default-split_first c =
    c.loop-byte.invariant c.in-Some.after.now
    (past_one Line c.in-Some.byte.now c.loop-byte.rest.now c.in-Some.after.now c.in-Some.after.now c.in-Some.ensures.cases.0 c.if-not-is_printed.ensures (past_nothing Line c.in-Some.after.now))

pub returns-then-not-is_printed-2 : goal.returns-then-not-is_printed-2
returns-then-not-is_printed-2 c =
    c.loop-byte.invariant c.in-Some.after.now
    (past_one Line c.in-Some.byte.now c.loop-byte.rest.now c.in-Some.after.now c.in-Some.after.now c.in-Some.ensures.cases.0 c.if-not-is_printed.ensures (past_nothing Line c.in-Some.after.now))

pub loop-byte-preserved : goal.loop-byte-preserved
loop-byte-preserved c = λ rest past.
    c.loop-byte.invariant rest
    (past_one Line c.in-Some.byte.now c.loop-byte.rest.now c.in-Some.after.now rest c.in-Some.ensures.cases.0 c.if-not-is_printed.ensures
    (past_one Line c.in-Some-split_first.second.now c.in-Some.after.now c.in-Some-split_first.behind.now rest c.in-Some-split_first.ensures.cases.0 c.if-not-is_printed-2.ensures past))
