use Rattle.std.proofs.Common.{◌≤◌, length, true, sym, refl, arith, ap, inl, length-append, subst}
use Rattle.std.proofs.lemmas.Str.{chars-nil}
use Rattle.qs_lexer.specs.Cut.{start}
use Rattle.qs_lexer.specs.Lexed.{longest_source}
use Rattle.qs_lexer.specs.declared.refusal.LexRefusal.TheVariants.{NotUtf8}
use Rattle.qs_lexer.proofs.FaultLemmas.{all_cut, fails, next_fails}
use Rattle.qs_lexer.proofs.FrontLemmas.{IsFront, front_more, no_front}
use Rattle.qs_lexer.proofs.TextLemmas.{empty_if, some_if}
use Rattle.qs_lexer.proofs.lexing.lex.Goals as goal

pub loop-rest-init : goal.loop-rest-init
loop-rest-init c =
    let read = c.readable.ensures in
    let text = c.readable.result.0.now in
    let short : length text ≤ longest_source = omega (arith, ap length read.whole, length-append text c.readable.result.1.now) in
    subst (IsFront text text start true) (sym c.new-tokens.ensures) (no_front text read.utf8 short)

pub take_next-requires-clause-some : goal.take_next-requires-clause-some
take_next-requires-clause-some c = some_if _ c.loop-rest-test.ensures

pub returns-in-Err : goal.returns-in-Err
returns-in-Err c = next_fails c.readable.ensures c.loop-rest.invariant c.in-Err.refusal c.in-Err.ensures

pub loop-rest-preserved : goal.loop-rest-preserved
loop-rest-preserved c =
    let took = c.in-Ok.ensures in
    rw took.next (front_more _ _ _ _ _ _ _ _ _ _ c.loop-rest.invariant took.begins took.ends took.adds)

pub returns-then-is_empty : goal.returns-then-is_empty
returns-then-is_empty c = all_cut c.readable.ensures c.loop-rest.invariant (empty_if _ c.loop-rest-test.ensures) (empty_if _ c.if-is_empty.ensures)

pub returns-else-is_empty : goal.returns-else-is_empty
returns-else-is_empty c =
    let ended = empty_if _ c.loop-rest-test.ensures in
    fails c.readable.ensures c.loop-rest.invariant (NotUtf8 c.loop-rest.place) (some_if _ c.if-is_empty.ensures, inl (rw ended chars-nil, refl))
