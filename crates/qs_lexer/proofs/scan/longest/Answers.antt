use Rattle.std.proofs.Common.{ap, sym, ◌∙◌, None, Some, []}
use Rattle.std.specs.Str.{chars}
use Rattle.std.proofs.lemmas.Str.{IsUtf8-nil}
use Rattle.std.specs.Str.Iter.{chars_rest}
use Rattle.qs_lexer.specs.declared.state.State.TheVariants.{Start}
use Rattle.qs_lexer.specs.steps.Scan.{longest_from, shape_before}
use Rattle.qs_lexer.proofs.ReaderLemmas.{read_next, read_more, read_no_more, length_of_ahead, nothing_before, still_behind, next_of_ahead}
use Rattle.qs_lexer.proofs.scan.longest.Goals as goal

pub returns-in-Nothing-clause-value : goal.returns-in-Nothing-clause-value
returns-in-Nothing-clause-value c =
    read_no_more _ _ _ _ _ _ _ c.in-Some.is c.loop-next.invariant.value c.step-state.ensures c.in-Nothing.is

pub returns-in_default-clause-value : goal.returns-in_default-clause-value
returns-in_default-clause-value c = rw c.in_default.is at c.loop-next.invariant.value

pub loop-next-smaller-in-Some-shape_before : goal.loop-next-smaller-in-Some-shape_before
loop-next-smaller-in-Some-shape_before c =
    length_of_ahead _ _ _ _ c.in-Some.is (read_next _ _ _ c.loop-next.invariant.ahead.2 c.next-next-in-Some.ensures.steps)

pub loop-next-smaller : goal.loop-next-smaller
loop-next-smaller c =
    length_of_ahead _ _ _ _ c.in-Some.is (read_next _ _ _ c.loop-next.invariant.ahead.2 c.next-next-in-Some.ensures.steps)

pub loop-next-preserved : goal.loop-next-preserved
loop-next-preserved c =
    let read = read_next _ _ _ c.loop-next.invariant.ahead.2 c.next-next-in-Some.ensures.steps in
    let before = ap (shape_before c.step-state.result) (sym (next_of_ahead c.next-next-in-Some.result (chars (chars_rest c.next-next-in-Some.new.self)))) in
    let none = sym c.in_default-shape_before.is ∙ c.shape_before.ensures ∙ before in
    record {
      value = read_more _ _ _ _ _ _ None _ _ c.in-Some.is c.loop-next.invariant.value c.step-state.ensures read none;
      behind = c.loop-next.invariant.behind;
      ahead = still_behind _ _ _ _ c.loop-next.invariant.ahead c.next-next-in-Some.ensures.steps;
    }

pub loop-next-preserved-in-Some-shape_before : goal.loop-next-preserved-in-Some-shape_before
loop-next-preserved-in-Some-shape_before c =
    let read = read_next _ _ _ c.loop-next.invariant.ahead.2 c.next-next-in-Some.ensures.steps in
    let before = ap (shape_before c.step-state.result) (sym (next_of_ahead c.next-next-in-Some.result (chars (chars_rest c.next-next-in-Some.new.self)))) in
    let some = sym c.in-Some-shape_before.is ∙ c.shape_before.ensures ∙ before in
    record {
      value = rw (c.as_str-behind.ensures, read) (read_more _ _ _ _ _ _ (Some c.in-Some-shape_before.shape) _ _ c.in-Some.is c.loop-next.invariant.value c.step-state.ensures read some);
      behind = rw c.as_str-behind.ensures c.loop-next.invariant.ahead;
      ahead = still_behind _ _ _ _ c.loop-next.invariant.ahead c.next-next-in-Some.ensures.steps;
    }

pub loop-next-init : goal.loop-next-init
loop-next-init c =
    let rest = c.chars-ahead.ensures.rest in
    let utf8 = rw (← rest) at c.utf8.text in
    let read = read_next _ _ _ utf8 c.next-next.ensures.steps in
    let value = ap (longest_from (Start c.args.first)) (sym read ∙ ap chars rest) in
    record {
      value = nothing_before _ ∙ value;
      behind = tt;
      ahead = still_behind _ _ _ _ ([], IsUtf8-nil, utf8, sym rest) c.next-next.ensures.steps;
    }
