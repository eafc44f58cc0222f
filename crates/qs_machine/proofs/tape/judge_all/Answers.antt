use Rattle.std.proofs.Common.{◌∙◌, ap, sym, subst, map, Ok, Err}
use Rattle.serde_json.specs.View.{view}
use Rattle.qs_machine.specs.declared.refusal.TapeRefusal.TheVariants.{Memory as OutOfMemory}
use Rattle.qs_machine.specs.Steps.{judged, IsUnlessMemory}
use Rattle.qs_machine.specs.Tapes.{judge}
use Rattle.qs_machine.proofs.EntryLemmas.{seen, judged_next, judged_halt, entries_of-members_view}
use Rattle.qs_machine.proofs.Exits.{left_unless}
use Rattle.qs_machine.proofs.tape.judge_all.Goals as goal

pub loop-key-preserved : goal.loop-key-preserved
loop-key-preserved c =
    let keys = c.args.keys.now in
    let key = c.in-Some.key.now in
    let value = c.in-Some.value.now in
    let passes = subst (λ k. IsUnlessMemory OutOfMemory (judge keys (k, view value)) (Ok tt)) c.as_str.ensures.value c.in_ok-judge.ensures in
    judged_next (judge keys) OutOfMemory _ c.loop-key.key-iterator c.next.new.self (key, value) c.loop-key.invariant c.in-Some.ensures.steps passes

pub returns-in_err-judge : goal.returns-in_err-judge
returns-in_err-judge c =
    let keys = c.args.keys.now in
    let key = c.in-Some.key.now in
    let value = c.in-Some.value.now in
    let refusal = c.in_err-judge.field-0.0 in
    let entries = c.args.entries.now.entries in
    let gives = c.into_iter-key-iterator.ensures.into_iter_gives in
    let whole = ap (judged (judge keys)) (entries_of-members_view entries) ∙ sym (ap (λ it. judged (judge keys) (map seen it)) gives.0) ∙ c.loop-key.invariant in
    let refused = subst (λ k. IsUnlessMemory OutOfMemory (judge keys (k, view value)) (Err refusal)) c.as_str.ensures.value c.in_err-judge.ensures in
    left_unless _ _ refusal _ c.from_residual.ensures.1 (judged_halt (judge keys) OutOfMemory _ c.loop-key.key-iterator c.next.new.self (key, value) refusal whole c.in-Some.ensures.steps refused)

pub returns : goal.returns
returns c =
    let keys = c.args.keys.now in
    let entries = c.args.entries.now.entries in
    let gives = c.into_iter-key-iterator.ensures.into_iter_gives in
    let whole = ap (judged (judge keys)) (entries_of-members_view entries) ∙ sym (ap (λ it. judged (judge keys) (map seen it)) gives.0) ∙ c.loop-key.invariant in
    sym (whole ∙ ap (λ it. judged (judge keys) (map seen it)) c.in-None.ensures.steps.0)
