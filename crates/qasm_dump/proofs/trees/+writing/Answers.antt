use Rattle.std.proofs.Common.{List, ℕ, ◌≡◌, ◌++◌, ◌∙◌, ap, codes, map, sym}
use Rattle.std.proofs.lemmas.Result.{on_ok_weaker}
use Rattle.qasm_dump.specs.Trees.{ident, in_braces, place, write_item, write_kind, write_stmt}
use Rattle.qasm_dump.proofs.Written.{written-DurationOf, written-ExternFrame, written-ExternWaveform}
use Rattle.qasm_dump.proofs.trees.+writing.Goals as goal

pub put_item-returns-in_ok-put_ident-in-ExternFrame : goal.put_item-returns-in_ok-put_ident-in-ExternFrame
put_item-returns-in_ok-put_ident-in-ExternFrame t c =
    let before = c.args.out.now.items in
    let named = c.in_ok-put_ident-in-ExternFrame.ensures ∙ ap (ident c.in-ExternFrame.name) (c.in_ok-put-in-ExternFrame.ensures ∙ ap (λ (w : List ℕ). w ++ codes "extern frame ") c.in_ok-put_place-in-ExternFrame.ensures) in
    on_ok_weaker c.put-in-ExternFrame-2.result
    (λ e. e ∙ ap (λ (w : List ℕ). w ++ codes ";") named ∙ sym (ap (λ part. write_item part before) c.in-ExternFrame.is ∙ written-ExternFrame c.in-ExternFrame.span c.in-ExternFrame.name before))
    c.put-in-ExternFrame-2.ensures

pub put_item-returns-in_ok-put_ident-in-ExternWaveform : goal.put_item-returns-in_ok-put_ident-in-ExternWaveform
put_item-returns-in_ok-put_ident-in-ExternWaveform t c =
    let before = c.args.out.now.items in
    let named = c.in_ok-put_ident-in-ExternWaveform.ensures ∙ ap (ident c.in-ExternWaveform.name) (c.in_ok-put-in-ExternWaveform.ensures ∙ ap (λ (w : List ℕ). w ++ codes "extern waveform ") c.in_ok-put_place-in-ExternWaveform.ensures) in
    on_ok_weaker c.put-in-ExternWaveform-2.result
    (λ e. e ∙ ap (λ (w : List ℕ). w ++ codes ";") named ∙ sym (ap (λ part. write_item part before) c.in-ExternWaveform.is ∙ written-ExternWaveform c.in-ExternWaveform.span c.in-ExternWaveform.name before))
    c.put-in-ExternWaveform-2.ensures

pub put_kind-returns-in_ok-put_block-in-DurationOf : goal.put_kind-returns-in_ok-put_block-in-DurationOf
put_kind-returns-in_ok-put_block-in-DurationOf t c =
    let before = c.args.out.now.items in
    let block = c.in_ok-put_block-in-DurationOf.ensures ∙ ap (in_braces (map write_stmt c.as_slice-in-DurationOf.result.now)) c.in_ok-put-in-DurationOf.ensures in
    let body : c.as_slice-in-DurationOf.result.now ≡ c.in-DurationOf.body = c.as_slice-in-DurationOf.ensures in
    on_ok_weaker c.put-in-DurationOf-2.result
    (λ e. e ∙ ap (λ (w : List ℕ). w ++ codes ")") (block ∙ ap (λ stmts. in_braces (map write_stmt stmts) (before ++ codes "durationof(")) body) ∙ sym (ap (λ part. write_kind part before) c.in-DurationOf.is ∙ written-DurationOf c.in-DurationOf.body before))
    c.put-in-DurationOf-2.ensures
