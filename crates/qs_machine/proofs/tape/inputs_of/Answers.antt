use Rattle.std.proofs.Common.{◌∙◌, ◌∷◌, ◌+◌, ◌++◌, [], ap, sym, subst, drop, take}
use Rattle.std.proofs.lemmas.List.{drop_more, take_more}
use Rattle.serde_json.specs.View.{view}
use Rattle.qs_machine.specs.declared.refusal.TapeRefusal.TheVariants.{Memory as OutOfMemory}
use Rattle.qs_machine.specs.Limits.{AreValues}
use Rattle.qs_machine.specs.Tapes.{input_of}
use Rattle.qs_machine.proofs.Exits.{left_unless}
use Rattle.qs_machine.proofs.Loops.{first_grow, first_halt}
use Rattle.qs_machine.proofs.TapeKept.{values_push}
use Rattle.qs_machine.proofs.tape.inputs_of.Goals as goal

pub loop-input-preserved : goal.loop-input-preserved
loop-input-preserved c =
    let inputs = c.args.inputs.now in
    let i = c.loop-input.input-index in
    let input = c.input-item.result in
    let is = drop_more inputs i input c.loop-input-test.true ∙ ap (λ x. x ∷ drop (i + 1) inputs) (sym c.input-item.is) in
    let longer = c.in_ok-push.ensures.ok in
    let one : AreValues (take (i + 1) inputs) (c.loop-input.values ++ c.in_ok-value.value ∷ []) =
    subst (λ is. AreValues is (c.loop-input.values ++ c.in_ok-value.value ∷ [])) (sym (take_more inputs i input c.loop-input-test.true ∙ ap (λ x. take i inputs ++ x ∷ []) (sym c.input-item.is)))
    (values_push (take i inputs) c.loop-input.values input c.in_ok-value.value c.loop-input.invariant.fit c.in_ok-value.ensures.fits) in
    record {
      reads = first_grow (input_of (view c.args.tape.now)) OutOfMemory _ c.loop-input.values _ _ _ input c.in_ok-value.value c.loop-input.invariant.reads is (c.in_ok-value.ensures.value c.loop-input.values) longer;
      fit = subst (AreValues (take (i + 1) inputs)) (sym longer) one;
    }

pub returns-in_err-value-clause-value : goal.returns-in_err-value-clause-value
returns-in_err-value-clause-value c =
    let inputs = c.args.inputs.now in
    let i = c.loop-input.input-index in
    let input = c.input-item.result in
    let is = drop_more inputs i input c.loop-input-test.true ∙ ap (λ x. x ∷ drop (i + 1) inputs) (sym c.input-item.is) in
    left_unless _ _ c.in_err-value.field-0.0 _ c.from_residual.ensures.1
    (first_halt (input_of (view c.args.tape.now)) OutOfMemory _ c.loop-input.values _ _ input c.in_err-value.field-0.0 c.loop-input.invariant.reads is (c.in_err-value.ensures.value c.loop-input.values))
