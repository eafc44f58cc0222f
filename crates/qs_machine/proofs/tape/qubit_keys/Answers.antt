use Rattle.std.proofs.Common.{◌∙◌, ◌++◌, ◌∷◌, [], ap, sym, arith}
use Rattle.std.specs.Prelude.{decimal}
use Rattle.qs_machine.specs.Table.{is_among}
use Rattle.qs_machine.proofs.TapeLemmas.{fresh_key, qubit_keys_more}
use Rattle.qs_machine.proofs.tape.qubit_keys.Goals as goal

pub push-requires : goal.push-requires
push-requires c =
    ap (λ k. is_among k c.loop-qubit.keys) c.format.ensures.text ∙ ap (is_among (decimal c.loop-qubit.qubit)) c.loop-qubit.invariant ∙ fresh_key c.loop-qubit.qubit (omega arith)

pub loop-qubit-preserved : goal.loop-qubit-preserved
loop-qubit-preserved c =
    let qubit = c.loop-qubit.qubit in
    c.in_ok-push.ensures.ok ∙ ap (λ k. c.loop-qubit.keys ++ k ∷ []) c.format.ensures.text ∙ ap (λ ks. ks ++ decimal qubit ∷ []) c.loop-qubit.invariant ∙ sym (qubit_keys_more qubit)
