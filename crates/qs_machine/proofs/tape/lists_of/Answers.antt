use Rattle.std.proofs.Common.{◌∙◌, ◌++◌, ◌∷◌, [], map, ap, sym}
use Rattle.std.specs.Prelude.{decimal}
use Rattle.serde_json.specs.View.{view}
use Rattle.qs_machine.specs.Tapes.{list_of, qubit_keys}
use Rattle.qs_machine.proofs.NameLemmas.{map-append}
use Rattle.qs_machine.proofs.TapeLemmas.{qubit_keys_more}
use Rattle.qs_machine.proofs.tape.lists_of.Goals as goal

pub loop-qubit-preserved : goal.loop-qubit-preserved
loop-qubit-preserved c =
    let list = list_of (view c.args.tape.now) in
    let qubit = c.loop-qubit.qubit in
    c.in_ok-push.ensures.ok
    ∙ ap (λ ls. ls ++ c.in_ok-list.list ∷ []) c.loop-qubit.invariant
    ∙ ap (λ l. map list (qubit_keys qubit) ++ l ∷ []) (c.in_ok-list.ensures ∙ ap list c.format.ensures.text)
    ∙ sym (map-append list (qubit_keys qubit) (decimal qubit ∷ []))
    ∙ sym (ap (map list) (qubit_keys_more qubit))
