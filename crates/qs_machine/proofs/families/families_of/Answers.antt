use Rattle.std.proofs.Common.{◌∙◌, [], ◌++◌, map, subst, sym, ap, append-nil, string_bytes, Ok, Err}
use Rattle.serde_json.specs.View.{view, members_view}
use Rattle.serde_json.specs.Find.{get}
use Rattle.qs_machine.specs.declared.refusal.MachineRefusal.TheVariants.{Memory as OutOfMemory}
use Rattle.qs_machine.specs.Limits.{AreInByteOrder}
use Rattle.qs_machine.specs.Steps.{in_order, IsUnlessMemory}
use Rattle.qs_machine.specs.Table.{family_of}
use Rattle.qs_machine.proofs.EntryLemmas.{seen, no_names_in_order, keys_in_order, entries_grow, entries_halt, order_next, entries_there, entries_of-members_view}
use Rattle.qs_machine.proofs.Exits.{bind_ok, left_unless}
use Rattle.qs_machine.proofs.families.families_of.Goals as goal

pub returns-in_default-clause-order : goal.returns-in_default-clause-order
returns-in_default-clause-order c = subst (λ fs. AreInByteOrder (map (λ f. f.name) fs)) (sym c.new-families.ensures) no_names_in_order

pub loop-name-init : goal.loop-name-init
loop-name-init c =
    let entries = c.in-Some-as_object.entries.now.entries in
    let gives = c.into_iter-name-iterator.ensures.into_iter_gives in
    let read = family_of c.args.qubits c.args.ports.now c.args.frames.now in
    record {
      reads = ap (λ fs. in_order read fs (map seen c.into_iter-name-iterator.result)) (sym c.new-families.ensures);
      order = rw (c.new-families.ensures, gives.0) (keys_in_order entries gives.5);
    }

pub loop-name-preserved : goal.loop-name-preserved
loop-name-preserved c =
    let read = family_of c.args.qubits c.args.ports.now c.args.frames.now in
    let before = c.loop-name.families in
    let family = c.in_ok-family.family in
    let longer = c.in_ok-push.ensures.ok in
    let name = c.in-Some-2.name.now in
    let value = c.in-Some-2.value.now in
    let reads = subst (λ key. IsUnlessMemory OutOfMemory (read before (key, view value)) (Ok family)) c.as_str.ensures.value (c.in_ok-family.ensures.value before) in
    record {
      reads = entries_grow read OutOfMemory _ before _ c.loop-name.name-iterator c.next.new.self (name, value) family c.loop-name.invariant.reads c.in-Some-2.ensures.steps reads longer;
      order = order_next (λ f. f.name) before _ c.loop-name.name-iterator c.next.new.self (name, value) family c.loop-name.invariant.order c.in-Some-2.ensures.steps (c.in_ok-family.ensures.named ∙ c.as_str.ensures.value) longer;
    }

pub returns-clause-value : goal.returns-clause-value
returns-clause-value c =
    let entries = c.in-Some-as_object.entries.now.entries in
    let gives = c.into_iter-name-iterator.ensures.into_iter_gives in
    let read = family_of c.args.qubits c.args.ports.now c.args.frames.now in
    let there = entries_there (view c.args.table.now) (view c.in-Some.value.now) (members_view entries) (map seen entries) (c.in-Some.ensures ∙ ap (λ k. get k (view c.args.table.now)) c.key.ensures) c.in-Some-as_object.ensures (entries_of-members_view entries) in
    let all = ap (λ it. in_order read [] (map seen it)) gives.0 in
    let done = c.loop-name.invariant.reads ∙ ap (λ it. in_order read c.loop-name.families (map seen it)) c.in-None.ensures.steps.0 in
    sym done ∙ all ∙ bind_ok _ (map seen entries) (in_order read []) there

pub returns-clause-order : goal.returns-clause-order
returns-clause-order c =
    let names = map (λ f. f.name) c.loop-name.families in
    subst AreInByteOrder (ap (λ it. names ++ map (λ e. string_bytes e.0) it) c.in-None.ensures.steps.0 ∙ append-nil names) c.loop-name.invariant.order

pub returns-in_err-family-clause-value : goal.returns-in_err-family-clause-value
returns-in_err-family-clause-value c =
    let entries = c.in-Some-as_object.entries.now.entries in
    let gives = c.into_iter-name-iterator.ensures.into_iter_gives in
    let read = family_of c.args.qubits c.args.ports.now c.args.frames.now in
    let before = c.loop-name.families in
    let refusal = c.in_err-family.field-0.0 in
    let name = c.in-Some-2.name.now in
    let value = c.in-Some-2.value.now in
    let there = entries_there (view c.args.table.now) (view c.in-Some.value.now) (members_view entries) (map seen entries) (c.in-Some.ensures ∙ ap (λ k. get k (view c.args.table.now)) c.key.ensures) c.in-Some-as_object.ensures (entries_of-members_view entries) in
    let whole = sym c.loop-name.invariant.reads ∙ ap (λ it. in_order read [] (map seen it)) gives.0 ∙ bind_ok _ (map seen entries) (in_order read []) there in
    let refused = subst (λ key. IsUnlessMemory OutOfMemory (read before (key, view value)) (Err refusal)) c.as_str.ensures.value (c.in_err-family.ensures.value before) in
    left_unless _ _ refusal _ c.from_residual.ensures.1
    (entries_halt read OutOfMemory _ before c.loop-name.name-iterator c.next.new.self (name, value) refusal (sym whole) c.in-Some-2.ensures.steps refused)
