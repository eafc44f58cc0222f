use Rattle.std.proofs.Common.{sym, ◌∙◌, inl, inr}
use Rattle.controller_machine.proofs.StoreLemmas.{first-within, put-first, put-long, put-no-inputs, put-no-values, rest-there}
use Rattle.controller_machine.proofs.store.start_store.Goals as goal

pub put_input-requires : goal.put_input-requires
put_input-requires c = first-within c.args.vars.now _ _ _ _ c.in-Some.ensures.steps.0 c.loop-input.invariant.vars c.loop-input.invariant.long

pub loop-input-preserved : goal.loop-input-preserved
loop-input-preserved c = record {
  whole = put-first _ c.next.new.self.a.rest.now c.in-Some.input.now _ c.next.new.self.b.rest.now c.in-Some.value.now c.loop-input.store.items c.put_input.new.store.items _ c.in-Some.ensures.steps.0 c.in-Some.ensures.steps.1 c.put_input.ensures c.loop-input.invariant.whole;
  vars = rest-there c.args.vars.now _ _ _ c.in-Some.ensures.steps.0 c.loop-input.invariant.vars;
  long = put-long c.loop-input.store.items c.put_input.new.store.items c.in-Some.input.now c.in-Some.value.now _ c.put_input.ensures c.loop-input.invariant.long;
}

pub returns : goal.returns
returns c = elim c.in-None.ensures.steps [
  | inl p ↦ sym (put-no-inputs _ _ _ p.1.0) ∙ c.loop-input.invariant.whole
  | inr p ↦ sym (put-no-values _ _ _ p.1.0) ∙ c.loop-input.invariant.whole
]
