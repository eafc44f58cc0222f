use Rattle.std.proofs.Common.{◌≡◌, All, length}
use Rattle.plan_tree.specs.Sound.{HasVars}
use Rattle.plan_tree.specs.Store.{put_inputs, start_store}
use Rattle.controller_machine.proofs.store.start_store.Given as goal

-- The inputs that are left, put into the store, give the whole.
abbrev pub invariant-loop-input : goal.invariant-loop-input
invariant-loop-input l = record {
  whole : put_inputs l.input-iterator.a.rest.now l.input-iterator.b.rest.now l.store.items ≡ start_store l.vars l.inputs l.values;
  vars : All (λ i. HasVars l.vars i.first i.ty.kind i.ty.width) l.input-iterator.a.rest.now;
  long : length l.store.items ≡ length l.vars;
}
