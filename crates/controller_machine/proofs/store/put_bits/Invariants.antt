use Rattle.std.proofs.Common.{◌≡◌, ◌+◌, ◌-◌, length}
use Rattle.plan_tree.specs.Store.{bits_of, put_cells}
use Rattle.controller_machine.proofs.store.put_bits.Given as goal

-- The bits that are left, put into the store, give the whole.
abbrev pub invariant-loop-i : goal.invariant-loop-i
invariant-loop-i l = record {
  same : put_cells l.store.items (l.first + l.i) (bits_of (l.width - l.i) l.rest)
      ≡ put_cells l.fn.store.items l.first (bits_of l.width l.value);
  long : length l.store.items ≡ length l.fn.store.items;
}
