use Rattle.std.proofs.Common.{inl, inr, rules}
use Rattle.outside.proofs.memory_shelf.MemoryShelfShelf.take.Goals as goal
use Rattle.outside.proofs.memory_shelf.MemoryShelfShelf.take.Goals.{then-is_listed, else-is_listed}

pub returns-in-Err-Failed-clause-exact : goal.returns-in-Err-Failed-clause-exact
returns-in-Err-Failed-clause-exact c = (
  elim c.if-is_listed.branch [
    | then-is_listed w ↦ inl (rw (← c.self.view_is, ← c.as_slice.ensures) (c.is_listed.ensures.0 w.if-is_listed.true))
    | else-is_listed w ↦ inr (rw (← c.self.view_is, ← w.as_slice-else-is_listed.ensures) (search rules))
  ],
  search rules,
)
