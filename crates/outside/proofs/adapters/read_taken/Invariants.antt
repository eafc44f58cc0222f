use Rattle.std.specs.Io.KnownBytes.{Consumes}
use Rattle.outside.proofs.adapters.read_taken.Given as goal

-- what was read stood at the front of what the reader had
abbrev pub invariant-loop : goal.invariant-loop
invariant-loop g l = Consumes (g.R.Read.remaining l.initial.reader) (g.R.Read.remaining l.reader) l.bytes.items
