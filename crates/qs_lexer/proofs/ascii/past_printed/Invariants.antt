use Rattle.std.proofs.Common.{ℕ, List, length}
use Rattle.qs_lexer.specs.declared.state.State.TheVariants.{Line}
use Rattle.qs_lexer.specs.steps.Runs.{IsPast}
use Rattle.qs_lexer.proofs.ascii.past_printed.Given as goal

-- what stands after a run from here on does so from the first byte on
abbrev pub invariant-loop-byte : goal.invariant-loop-byte
invariant-loop-byte l = (rest : List ℕ) → IsPast Line l.rest rest → IsPast Line l.fn.bytes rest

abbrev pub decreases-loop-byte : goal.decreases-loop-byte
decreases-loop-byte l = length l.rest
