use Rattle.std.proofs.Common.{ℕ, List, length}
use Rattle.qs_lexer.specs.declared.state.State.TheVariants.{Word}
use Rattle.qs_lexer.specs.steps.Runs.{IsPast}
use Rattle.qs_lexer.proofs.ascii.past_small_letters.Given as goal

-- what stands after a run from here on does so from the first byte on
abbrev pub invariant-loop-byte : goal.invariant-loop-byte
invariant-loop-byte l = (rest : List ℕ) → IsPast Word l.rest rest → IsPast Word l.fn.bytes rest

abbrev pub decreases-loop-byte : goal.decreases-loop-byte
decreases-loop-byte l = length l.rest
