-- At any depth, a tree that follows the grammar, is no deeper and no larger than it may be, and is spelled at the front is what is read.
use Rattle.std.proofs.Common.{ℕ, zero, suc, Option}
use Rattle.qs_parser.specs.steps.Tokens.{Readers}
use Rattle.qs_parser.specs.steps.Knot.{below, readers}
use Rattle.qs_parser.proofs.Complete.{IsComplete, IsCompleteBelow}
use Rattle.qs_parser.proofs.CompleteExpr.{complete-readers-expr, complete-readers-unary}
use Rattle.qs_parser.proofs.SoundReaders.{IsSoundBelow}
use Rattle.qs_parser.proofs.SoundKnot.{sound-below}
use Rattle.qs_parser.proofs.CompleteBlocks.{complete-block_at}
use Rattle.qs_parser.proofs.CompleteNested.{complete-nested_at}
use Rattle.qs_parser.proofs.CompleteWeak.{weak-nested_at, weak-stmt_at}
use Rattle.qs_parser.proofs.CompleteStmt.{complete-stmt_at}

complete-layer : (inner : Option Readers) (d : ℕ) → IsCompleteBelow d inner → IsSoundBelow d inner → IsComplete d (readers inner)
unfolding readers
complete-layer inner d h sound = record {
  expr = complete-readers-expr inner d h;
  unary = complete-readers-unary inner d h;
  stmt = λ s renew left after front rest f n g c. complete-stmt_at s inner d renew left after front rest h f n g c;
  stmt_weak = λ s renew left after front rest f n g l e. weak-stmt_at s inner d d renew left after front rest h sound f g l e;
  nested = λ s renew left after front rest f g c. complete-nested_at s inner d renew left after front rest h f g c;
  nested_weak = λ s renew left after front rest f g l e. weak-nested_at s inner d renew left after front rest h f g l e;
  block = λ ss renew left after front rest f g. complete-block_at ss inner d renew left after front rest h f g;
}

pub complete-below : (d : ℕ) → IsCompleteBelow d (below d)
unfolding below
complete-below zero = tt
complete-below (suc d) = complete-layer (below d) d (complete-below d) (sound-below d)

pub complete-readers : (d : ℕ) → IsComplete d (readers (below d))
complete-readers d = complete-layer (below d) d (complete-below d) (sound-below d)
