-- What is read at any depth is spelled by the tokens it took, follows the grammar, and is no deeper and no larger than it may be.
use Rattle.std.proofs.Common.{ℕ, zero, suc, Option, arith}
use Rattle.qs_parser.specs.steps.Tokens.{Readers}
use Rattle.qs_parser.specs.steps.Knot.{below, readers}
use Rattle.qs_parser.proofs.SoundReaders.{IsSound, IsSoundBelow}
use Rattle.qs_parser.proofs.SoundExpr.{sound-expr_at, sound-unary}
use Rattle.qs_parser.proofs.SoundNested.{sound-block_at, sound-nested_at}
use Rattle.qs_parser.proofs.SoundStmt.{sound-stmt_at}

sound-layer : (inner : Option Readers) (d : ℕ) → IsSoundBelow d inner → IsSound d (readers inner)
unfolding readers
sound-layer inner d h = record {
  expr = λ left ts. sound-expr_at inner d h left ts;
  unary = λ left ts. sound-unary left inner d h left ts;
  stmt = λ renew left ts. sound-stmt_at inner d renew h left ts;
  nested = λ renew left ts. sound-nested_at inner d renew h left ts;
  block = λ renew left ts. sound-block_at inner d renew h left ts;
}

pub sound-below : (d : ℕ) → IsSoundBelow d (below d)
unfolding below
sound-below zero = record { is = tt }
sound-below (suc d) = record { is = record { e = d; room = omega arith; sound = sound-layer (below d) d (sound-below d) } }

pub sound-readers : (d : ℕ) → IsSound d (readers (below d))
sound-readers d = sound-layer (below d) d (sound-below d)
