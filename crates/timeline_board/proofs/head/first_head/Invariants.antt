use Rattle.timeline_board.specs.Order.{logs_of}
use Rattle.timeline_board.specs.steps.Merging.{IsFirstOf, lefts_of}
use Rattle.timeline_board.proofs.head.first_head.Given as goal

abbrev pub invariant-loop-k : goal.invariant-loop-k
invariant-loop-k g l = IsFirstOf (lefts_of (logs_of (g.L.Ctls.states l.ctls)) l.places) l.k l.first
