use Rattle.std.proofs.Common.{ap, drop, ◌∙◌}
use Rattle.std.specs.Prelude.{slice_get, slice_index}
use Rattle.timeline_board.specs.Order.{logs_of}
use Rattle.timeline_board.specs.steps.Merging.{lefts_of}
use Rattle.timeline_board.proofs.Lefts.{lefts-at, logs-at, next-left}
use Rattle.timeline_board.proofs.head.first_head.Goals as goal

pub loop-k-preserved : goal.loop-k-preserved
loop-k-preserved g c =
    let states = g.L.Ctls.states c.args.ctls.now in
    let given = slice_index c.args.places.now c.loop-k.k in
    let log = c.ctl.result.now.log in
    c.earlier-first.ensures (lefts_of (logs_of states) c.args.places.now) (drop given log) c.loop-k.invariant
    (lefts-at (logs_of states) c.args.places.now c.loop-k.k log (logs-at states c.loop-k.k c.ctl.result.now c.ctl.ensures))
    (c.left_of-entry.ensures ∙ ap (λ l. slice_get l given) c.log.ensures ∙ next-left log given)
