use Rattle.std.proofs.Common.{ap}
use Rattle.outside.proofs.Texts.{goes-as, goes-then}
use Rattle.timeline_board.specs.Report.{out_line}
use Rattle.timeline_board.proofs.LineLemmas.{line-more}
use Rattle.timeline_board.proofs.lines.put_outs.Goals as goal

pub loop-out-preserved : goal.loop-out-preserved
loop-out-preserved g c =
    let line = out_line c.args.store.now in
    goes-as (goes-then c.loop-out.invariant (goes-as c.put_out.ensures (ap line c.out-item.is)))
    (line-more line c.args.outs.now c.loop-out.out-index c.out-item.result c.loop-out-test.true)
