use Rattle.std.proofs.Common.{ap, subst, sym, ◌∙◌}
use Rattle.std.specs.Prelude.{All, IsSomeAnd}
use Rattle.std.specs.List.{flat_map}
use Rattle.outside.proofs.Texts.{at-end, goes-as, goes-then}
use Rattle.controller_machine.specs.Ctl.{shown_of}
use Rattle.timeline_board.specs.Conditions.{HoldsValue, HoldsVars}
use Rattle.timeline_board.specs.Report.{end_line, out_line}
use Rattle.timeline_board.proofs.ValueLemmas.{holds-outs}
use Rattle.timeline_board.proofs.reports.report.Goals as goal

pub put_outs-requires : goal.put_outs-requires
put_outs-requires g c =
    let plan = c.args.plan.now in
    let hub = c.hub_of-hub.result.now in
    let holds = subst (λ first. IsSomeAnd first (λ h. HoldsVars plan.vars h.store)) c.hub_of-hub.ensures c.requires.store in
    subst (All (λ o. HoldsValue c.store.result.now o.first o.ty.kind o.ty.width)) (sym c.as_slice.ensures)
    (subst (λ store. All (λ o. HoldsValue store o.first o.ty.kind o.ty.width) plan.outs) (sym c.store.ensures) (holds-outs plan.vars hub.store plan.outs holds c.requires.outs))

pub returns : goal.returns
returns g c =
    let hub = c.hub_of-hub.result.now in
    let timeline = c.put_timeline.ensures in
    let outs = goes-as {xs = flat_map (out_line c.store.result.now) c.as_slice.result.now} c.put_outs.ensures (ap (λ store. flat_map (out_line store) c.as_slice.result.now) c.store.ensures ∙ ap (flat_map (out_line hub.store)) c.as_slice.ensures) in
    let end = goes-as {xs = end_line c.tick.result c.ending.result} c.put_end.ensures (ap (λ tick. end_line tick c.ending.result) c.tick.ensures ∙ ap (end_line (shown_of hub).tick) c.ending.ensures) in
    record {
      entries = timeline.0;
      hub = hub;
      merged = timeline.1;
      first = c.hub_of-hub.ensures;
      text = c.finish.ensures _ _ (at-end _ _ _ _ _ c.new-page.ensures (goes-then (goes-then timeline.2 outs) end));
    }
