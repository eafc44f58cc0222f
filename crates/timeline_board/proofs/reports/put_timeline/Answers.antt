use Rattle.std.proofs.Common.{[], ◌∷◌, ◌++◌, subst, sym}
use Rattle.outside.proofs.Texts.{goes-as, goes-nowhere, goes-then}
use Rattle.timeline_board.specs.Conditions.{AreNamed}
use Rattle.timeline_board.specs.Order.{logs_of}
use Rattle.timeline_board.specs.Report.{entry_line}
use Rattle.timeline_board.proofs.LineLemmas.{line-last}
use Rattle.timeline_board.proofs.Timelines.{GoesOnAs, fewer-left, given-named, goes-from-start, goes-further, goes-to-end, left-named}
use Rattle.timeline_board.proofs.reports.put_timeline.Goals as goal

pub loop-played-init : goal.loop-played-init
loop-played-init g c =
    let logs = logs_of (g.L.Ctls.states c.args.ctls.now) in
    let all = sym c.merge-entries.ensures in
    ([], subst (λ left. GoesOnAs [] left logs) all (goes-from-start logs), subst (AreNamed c.args.machine.now) all c.requires, goes-nowhere)

pub put_entry-requires : goal.put_entry-requires
put_entry-requires g c = given-named c.args.machine.now c.loop-played.entries c.next.new.self c.in-Some.played c.loop-played.invariant.2 c.in-Some.ensures

pub loop-played-smaller : goal.loop-played-smaller
loop-played-smaller g c = fewer-left c.loop-played.entries c.next.new.self c.in-Some.played c.in-Some.ensures

pub loop-played-preserved : goal.loop-played-preserved
loop-played-preserved g c =
    let logs = logs_of (g.L.Ctls.states c.args.ctls.now) in
    let left = c.loop-played.entries in
    let next = c.next.new.self in
    let played = c.in-Some.played in
    let done = c.loop-played.invariant.0 in (
      done ++ played ∷ [],
      goes-further done played left next logs c.loop-played.invariant.1 c.in-Some.ensures,
      left-named c.args.machine.now left next played c.loop-played.invariant.2 c.in-Some.ensures,
      goes-as (goes-then {ys = entry_line c.args.machine.now played} c.loop-played.invariant.3 c.put_entry.ensures) (line-last (entry_line c.args.machine.now) done played),
    )

pub returns : goal.returns
returns g c =
    let logs = logs_of (g.L.Ctls.states c.args.ctls.now) in
    let done = c.loop-played.invariant.0 in
    (done, goes-to-end done c.loop-played.entries logs c.loop-played.invariant.1 c.in_default.ensures.0, c.loop-played.invariant.3)
