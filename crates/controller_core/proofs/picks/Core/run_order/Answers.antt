use Rattle.std.proofs.Common.{◌∙◌, ap, arith, sym}
use Rattle.plan_tree.specs.Parts.{parts_of}
use Rattle.controller_core.proofs.OverLemmas.{run-over}
use Rattle.controller_core.proofs.SweepLemmas.{run-few, run-ordered, run-plan, run-smaller, run-swept, run-waits}
use Rattle.controller_core.proofs.picks.Core.run_order.Goals as goal

pub loop-swept-init : goal.loop-swept-init
loop-swept-init c =
    let picked = c.pick_all-counts.ensures in
    run-ordered c.controllers_follow.ensures c.args.order.now _ c.args.self.now c.pick_all-counts.new.self _ _ c.self.view_is c.self.invariant.0 picked.picks picked.stepped picked.waited

pub sweep-swept-requires : goal.sweep-swept-requires
sweep-swept-requires c = record { parts = c.requires.parts ∙ sym (ap parts_of (run-plan _ _ _ _ _ c.loop-swept.invariant).0) }

pub returns-then-swept-eq0 : goal.returns-then-swept-eq0
returns-then-swept-eq0 c =
    let swept = c.sweep-swept.ensures in
    let over = run-over c.controllers_follow.ensures c.controllers_walk.ensures c.args.order.now c.args.self.now c.loop-swept.self c.sweep-swept.new.self _ _ c.sweep-swept.result.stepped c.loop-swept.invariant c.if-swept-eq0.true swept.picks swept.stepped in
    record { runs = over.0; over = over.1; all = over.2 }

pub plus-counts-requires : goal.plus-counts-requires
plus-counts-requires c =
    let swept = c.sweep-swept.ensures in
    let more = run-swept c.controllers_follow.ensures c.args.order.now c.args.self.now c.loop-swept.self c.sweep-swept.new.self _ _ _ _ c.loop-swept.invariant (omega arith) swept.picks swept.stepped swept.waited in
    let few = run-few c.acts_are_few.ensures _ _ _ _ _ more in
    let none = run-waits _ _ _ _ _ more in
    record { stepped = omega (arith, few); waited = omega (arith, none) }

pub loop-swept-smaller : goal.loop-swept-smaller
loop-swept-smaller c =
    let swept = c.sweep-swept.ensures in
    let more = run-swept c.controllers_follow.ensures c.args.order.now c.args.self.now c.loop-swept.self c.sweep-swept.new.self _ _ _ _ c.loop-swept.invariant (omega arith) swept.picks swept.stepped swept.waited in
    run-smaller _ _ c.loop-swept.self c.sweep-swept.new.self _ _ _ _ c.loop-swept.invariant more (omega arith)

pub loop-swept-preserved : goal.loop-swept-preserved
loop-swept-preserved c =
    let swept = c.sweep-swept.ensures in
    rw (c.plus-counts.ensures.stepped, c.plus-counts.ensures.waited)
    (run-swept c.controllers_follow.ensures c.args.order.now c.args.self.now c.loop-swept.self c.sweep-swept.new.self _ _ _ _ c.loop-swept.invariant (omega arith) swept.picks swept.stepped swept.waited)
