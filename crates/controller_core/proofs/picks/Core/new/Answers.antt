use Rattle.std.proofs.Common.{◌∙◌}
use Rattle.controller_core.proofs.StartLemmas.{core-made, made-few, made-follows, made-live, made-reached, part-made, start-push}
use Rattle.controller_core.proofs.picks.Core.new.Goals as goal

pub new-requires : goal.new-requires
new-requires c =
    let made = part-made c.args.plan.now _ c.loop-part.part-index _ (c.as_slice-part-items.ensures ∙ c.requires.parts) c.loop-part-test.true c.part-item.is in
    record { sound = c.requires.sound; fits = c.requires.fits; controller = made.1; part = made.2 }

pub loop-part-preserved : goal.loop-part-preserved
loop-part-preserved c =
    let made = part-made c.args.plan.now _ c.loop-part.part-index _ (c.as_slice-part-items.ensures ∙ c.requires.parts) c.loop-part-test.true c.part-item.is in
    start-push c.args.plan.now c.args.tape.now c.loop-part.part-index c.part-item.result.controller _ _ _ c.loop-part.invariant c.in_ok-ctl.ensures made.0 c.in_ok-push.ensures.items

pub invariant_of-result : goal.invariant_of-result
invariant_of-result c =
    let start = core-made c.args.plan.now _ c.args.tape.now _ c.args.mail c.loop-part.part-index _ _ c.of.ensures c.of-2.ensures (c.as_slice-part-items.ensures ∙ c.requires.parts) c.loop-part.invariant c.loop-part-test.false c.loop-part.auto.part-index-end in
    let few = made-few c.args.plan.now c.args.tape.now _ c.loop-part.part-index _ _ c.loop-part.controllers.ok.0 c.requires.sound (c.as_slice-part-items.ensures ∙ c.requires.parts) c.loop-part.invariant c.loop-part-test.false c.loop-part.auto.part-index-end in
    (made-reached c.args.plan.now c.args.tape.now c.args.mail _ start c.requires.sound c.requires.some_mail c.requires.few_mail, few.0, few.1)

pub returns : goal.returns
returns c =
    let start = core-made c.args.plan.now _ c.args.tape.now _ c.args.mail c.loop-part.part-index _ _ c.of.ensures c.of-2.ensures (c.as_slice-part-items.ensures ∙ c.requires.parts) c.loop-part.invariant c.loop-part-test.false c.loop-part.auto.part-index-end in
    record {
      start = start;
      follows = made-follows c.controllers_follow.ensures c.args.plan.now c.args.tape.now c.args.mail _ start c.requires.sound c.requires.some_mail c.requires.few_mail;
      live = made-live _ _ start;
    }
