use Rattle.std.proofs.Common.{◌∙◌, ap, length, refl, rules, sym}
use Rattle.controller_machine.specs.steps.Place.{stand_from}
use Rattle.controller_machine.specs.steps.Left.{items_left}
use Rattle.controller_machine.proofs.CtlLemmas.{ends-in_time, items-few, made-start, starts-in_time}
use Rattle.controller_machine.proofs.ctl.Ctl.new.Goals as goal

pub items_in-room-requires : goal.items_in-room-requires
items_in-room-requires c = items-few c.args.plan.now c.args.part.now.controller _ c.requires.sound (c.as_slice-body.ensures ∙ ap (λ p. p.body) c.requires.part)

pub stand-stand-requires : goal.stand-stand-requires
stand-stand-requires c = record { time = ends-in_time c.args.plan.now c.args.part.now.controller _ c.requires.sound (c.as_slice-body.ensures ∙ ap (λ p. p.body) c.requires.part) }

pub invariant_of-result : goal.invariant_of-result
invariant_of-result c =
    let kept = ap (λ p. p.body) c.of.ensures in
    let body = ap (λ p. p.body) c.requires.part in (
      search rules,
      starts-in_time c.args.plan.now c.args.part.now.controller _ _ c.requires.sound (kept ∙ body) (c.stand-stand.ensures ∙ ap (λ b. stand_from b 0 0 0) (c.as_slice-body.ensures ∙ sym kept)),
    )

pub returns : goal.returns
returns c =
    let kept = ap (λ p. p.body) c.of.ensures in
    let is_store = rw (c.as_slice.ensures, c.as_slice-2.ensures, c.as_slice-3.ensures) at c.in_ok-store.ensures in
    let is_frames = rw c.as_slice-4.ensures at c.in_ok-frames.ensures in
    made-start c.args.plan.now c.args.tape.now c.args.part.now.controller _ _ _ _ _ _ _ (c.of.ensures ∙ c.requires.part)
    (c.stand-stand.ensures ∙ ap (λ b. stand_from b 0 0 0) (c.as_slice-body.ensures ∙ sym kept)) is_store is_frames refl c.in_ok-log.ensures.items
    (c.items_in-room.ensures ∙ ap (λ b. length (items_left b 0)) (c.as_slice-body.ensures ∙ sym kept))
