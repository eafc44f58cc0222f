use Rattle.std.proofs.Common.{◌∙◌, ap, subst, sym}
use Rattle.controller_machine.specs.steps.Left.{IsNear}
use Rattle.controller_machine.proofs.CtlLemmas.{acted-in_time, event-part, found-at, in_time-at, item-near, own-event}
use Rattle.controller_machine.proofs.ctl.Ctl.go.Goals as goal

pub play-requires-clause-near : goal.play-requires-clause-near
play-requires-clause-near c =
    let part = c.self.inside.part.value in
    let same = c.requires.part ∙ sym (ap (λ s. s.part) c.self.view_is) in
    let found = found-at _ c.args.part.now part c.in-At.spot c.in-Some.item.now c.as_slice-body.ensures same c.in-Some.ensures.value in
    let in_time = in_time-at part.body c.self.inside.stand c.in-At.spot c.in-At.is c.self.invariant.1 in
    let own = own-event c.in-Some.item.now in
    rw own.1 (subst IsNear own.1 (item-near part.body c.in-At.spot c.in-Some.item.now in_time found))

pub invariant_of-self : goal.invariant_of-self
invariant_of-self c =
    let part = c.self.inside.part.value in
    let same = c.requires.part ∙ sym (ap (λ s. s.part) c.self.view_is) in
    let found = found-at _ c.args.part.now part c.in-At.spot c.in-Some.item.now c.as_slice-body.ensures same c.in-Some.ensures.value in
    let in_time = in_time-at part.body c.self.inside.stand c.in-At.spot c.in-At.is c.self.invariant.1 in
    let later = ap (λ s. s.part) c.self-in-Some.view_is ∙ ap (λ s. s.part) c.play.ensures ∙ event-part c.args.self.now _ _ ∙ sym c.requires.part in
    (c.self-in-Some.invariant.0, acted-in_time _ c.args.part.now part _ c.in-At.spot c.in-Some.item.now _ c.as_slice-body.ensures same later in_time found c.stand-self-inside.ensures)
