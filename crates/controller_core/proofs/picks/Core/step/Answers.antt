use Rattle.std.proofs.Common.{◌∙◌, arith}
use Rattle.controller_core.proofs.PickLemmas.{parts-long}
use Rattle.controller_core.proofs.StepLemmas.{pick-may, rested, went}
use Rattle.controller_core.proofs.picks.Core.step.Goals as goal

pub bounds-as_slice-k : goal.bounds-as_slice-k
bounds-as_slice-k c = omega (arith, parts-long c.args.self.now.plan _ (c.as_slice.ensures ∙ c.requires.parts), c.requires.controller)

pub next-requires : goal.next-requires
next-requires c =
    (pick-may c.controllers_follow.ensures c.acts_are_few.ensures _ c.args.self.now c.args.k _ _ _ c.self.view_is c.self.invariant.0 (c.as_slice.ensures ∙ c.requires.parts) c.requires.controller c.index-as_slice-k.is c.index_mut-controller.ensures.value).part_same

pub returns-in-Ended : goal.returns-in-Ended
returns-in-Ended c =
    let may = pick-may c.controllers_follow.ensures c.acts_are_few.ensures _ c.args.self.now c.args.k _ _ _ c.self.view_is c.self.invariant.0 (c.as_slice.ensures ∙ c.requires.parts) c.requires.controller c.index-as_slice-k.is c.index_mut-controller.ensures.value in
    let same = rested c.controllers_follow.ensures _ _ _ _ c.args.self.now c.args.k _ _ c.next.result c.self.view_is c.self.invariant.0 may c.next.ensures c.in-Ended.is in
    record { pick = same.pick_same; answer = same.answer_same; follows = same.follows; live = same.live }

pub go-requires-clause-part : goal.go-requires-clause-part
go-requires-clause-part c =
    (pick-may c.controllers_follow.ensures c.acts_are_few.ensures _ c.args.self.now c.args.k _ _ _ c.self.view_is c.self.invariant.0 (c.as_slice.ensures ∙ c.requires.parts) c.requires.controller c.index-as_slice-k.is c.index_mut-controller.ensures.value).part_same

pub go-requires-clause-room : goal.go-requires-clause-room
go-requires-clause-room c =
    (pick-may c.controllers_follow.ensures c.acts_are_few.ensures _ c.args.self.now c.args.k _ _ _ c.self.view_is c.self.invariant.0 (c.as_slice.ensures ∙ c.requires.parts) c.requires.controller c.index-as_slice-k.is c.index_mut-controller.ensures.value).room

pub go-requires-clause-few : goal.go-requires-clause-few
go-requires-clause-few c =
    (pick-may c.controllers_follow.ensures c.acts_are_few.ensures _ c.args.self.now c.args.k _ _ _ c.self.view_is c.self.invariant.0 (c.as_slice.ensures ∙ c.requires.parts) c.requires.controller c.index-as_slice-k.is c.index_mut-controller.ensures.value).few

pub invariant_of-self-2 : goal.invariant_of-self-2
invariant_of-self-2 c =
    let may = pick-may c.controllers_follow.ensures c.acts_are_few.ensures _ c.args.self.now c.args.k _ _ _ c.self.view_is c.self.invariant.0 (c.as_slice.ensures ∙ c.requires.parts) c.requires.controller c.index-as_slice-k.is c.index_mut-controller.ensures.value in
    let same = went c.controllers_follow.ensures _ _ _ _ c.args.self.now c.args.k _ _ c.go.new.self c.next.result c.self.view_is c.self.invariant.0 may c.next.ensures c.in_default.not-Ended c.go.ensures in
    (same.reached, c.self.invariant.1, c.self.invariant.2)

pub returns : goal.returns
returns c =
    let may = pick-may c.controllers_follow.ensures c.acts_are_few.ensures _ c.args.self.now c.args.k _ _ _ c.self.view_is c.self.invariant.0 (c.as_slice.ensures ∙ c.requires.parts) c.requires.controller c.index-as_slice-k.is c.index_mut-controller.ensures.value in
    let same = went c.controllers_follow.ensures _ _ _ _ c.args.self.now c.args.k _ _ c.go.new.self c.next.result c.self.view_is c.self.invariant.0 may c.next.ensures c.in_default.not-Ended c.go.ensures in
    record { pick = same.pick_same; answer = same.answer_same; follows = same.follows; live = same.live }
