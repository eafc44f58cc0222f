use Rattle.std.proofs.Common.{◌∙◌, ap, inl, Err, map, get_or, []}
use Rattle.std.specs.Prelude.{ok_or}
use Rattle.qs_machine.specs.declared.refusal.MachineRefusal.TheVariants.{FamilyWrong}
use Rattle.qs_machine.specs.Table.{member_of, reaches_alone, place_of}
use Rattle.qs_machine.specs.Values.{passing}
use Rattle.qs_machine.proofs.Loops.{in_order_stop, in_order_next, get_or_again}
use Rattle.qs_machine.proofs.families.members_of.Goals as goal

pub returns-in_default : goal.returns-in_default
returns-in_default c =
    let ports = c.args.ports.now in
    let frames = c.args.frames.now in
    let family = c.args.family.now in
    let texts = c.args.texts.now in
    let names = map (λ f. f.name) frames in
    let text = get_or texts c.loop-text.text-index record { ref_ptr = (0, 0); now = [] } in
    let none = ap (λ o. ok_or o (FamilyWrong family)) (c.in_default.ensures ∙ ap (λ n. passing (reaches_alone ports frames n) (place_of text.now names)) c.len.ensures) in
    inl (ap Err c.in_ok-unfit_family.ensures
    ∙ in_order_stop (member_of ports frames family) (λ s. s.now) _ c.loop-text.members texts c.loop-text.text-index text (FamilyWrong family) c.loop-text.invariant c.loop-text-test.true (get_or_again texts _ _ c.loop-text-test.true) none)

pub loop-text-preserved : goal.loop-text-preserved
loop-text-preserved c =
    let ports = c.args.ports.now in
    let frames = c.args.frames.now in
    let family = c.args.family.now in
    let texts = c.args.texts.now in
    let names = map (λ f. f.name) frames in
    let text = get_or texts c.loop-text.text-index record { ref_ptr = (0, 0); now = [] } in
    let some = ap (λ o. ok_or o (FamilyWrong family)) (c.in-Some.ensures ∙ ap (λ n. passing (reaches_alone ports frames n) (place_of text.now names)) c.len.ensures) in
    rw c.in_ok-push.ensures.ok
    (in_order_next (member_of ports frames family) (λ s. s.now) _ c.loop-text.members texts c.loop-text.text-index text c.in-Some.member c.loop-text.invariant c.loop-text-test.true (get_or_again texts _ _ c.loop-text-test.true) some)
