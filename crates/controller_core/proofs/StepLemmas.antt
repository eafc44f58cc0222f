-- What a step may count on, and what it leaves.
use Rattle.std.proofs.Common.{◌≡◌, ℕ, ◌<◌, ◌≤◌, ◌^◌, List, refl, ap, arith, sym, ◌∙◌, subst, get_or}
use Rattle.std.specs.Prelude.{Some, slice_get, slice_set}
use Rattle.std.proofs.lemmas.List.{length-set}
use Rattle.std.proofs.lemmas.Option.{slice_get_read}
use Rattle.qs_values.specs.declared.tape.Tape.{Tape}
use Rattle.plan_tree.specs.declared.plan.Plan.{Plan}
use Rattle.plan_tree.specs.declared.part.Part.{Part}
use Rattle.plan_tree.specs.Parts.{parts_of}
use Rattle.controller_machine.specs.declared.ctl.Want.{Want}
use Rattle.controller_machine.specs.declared.ctl.Want.TheVariants.{Go, Ended as WantsNothing}
use Rattle.controller_machine.specs.Ctl.{entries_next, want_of}
use Rattle.controller_machine.specs.Laws.{ActsAreFew, ControllersFollow}
use Rattle.controller_core.specs.declared.picks.Stepped.{Stepped}
use Rattle.controller_core.specs.declared.picks.Stepped.TheVariants.{Stepped as Did, Ended}
use Rattle.controller_core.specs.declared.picks.Controller.{Controller}
use Rattle.controller_core.specs.Core.{CoreState, IsLive, with_next_act, core_of, no_mail, pick, pick_answer}
use Rattle.controller_core.specs.Reached.{FollowsPlan, IsReached}
use Rattle.controller_core.proofs.PickLemmas.{live, part-read, pick-follows, set-same, with_controller}
use Rattle.controller_core.proofs.SweepLemmas.{pick-reached, reached-follows}

-- What is seen inside a core is the core.
pub seen-reached : (seen core : CoreState) → seen ≡ core → IsReached seen → IsReached core
seen-reached seen core is r = subst IsReached is r

-- What the controller that was read may count on.
pub record MayPick (core : CoreState) (k : ℕ) (part : Part) (c : Controller) : Type 0 where
  pub here : slice_get core.controllers k ≡ Some c
  pub part_same : part ≡ c.ctl.part
  pub room : entries_next c.ctl ≤ c.ctl.room
  pub few : c.acts < 2 ^ 32

pub pick-may : ControllersFollow → ActsAreFew → (seen core : CoreState) (k : ℕ) (parts : List Part) (part : Part) (c : Controller) → seen ≡ core → IsReached seen → parts ≡ parts_of core.plan → k < core.plan.controllers →
    part ≡ get_or parts k part → c ≡ get_or seen.controllers k c → MayPick core k part c
pick-may follow few seen core k parts part c is r same within part_is read =
    let follows = reached-follows follow core (seen-reached seen core is r) in
    let here = slice_get_read core.controllers core.plan.controllers k c (sym follows.bounds.controllers) within (read ∙ ap (λ s. get_or s.controllers k c) is) in
    let made = follows.made k c here in
    record {
      here = here;
      part_same = part-read core.plan parts k part same within part_is ∙ sym made.follows.part;
      room = made.follows.room;
      few = omega (arith, made.within, few core.plan core.tape k, follows.bounds.weight);
    }

-- the core in which a controller stands in place of the one that was seen
seen-with : (plan : Plan) (tape : Tape) (mail : ℕ) (items : List Controller) (core : CoreState) (k : ℕ) (new : Controller) → core_of plan tape mail items ≡ core → core_of plan tape mail (slice_set items k new) ≡ with_controller core k new
seen-with plan tape mail items core k new is =
    ap (λ n. record (core_of plan tape mail (slice_set items k new)) { mailboxes = no_mail n }) (length-set items k new) ∙ ap (λ c. with_controller c k new) is

goes-unless : (w : Want) → (w ≡ WantsNothing → ⊥) → w ≡ Go
goes-unless WantsNothing not = absurd (not refl)
goes-unless Go not = refl

-- What a step leaves is the core after the pick, and it answers what the pick does.
pub record IsPick (core new : CoreState) (k : ℕ) (answer : Stepped) : Type 0 where
  pub pick_same : new ≡ pick core k
  pub answer_same : answer ≡ pick_answer core k
  pub reached : IsReached new
  pub follows : FollowsPlan new
  pub live : IsLive new

-- The controller made its next act.
pub went : ControllersFollow → (plan : Plan) (tape : Tape) (mail : ℕ) (items : List Controller) (core : CoreState) (k : ℕ) (part : Part) (c new : Controller) (want : Want) →
    core_of plan tape mail items ≡ core → IsReached (core_of plan tape mail items) → MayPick core k part c → want ≡ want_of c.ctl → (want ≡ WantsNothing → ⊥) → new ≡ with_next_act c →
    IsPick core (core_of plan tape mail (slice_set items k new)) k Did
went follow plan tape mail items core k part c new want is r may wants not did =
    let go : want_of c.ctl ≡ Go = sym wants ∙ goes-unless want not in
    let same : core_of plan tape mail (slice_set items k new) ≡ pick core k = seen-with plan tape mail items core k new is ∙ rw (may.here, go) (ap (with_controller core k) did) in
    record {
      pick_same = same;
      answer_same = rw (may.here, go) refl;
      reached = subst IsReached (sym same) (pick-reached core k (seen-reached _ core is r));
      follows = subst FollowsPlan (sym same) (pick-follows follow core k (reached-follows follow core (seen-reached _ core is r)));
      live = live (core_of plan tape mail (slice_set items k new));
    }

-- It had none left.
pub rested : ControllersFollow → (plan : Plan) (tape : Tape) (mail : ℕ) (items : List Controller) (core : CoreState) (k : ℕ) (part : Part) (c : Controller) (want : Want) →
    core_of plan tape mail items ≡ core → IsReached (core_of plan tape mail items) → MayPick core k part c → want ≡ want_of c.ctl → want ≡ WantsNothing →
    IsPick core (core_of plan tape mail (slice_set items k c)) k Ended
rested follow plan tape mail items core k part c want is r may wants ended =
    let none : want_of c.ctl ≡ WantsNothing = sym wants ∙ ended in
    let kept : core_of plan tape mail (slice_set items k c) ≡ core =
    seen-with plan tape mail items core k c is ∙ ap (λ cs. record core { controllers = cs }) (set-same core.controllers k c may.here) in
    record {
      pick_same = kept ∙ rw (may.here, none) refl;
      answer_same = rw (may.here, none) refl;
      reached = subst IsReached (sym kept) (seen-reached _ core is r);
      follows = subst FollowsPlan (sym kept) (reached-follows follow core (seen-reached _ core is r));
      live = live (core_of plan tape mail (slice_set items k c));
    }
