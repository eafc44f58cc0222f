-- What a pick does to a core, and what it keeps.
use Rattle.std.proofs.Common.{◌≡◌, ℕ, ◌+◌, ◌<◌, List, length, refl, ap, arith, sym, ◌∙◌, subst, inl, inr, get_or, zero, suc, add-one}
use Rattle.std.specs.Prelude.{Some, slice_get, slice_set, ◌⊎◌}
use Rattle.std.proofs.lemmas.Bool.{cases_eq}
use Rattle.std.proofs.lemmas.List.{get_or-set_other, get_or-set_same, length-set, set-get_or}
use Rattle.std.proofs.lemmas.List.FromFn.{get_or-map-range_with_len, length-map-range_with_len}
use Rattle.std.proofs.lemmas.List.Sums.{sum-map, sum_by-set}
use Rattle.std.proofs.lemmas.Option.{get_or_from_slice_get, slice_get-get_or, slice_get_cases, slice_get_within}
use Rattle.qs_values.specs.declared.tape.Tape.{Tape}
use Rattle.plan_tree.specs.declared.plan.Plan.{Plan}
use Rattle.plan_tree.specs.declared.part.Part.{Part}
use Rattle.plan_tree.specs.Acts.{planned_acts}
use Rattle.plan_tree.specs.Parts.{part_of, parts_of}
use Rattle.controller_machine.specs.declared.ctl.Want.{Want}
use Rattle.controller_machine.specs.declared.ctl.Want.TheVariants.{Go, Ended as WantsNothing}
use Rattle.controller_machine.specs.Ctl.{after_act, state_after, want_of}
use Rattle.controller_machine.specs.Last.{Follows}
use Rattle.controller_machine.specs.Laws.{ControllersFollow}
use Rattle.controller_core.specs.declared.picks.Stepped.{Stepped}
use Rattle.controller_core.specs.declared.picks.Stepped.TheVariants.{Stepped as Did, Ended}
use Rattle.controller_core.specs.declared.picks.Controller.{Controller}
use Rattle.controller_core.specs.Core.{CoreState, IsLive, with_next_act, acts_made, one_if_stepped, pick, pick_answer}
use Rattle.controller_core.specs.Reached.{HasMade, FollowsPlan}

-- what stands at a place after a write
written : {X : Type 0} (xs : List X) (k j : ℕ) (y z : X) → slice_get (slice_set xs k y) j ≡ Some z → ((j ≡ k) × (z ≡ y)) ⊎ (slice_get xs j ≡ Some z)
written xs k j y z here =
    let within : j < length xs = omega (arith, slice_get_within (slice_set xs k y) j z here, length-set xs k y) in
    let read = get_or_from_slice_get (slice_set xs k y) j z z here in
    elim (cases_eq j k) [
      | inl same ↦ inl (same, sym read ∙ ap (λ i. get_or (slice_set xs k y) i z) same ∙ get_or-set_same xs k y z (omega arith))
      | inr other ↦ inr (slice_get-get_or xs j z within ∙ ap Some (sym (get_or-set_other xs k j y z other) ∙ read))
    ]

-- a write of what stands there
pub set-same : {X : Type 0} (xs : List X) (k : ℕ) (x : X) → slice_get xs k ≡ Some x → slice_set xs k x ≡ xs
set-same xs k x h = ap (slice_set xs k) (sym (get_or_from_slice_get xs k x x h)) ∙ set-get_or xs k x

want-cases : (w : Want) → (w ≡ WantsNothing) ⊎ (w ≡ Go)
want-cases WantsNothing = inl refl
want-cases Go = inr refl

answer-cases : (a : Stepped) → (a ≡ Ended) ⊎ (a ≡ Did)
answer-cases Ended = inl refl
answer-cases Did = inr refl

abbrev pub with_controller : CoreState → ℕ → Controller → CoreState
with_controller core k c = record core { controllers = slice_set core.controllers k c }

-- A pick that changes nothing.
record Rests (core : CoreState) (k : ℕ) : Type 0 where
  same : pick core k ≡ core
  answer : pick_answer core k ≡ Ended

-- A pick by which a controller makes its next act.
record Acts (core : CoreState) (k : ℕ) : Type 0 where
  before : Controller
  here : slice_get core.controllers k ≡ Some before
  go : want_of before.ctl ≡ Go
  later : pick core k ≡ with_controller core k (with_next_act before)
  answer : pick_answer core k ≡ Did

pick-cases : (core : CoreState) (k : ℕ) → Rests core k ⊎ Acts core k
pick-cases core k = elim (slice_get_cases core.controllers k).1 [
  | inr none ↦ inl (record { same = rw none.1 refl; answer = rw none.1 refl })
  | inl some ↦ elim (want-cases (want_of some.0.ctl)) [
    | inl ended ↦ inl (record { same = rw (some.2, ended) refl; answer = rw (some.2, ended) refl })
    | inr go ↦ inr (record { before = some.0; here = some.2; go = go; later = rw (some.2, go) refl; answer = rw (some.2, go) refl })
  ]
]

-- A pick keeps the plan, the tape and the capacity.
pub pick-plan : (core : CoreState) (k : ℕ) → (pick core k).plan ≡ core.plan
pick-plan core k = elim (pick-cases core k) [ inl r ↦ ap (λ c. c.plan) r.same | inr a ↦ ap (λ c. c.plan) a.later ]

pub pick-tape : (core : CoreState) (k : ℕ) → (pick core k).tape ≡ core.tape
pick-tape core k = elim (pick-cases core k) [ inl r ↦ ap (λ c. c.tape) r.same | inr a ↦ ap (λ c. c.tape) a.later ]

pub pick-mail : (core : CoreState) (k : ℕ) → (pick core k).mail ≡ core.mail
pick-mail core k = elim (pick-cases core k) [ inl r ↦ ap (λ c. c.mail) r.same | inr a ↦ ap (λ c. c.mail) a.later ]

-- It keeps how many controllers there are.
pub pick-count : (core : CoreState) (k : ℕ) → length (pick core k).controllers ≡ length core.controllers
pick-count core k = elim (pick-cases core k) [
  | inl r ↦ ap (λ c. length c.controllers) r.same
  | inr a ↦ ap (λ c. length c.controllers) a.later ∙ length-set core.controllers k (with_next_act a.before)
]

-- A pick that steps counts its act.
pub pick-made : (core : CoreState) (k : ℕ) → acts_made (pick core k) ≡ acts_made core + one_if_stepped (pick_answer core k)
pick-made core k = elim (pick-cases core k) [
  | inl r ↦ omega (arith, ap acts_made r.same, ap one_if_stepped r.answer)
  | inr a ↦
      let acts : Controller → ℕ = λ c. c.acts in
      let set = sum_by-set acts core.controllers k (with_next_act a.before) a.before (slice_get_within core.controllers k a.before a.here) in
      let here = ap acts (get_or_from_slice_get core.controllers k a.before a.before a.here) in
      omega (arith, ap acts_made a.later, ap one_if_stepped a.answer, set, here, sum-map acts core.controllers, sum-map acts (slice_set core.controllers k (with_next_act a.before)))
]

-- A pick that does not step changes nothing.
pub pick-idle : (core : CoreState) (k : ℕ) → one_if_stepped (pick_answer core k) ≡ 0 → (pick core k ≡ core) × (pick_answer core k ≡ Ended)
pick-idle core k idle = elim (pick-cases core k) [
  | inl r ↦ (r.same, r.answer)
  | inr a ↦ absurd (omega (arith, ap one_if_stepped a.answer))
]

-- A pick that answers that nothing is left changes nothing.
pub ended-same : (core : CoreState) (k : ℕ) → pick_answer core k ≡ Ended → pick core k ≡ core
ended-same core k ended = (pick-idle core k (ap one_if_stepped ended)).0

-- A controller that ended wants nothing.
pub ended-wants : (core : CoreState) (k : ℕ) (c : Controller) → slice_get core.controllers k ≡ Some c → pick_answer core k ≡ Ended → want_of c.ctl ≡ WantsNothing
ended-wants core k c here ended = elim (want-cases (want_of c.ctl)) [
  | inl none ↦ none
  | inr go ↦ absurd (let did : pick_answer core k ≡ Did = rw (here, go) refl in cc)
]

-- ---- cores that follow their plan

before-last : (plan : Plan) (tape : Tape) (k : ℕ) (c : Controller) → HasMade plan tape k c → want_of c.ctl ≡ Go → c.acts < length (planned_acts plan tape k)
before-last plan tape k c made go = elim (cases_eq c.acts (length (planned_acts plan tape k))) [
  | inl all ↦ absurd (let ended = made.follows.ended.1 all in cc)
  | inr other ↦ omega (arith, made.within)
]

next-state : (plan : Plan) (tape : Tape) (k : ℕ) (c : Controller) → HasMade plan tape k c → after_act c.ctl ≡ state_after plan tape k (c.acts + 1)
next-state plan tape k c made = ap after_act made.state ∙ sym (ap (state_after plan tape k) (add-one c.acts))

-- A controller that starts, and one that makes its next act, has made the first of its planned acts.
pub made-start : ControllersFollow → (plan : Plan) (tape : Tape) (k : ℕ) (c : Controller) → c.acts ≡ 0 → c.ctl ≡ state_after plan tape k 0 → HasMade plan tape k c
made-start follow plan tape k c none start = record {
  state = start ∙ ap (state_after plan tape k) (sym none);
  within = omega arith;
  follows = rw (none, start) (follow plan tape k 0 (omega arith));
}

made-act : ControllersFollow → (plan : Plan) (tape : Tape) (k : ℕ) (c : Controller) → HasMade plan tape k c → want_of c.ctl ≡ Go → HasMade plan tape k (with_next_act c)
made-act follow plan tape k c made go =
    let less : c.acts < length (planned_acts plan tape k) = before-last plan tape k c made go in
    record {
      state = next-state plan tape k c made;
      within = omega arith;
      follows = subst (Follows plan tape k (c.acts + 1)) (sym (next-state plan tape k c made)) (follow plan tape k (c.acts + 1) (omega arith));
    }

acted-follows : ControllersFollow → (core : CoreState) (k : ℕ) → FollowsPlan core → (a : Acts core k) → FollowsPlan (with_controller core k (with_next_act a.before))
acted-follows follow core k r a = record {
  bounds = record {
    some = r.bounds.some;
    few = r.bounds.few;
    weight = r.bounds.weight;
    some_mail = r.bounds.some_mail;
    few_mail = r.bounds.few_mail;
    controllers = length-set core.controllers k _ ∙ r.bounds.controllers;
  };
  mailboxes = r.mailboxes;
  made = λ j c here. elim (written core.controllers k j _ c here) [
    | inl p ↦ rw (p.0, p.1) (made-act follow core.plan core.tape k a.before (r.made k a.before a.here) a.go)
    | inr other ↦ r.made j c other
  ];
}

-- After a pick a core follows its plan still.
pub pick-follows : ControllersFollow → (core : CoreState) (k : ℕ) → FollowsPlan core → FollowsPlan (pick core k)
pick-follows follow core k r = elim (pick-cases core k) [
  | inl rests ↦ subst FollowsPlan (sym rests.same) r
  | inr a ↦ subst FollowsPlan (sym a.later) (acted-follows follow core k r a)
]

-- whether one of the first n controllers steps
some-steps : (core : CoreState) (n : ℕ) → ((k : ℕ) → k < n → pick_answer core k ≡ Ended) ⊎ ((k : ℕ) × (k < n) × (pick_answer core k ≡ Did))
some-steps core zero = inl (λ k h. absurd (omega arith))
some-steps core (suc n) = elim (some-steps core n) [
  | inr s ↦ inr (s.0, omega arith, s.2)
  | inl ended ↦ elim (answer-cases (pick_answer core n)) [
    | inr did ↦ inr (n, omega arith, did)
    | inl none ↦ inl (λ k h. elim (cases_eq k n) [ inl e ↦ rw e none | inr other ↦ ended k (omega arith) ])
  ]
]

-- No state is stuck.
pub live : (core : CoreState) → IsLive core
live core = some-steps core core.plan.controllers

-- ---- a step

pub parts-long : (plan : Plan) (parts : List Part) → parts ≡ parts_of plan → length parts ≡ plan.controllers
parts-long plan parts same = ap length same ∙ length-map-range_with_len (part_of plan) 0 plan.controllers

-- The part that was read at a controller's number is its part.
pub part-read : (plan : Plan) (parts : List Part) (k : ℕ) (part : Part) → parts ≡ parts_of plan → k < plan.controllers → part ≡ get_or parts k part → part ≡ part_of plan k
part-read plan parts k part same within read = read ∙ ap (λ ps. get_or ps k part) same ∙ get_or-map-range_with_len (part_of plan) 0 plan.controllers k k part within (omega arith)
