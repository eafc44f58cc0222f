-- A core as it is made.
use Rattle.std.proofs.Common.{◌≡◌, ℕ, ◌+◌, ◌<◌, ◌≤◌, List, [], ◌∷◌, ◌++◌, length, map, refl, ap, arith, sym, ◌∙◌, subst, get_or, zero-add}
use Rattle.std.specs.List.{range_with_len}
use Rattle.std.proofs.lemmas.List.FromFn.{get_or-map-range_with_len, length-map-range_with_len, map-range_with_len_more}
use Rattle.std.proofs.lemmas.Option.{get_or_from_slice_get, slice_get_within}
use Rattle.qs_values.specs.declared.tape.Tape.{Tape}
use Rattle.plan_tree.specs.declared.plan.Plan.{Plan}
use Rattle.plan_tree.specs.declared.part.Part.{Part}
use Rattle.plan_tree.specs.Parts.{part_of, parts_of}
use Rattle.plan_tree.specs.Sound.{IsSound, weight_of}
use Rattle.controller_machine.specs.Ctl.{CtlState, start_ctl}
use Rattle.controller_machine.specs.Laws.{ControllersFollow}
use Rattle.controller_core.specs.declared.picks.Controller.{Controller}
use Rattle.controller_core.specs.Core.{CoreState, IsLive, core_of, no_mail, start_core, start_controller}
use Rattle.controller_core.specs.Reached.{FollowsPlan, IsBounded, IsReached}
use Rattle.controller_core.proofs.PickLemmas.{live, made-start, part-read, parts-long}

-- The part that was read is that of its number.
pub part-made : (plan : Plan) (parts : List Part) (k : ℕ) (part : Part) → parts ≡ parts_of plan → k < length parts → part ≡ get_or parts k part →
    (part.controller ≡ k) × (part.controller < plan.controllers) × (part ≡ part_of plan part.controller)
part-made plan parts k part same within read =
    let few : k < plan.controllers = omega (arith, parts-long plan parts same) in
    let is_part = part-read plan parts k part same few read in
    let is_k : part.controller ≡ k = ap (λ p. p.controller) is_part in
    (is_k, omega arith, is_part ∙ ap (part_of plan) (sym is_k))

-- One controller more stands at its start.
pub start-push : (plan : Plan) (tape : Tape) (k controller : ℕ) (ctl : CtlState) (items new : List Controller) → items ≡ map (start_controller plan tape) (range_with_len 0 k) →
    ctl ≡ start_ctl plan tape controller → controller ≡ k → new ≡ items ++ record { ctl = ctl; acts = 0 } ∷ [] → new ≡ map (start_controller plan tape) (range_with_len 0 (k + 1))
start-push plan tape k controller ctl items new so_far is_ctl is_k pushed =
    rw (pushed, is_ctl, is_k, so_far) (sym (map-range_with_len_more (start_controller plan tape) 0 k k (zero-add k)))

-- A core that is made of these is one at the start.
pub core-made : (plan snap_plan : Plan) (tape snap_tape : Tape) (mail k : ℕ) (items : List Controller) (parts : List Part) → snap_plan ≡ plan → snap_tape ≡ tape → parts ≡ parts_of plan →
    items ≡ map (start_controller plan tape) (range_with_len 0 k) → length parts ≤ k → k ≤ length parts →
    core_of snap_plan snap_tape mail items ≡ start_core plan tape mail
core-made plan snap_plan tape snap_tape mail k items parts is_plan is_tape same so_far most least =
    let all : k ≡ plan.controllers = omega (arith, parts-long plan parts same) in
    rw (is_plan, is_tape, so_far, all) refl

-- It has from 1 to 16 controllers.
pub made-few : (plan : Plan) (tape : Tape) (len k : ℕ) (items : List Controller) (parts : List Part) → len ≡ length items → IsSound plan → parts ≡ parts_of plan →
    items ≡ map (start_controller plan tape) (range_with_len 0 k) → length parts ≤ k → k ≤ length parts → (1 ≤ len) × (len ≤ 16)
made-few plan tape len k items parts is_len sound same so_far most least =
    let all : len ≡ plan.controllers = omega (arith, parts-long plan parts same, ap length so_far, length-map-range_with_len (start_controller plan tape) 0 k) in
    (omega (arith, sound.some), omega (arith, sound.few))

start-bounded : (plan : Plan) (tape : Tape) (mail : ℕ) → 1 ≤ plan.controllers → plan.controllers ≤ 16 → weight_of plan ≤ 1048576 → 1 ≤ mail → mail ≤ 64 → IsBounded (start_core plan tape mail)
start-bounded plan tape mail some few weight some_mail few_mail = record {
  some = some;
  few = few;
  weight = weight;
  some_mail = some_mail;
  few_mail = few_mail;
  controllers = length-map-range_with_len (start_controller plan tape) 0 plan.controllers;
}

-- A core at the start follows its plan.
pub start-follows : ControllersFollow → (plan : Plan) (tape : Tape) (mail : ℕ) → 1 ≤ plan.controllers → plan.controllers ≤ 16 → weight_of plan ≤ 1048576 → 1 ≤ mail → mail ≤ 64 → FollowsPlan (start_core plan tape mail)
start-follows follow plan tape mail some few weight some_mail few_mail = record {
  bounds = start-bounded plan tape mail some few weight some_mail few_mail;
  mailboxes = ap no_mail (length-map-range_with_len (start_controller plan tape) 0 plan.controllers);
  made = λ k c here.
      let within = slice_get_within (map (start_controller plan tape) (range_with_len 0 plan.controllers)) k c here in
      let few : k < plan.controllers = omega (arith, within, length-map-range_with_len (start_controller plan tape) 0 plan.controllers) in
      let is : c ≡ start_controller plan tape k =
      sym (get_or_from_slice_get (map (start_controller plan tape) (range_with_len 0 plan.controllers)) k c c here) ∙ get_or-map-range_with_len (start_controller plan tape) 0 plan.controllers k k c few (zero-add k) in
      made-start follow plan tape k c (ap (λ d. d.acts) is) (ap (λ d. d.ctl) is);
}

-- So does one that is made.
pub made-follows : ControllersFollow → (plan : Plan) (tape : Tape) (mail : ℕ) (core : CoreState) → core ≡ start_core plan tape mail → IsSound plan → 1 ≤ mail → mail ≤ 64 → FollowsPlan core
made-follows follow plan tape mail core start sound some few = subst FollowsPlan (sym start) (start-follows follow plan tape mail sound.some sound.few sound.weight some few)

-- It is reached by no pick.
pub made-reached : (plan : Plan) (tape : Tape) (mail : ℕ) (core : CoreState) → core ≡ start_core plan tape mail → IsSound plan → 1 ≤ mail → mail ≤ 64 → IsReached core
made-reached plan tape mail core start sound some few =
    subst IsReached (sym start) (record { bounds = start-bounded plan tape mail sound.some sound.few sound.weight some few; order = []; state = refl })

-- the same start of the same plan, tape and capacity
pub start-as : (plan plan' : Plan) (tape tape' : Tape) (mail mail' : ℕ) → plan' ≡ plan → tape' ≡ tape → mail' ≡ mail → start_core plan tape mail ≡ start_core plan' tape' mail'
start-as plan plan' tape tape' mail mail' is_plan is_tape is_mail = rw (is_plan, is_tape, is_mail) refl

-- No state of a core is stuck.
pub made-live : (core start : CoreState) → core ≡ start → IsLive core
made-live core start same = live core
