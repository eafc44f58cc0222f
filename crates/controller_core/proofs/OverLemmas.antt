-- A core whose controllers have all ended is over: each has made its planned acts.
use Rattle.std.proofs.Common.{◌≡◌, ℕ, ◌+◌, ◌<◌, List, [], ◌∷◌, length, map, refl, ap, ap₂, arith, sym, ◌∙◌, subst, inl, inr, suc, take_all, add-zero, zero-add}
use Rattle.std.specs.Prelude.{IsSomeAnd, option_map, sum, slice_get, Some}
use Rattle.std.specs.List.{range_with_len}
use Rattle.std.proofs.lemmas.Bool.{cases_lt}
use Rattle.std.proofs.lemmas.List.Sums.{sum_by-cons}
use Rattle.std.proofs.lemmas.Option.{slice_get-map, slice_get_cases, slice_get_within}
use Rattle.qs_values.specs.declared.tape.Tape.{Tape}
use Rattle.plan_tree.specs.declared.plan.Plan.{Plan}
use Rattle.plan_tree.specs.Acts.{planned_acts}
use Rattle.plan_tree.specs.Run.{Done as RunDone, Ending as RunEnding, run_of}
use Rattle.controller_machine.specs.declared.ctl.Played.{Played}
use Rattle.controller_machine.specs.Alone.{Alone, Ends, Makes, Walker, acts_in, alone_of, last_in, left_after, now_in, shown_after}
use Rattle.controller_machine.specs.declared.stand.Stand.{Stand}
use Rattle.controller_machine.specs.declared.stand.Stand.TheVariants.{At, Over}
use Rattle.controller_machine.specs.Ctl.{CtlState, ending_in, shown_of, tick_in}
use Rattle.controller_machine.specs.Last.{IsLast, ending_as}
use Rattle.controller_machine.specs.Laws.{ControllersFollow, ControllersWalk}
use Rattle.controller_machine.specs.Log.{log_of, logs_planned}
use Rattle.controller_core.specs.declared.picks.Controller.{Controller}
use Rattle.controller_core.specs.Core.{CoreState, HaveEnded, Runs, acts_made, count_in, one_if_stepped, one_if_waited, picks, start_core, start_controller, states_of, sweep_of, with_sweeps}
use Rattle.controller_core.specs.Laws.{EveryOrderIsTheRun, RunsOnce}
use Rattle.controller_core.specs.Reached.{EndsRun, FollowsPlan, IsOver, acts_planned}
use Rattle.controller_core.proofs.PickLemmas.{ended-wants}
use Rattle.controller_core.proofs.StartLemmas.{start-follows}
use Rattle.controller_core.proofs.SweepLemmas.{HasRun, idle-over, picks-mail, picks-made, picks-plan, picks-follows, picks-tape, run-made, run-plan}

-- what a list gives, where each element gives what its number does
list-is : {X Y : Type 0} (g : X → Y) (f : ℕ → Y) (j : ℕ) (xs : List X) → ((k : ℕ) (x : X) → slice_get xs k ≡ Some x → g x ≡ f (j + k)) → map g xs ≡ map f (range_with_len j (length xs))
list-is g f j [] each = refl
list-is g f j (x ∷ xs) each =
    ap₂ (λ y ys. y ∷ ys) (each 0 x refl ∙ ap f (add-zero j))
    (list-is g f (j + 1) xs (λ k y e. each (suc k) y e ∙ ap f (let same : j + suc k ≡ j + 1 + k = omega arith in same)))

logs-states : (cs : List Controller) → map (λ (c : CtlState). c.log) (map (λ (c : Controller). c.ctl) cs) ≡ map (λ (c : Controller). c.ctl.log) cs
logs-states [] = refl
logs-states (c ∷ cs) = ap (λ logs. c.ctl.log ∷ logs) (logs-states cs)

-- a walk after all of its acts
all-made : (a : Alone) → now_in (left_after (length (acts_in a)) a) ≡ last_in a
all-made (Ends last) = refl
all-made (Makes now act rest) = all-made rest

over-at : (plan : Plan) (tape : Tape) (stand : Stand) (ending : RunEnding) (tick : ℕ) → ending_in stand ≡ ending_as ending → tick_in stand ≡ tick → stand ≡ Over (ending_as ending) tick
over-at plan tape (At spot) RunDone tick ended at = absurd cc
over-at plan tape (Over ending tick') last tick ended at = ap₂ Over ended at

-- A hub that shows the run's last state has ended so.
ends-run : (plan : Plan) (tape : Tape) (hub : CtlState) → IsLast plan tape (shown_of hub) → EndsRun plan tape hub
ends-run plan tape hub last = record { stand = over-at plan tape hub.stand (run_of plan tape).ending (run_of plan tape).tick last.ending last.tick; store = last.store }

module _ (walk : ControllersWalk) (core : CoreState) (r : FollowsPlan core) (ended : HaveEnded core) where
  -- each controller has made all of its planned acts
  acts-made : (k : ℕ) (c : Controller) → slice_get core.controllers k ≡ Some c → c.acts ≡ length (planned_acts core.plan core.tape k)
  acts-made k c here = (r.made k c here).follows.ended.0 (ended-wants core k c here (ended k (omega (arith, slice_get_within core.controllers k c here, r.bounds.controllers))))

  log-made : (k : ℕ) (c : Controller) → slice_get core.controllers k ≡ Some c → c.ctl.log ≡ log_of (planned_acts core.plan core.tape k)
  log-made k c here = (r.made k c here).follows.log ∙ ap log_of (take_all c.acts (planned_acts core.plan core.tape k) (omega (arith, acts-made k c here)))

  shown-last : (k : ℕ) (c : Controller) → slice_get core.controllers k ≡ Some c → shown_of c.ctl ≡ (last_in (alone_of core.plan core.tape k)).shown
  shown-last k c here =
      (r.made k c here).follows.shown
      ∙ ap (shown_after core.plan core.tape k) (acts-made k c here ∙ sym (ap length (walk core.plan core.tape k).acts))
      ∙ ap (λ (w : Walker). w.shown) (all-made (alone_of core.plan core.tape k))

  logs-all : map (λ c. c.log) (states_of core) ≡ logs_planned core.plan core.tape
  logs-all =
      let f : ℕ → List Played = λ k. log_of (planned_acts core.plan core.tape k) in
      logs-states core.controllers
      ∙ list-is (λ c. c.ctl.log) f 0 core.controllers (λ k c here. log-made k c here ∙ ap f (sym (zero-add k)))
      ∙ ap (λ n. map f (range_with_len 0 n)) r.bounds.controllers

  acts-all : map (λ c. c.acts) core.controllers ≡ acts_planned core.plan core.tape
  acts-all =
      let f : ℕ → ℕ = λ k. length (planned_acts core.plan core.tape k) in
      list-is (λ c. c.acts) f 0 core.controllers (λ k c here. acts-made k c here ∙ ap f (sym (zero-add k))) ∙ ap (λ n. map f (range_with_len 0 n)) r.bounds.controllers

  hub-last : IsSomeAnd (slice_get (states_of core) 0) (EndsRun core.plan core.tape)
  hub-last = elim (slice_get_cases core.controllers 0).1 [
    | inl some ↦
        let state : slice_get (states_of core) 0 ≡ Some some.0.ctl = slice_get-map (λ (c : Controller). c.ctl) core.controllers 0 ∙ ap (option_map (λ (c : Controller). c.ctl)) some.2 in
        rw state (ends-run core.plan core.tape some.0.ctl (subst (IsLast core.plan core.tape) (sym (shown-last 0 some.0 some.2)) ((walk core.plan core.tape 0).hub refl)))
    | inr none ↦ absurd (omega (arith, none.0, r.bounds.controllers, r.bounds.some))
  ]

  -- Such a core is over.
  pub ended-over : IsOver core.plan core.tape core.mail core
  ended-over = record {
    plan_same = refl;
    tape_same = refl;
    mail_same = refl;
    mailboxes = r.mailboxes;
    ended = ended;
    logs = logs-all;
    acts = acts-all;
    hub = hub-last;
  }

-- A core that is over of the plan, the tape and the capacity that it was made with.
pub over-kept : (plan : Plan) (tape : Tape) (mail : ℕ) (core : CoreState) → core.plan ≡ plan → core.tape ≡ tape → core.mail ≡ mail → IsOver core.plan core.tape core.mail core → IsOver plan tape mail core
over-kept plan tape mail core is_plan is_tape is_mail over =
    subst (λ p. IsOver p tape mail core) is_plan (subst (λ t. IsOver core.plan t mail core) is_tape (subst (λ m. IsOver core.plan core.tape m core) is_mail over))

-- The run is over where a sweep has no step.
pub run-over : ControllersFollow → ControllersWalk → (order : List ℕ) (old now new : CoreState) (stepped waited more : ℕ) → HasRun order old now stepped waited → more ≡ 0 →
    new ≡ picks now (sweep_of now.plan.controllers) → more ≡ count_in one_if_stepped now (sweep_of now.plan.controllers) →
    Runs order old new stepped waited × IsOver old.plan old.tape old.mail new × (stepped + acts_made old ≡ sum (acts_planned old.plan old.tape))
run-over follow walk order old now new stepped waited more run none state steps =
    let idle = idle-over now (sym steps ∙ none) in
    let same = state ∙ idle.0 in
    let ended = subst HaveEnded (sym same) idle.1 in
    let follows = subst FollowsPlan (sym same) run.follows in
    let kept = run-plan order old now stepped waited run in
    let over = over-kept old.plan old.tape old.mail new (ap (λ c. c.plan) same ∙ kept.0) (ap (λ c. c.tape) same ∙ kept.1) (ap (λ c. c.mail) same ∙ kept.2) (ended-over walk new follows ended) in (
      record {
        sweeps = run.sweeps;
        state = same ∙ run.state;
        steps = run.steps;
        waits = run.waits;
        ended = ended;
        until = run.until;
        busy = run.busy;
      },
      over,
      omega (arith, ap acts_made same, run-made order old now stepped waited run, ap sum over.acts),
    )

no-acts : (plan : Plan) (tape : Tape) (ks : List ℕ) → sum (map (λ c. c.acts) (map (start_controller plan tape) ks)) ≡ 0
no-acts plan tape [] = refl
no-acts plan tape (k ∷ ks) = omega (arith, sum_by-cons (λ n. n) 0 (map (λ c. c.acts) (map (start_controller plan tape) ks)), no-acts plan tape ks)

-- Whatever the order of picks, a run from the start is over with all planned acts made.
pub every-order : ControllersFollow → ControllersWalk → EveryOrderIsTheRun
every-order follow walk plan tape mail order core stepped waited sound fits some few run =
    let start : CoreState = start_core plan tape mail in
    let ks : List ℕ = with_sweeps order plan.controllers run.sweeps in
    let follows = subst FollowsPlan (sym run.state) (picks-follows follow start ks (start-follows follow plan tape mail sound.some sound.few sound.weight some few)) in
    let over = over-kept plan tape mail core (ap (λ c. c.plan) run.state ∙ picks-plan start ks) (ap (λ c. c.tape) run.state ∙ picks-tape start ks) (ap (λ c. c.mail) run.state ∙ picks-mail start ks)
    (ended-over walk core follows run.ended) in
    (over, omega (arith, run.steps, picks-made start ks, ap acts_made run.state, ap sum over.acts, no-acts plan tape (range_with_len 0 plan.controllers)))

-- Two runs of an order have as many sweeps.
no-less : (order : List ℕ) (old one other : CoreState) (stepped waited stepped' waited' : ℕ) (run : Runs order old one stepped waited) (run' : Runs order old other stepped' waited') → run.sweeps < run'.sweeps → ⊥
no-less order old one other stepped waited stepped' waited' run run' less = run'.until run.sweeps less (subst HaveEnded run.state run.ended)

-- An order has one run.
pub once : RunsOnce
once order old one other stepped waited stepped' waited' run run' =
    let same : run.sweeps ≡ run'.sweeps = elim (cases_lt run.sweeps run'.sweeps) [
      | inl less ↦ absurd (no-less order old one other stepped waited stepped' waited' run run' less)
      | inr most ↦ elim (cases_lt run'.sweeps run.sweeps) [
        | inl less ↦ absurd (no-less order old other one stepped' waited' stepped waited run' run less)
        | inr least ↦ omega arith
      ]
    ] in
    let pick_wanting = ap (with_sweeps order old.plan.controllers) same in (
      run.state ∙ ap (picks old) pick_wanting ∙ sym run'.state,
      run.steps ∙ ap (count_in one_if_stepped old) pick_wanting ∙ sym run'.steps,
      run.waits ∙ ap (count_in one_if_waited old) pick_wanting ∙ sym run'.waits,
    )
