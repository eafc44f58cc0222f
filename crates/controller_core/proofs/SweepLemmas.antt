-- Picks one after another, in an order and in sweeps.
use Rattle.std.proofs.Common.{◌≡◌, ℕ, ◌+◌, ◌-◌, ◌*◌, ◌<◌, ◌≤◌, List, [], ◌∷◌, ◌++◌, length, map, refl, ap, arith, sym, ◌∙◌, subst, inl, inr, zero, suc, add-zero, zero-add}
use Rattle.std.specs.Prelude.{sum, slice_get, Some}
use Rattle.std.specs.List.{range_with_len}
use Rattle.std.proofs.lemmas.Bool.{cases_eq}
use Rattle.std.proofs.lemmas.List.Sums.{sum_by-cons}
use Rattle.qs_values.specs.declared.tape.Tape.{Tape}
use Rattle.plan_tree.specs.declared.plan.Plan.{Plan}
use Rattle.plan_tree.specs.Acts.{planned_acts}
use Rattle.plan_tree.specs.Sound.{weight_of}
use Rattle.controller_machine.specs.Laws.{ActsAreFew, ControllersFollow}
use Rattle.controller_core.specs.declared.picks.Stepped.{Stepped}
use Rattle.controller_core.specs.declared.picks.Stepped.TheVariants.{Stepped as Did, Ended}
use Rattle.controller_core.specs.declared.picks.Controller.{Controller}
use Rattle.controller_core.specs.Core.{CoreState, HaveEnded, acts_made, count_in, one_if_stepped, one_if_waited, pick, pick_answer, picks, start_core, sweep_of, with_sweeps}
use Rattle.controller_core.specs.Reached.{FollowsPlan, IsReached, acts_planned}
use Rattle.controller_core.proofs.StartLemmas.{start-as, start-follows}
use Rattle.controller_core.proofs.PickLemmas.{ended-same, pick-count, pick-idle, pick-mail, pick-made, pick-plan, pick-follows, pick-tape}

-- Picks joined.
picks-append : (core : CoreState) (xs ys : List ℕ) → picks core (xs ++ ys) ≡ picks (picks core xs) ys
picks-append core [] ys = refl
picks-append core (k ∷ xs) ys = picks-append (pick core k) xs ys

count-append : (one : Stepped → ℕ) (core : CoreState) (xs ys : List ℕ) → count_in one core (xs ++ ys) ≡ count_in one core xs + count_in one (picks core xs) ys
count-append one core [] ys = omega arith
count-append one core (k ∷ xs) ys = omega (arith, count-append one (pick core k) xs ys)

-- Picks keep the plan, the tape and the capacity, and a core follows its plan after them.
pub picks-plan : (core : CoreState) (ks : List ℕ) → (picks core ks).plan ≡ core.plan
picks-plan core [] = refl
picks-plan core (k ∷ ks) = picks-plan (pick core k) ks ∙ pick-plan core k

pub picks-tape : (core : CoreState) (ks : List ℕ) → (picks core ks).tape ≡ core.tape
picks-tape core [] = refl
picks-tape core (k ∷ ks) = picks-tape (pick core k) ks ∙ pick-tape core k

pub picks-mail : (core : CoreState) (ks : List ℕ) → (picks core ks).mail ≡ core.mail
picks-mail core [] = refl
picks-mail core (k ∷ ks) = picks-mail (pick core k) ks ∙ pick-mail core k

pub picks-follows : ControllersFollow → (core : CoreState) (ks : List ℕ) → FollowsPlan core → FollowsPlan (picks core ks)
picks-follows follow core [] r = r
picks-follows follow core (k ∷ ks) r = picks-follows follow (pick core k) ks (pick-follows follow core k r)

-- A core that picks lead to follows its plan.
pub reached-follows : ControllersFollow → (core : CoreState) → IsReached core → FollowsPlan core
reached-follows follow core r =
    let start = start-follows follow core.plan core.tape core.mail r.bounds.some r.bounds.few r.bounds.weight r.bounds.some_mail r.bounds.few_mail in
    subst FollowsPlan (sym r.state) (picks-follows follow (start_core core.plan core.tape core.mail) r.order start)

-- A pick more leads to another.
pub pick-reached : (core : CoreState) (k : ℕ) → IsReached core → IsReached (pick core k)
pick-reached core k r =
    let start = start_core core.plan core.tape core.mail in
    let moved = ap (λ c. pick c k) r.state ∙ sym (picks-append start r.order (k ∷ [])) in
    let same = start-as core.plan (pick core k).plan core.tape (pick core k).tape core.mail (pick core k).mail (pick-plan core k) (pick-tape core k) (pick-mail core k) in
    record {
      bounds = record {
        some = omega (arith, ap (λ p. p.controllers) (pick-plan core k), r.bounds.some);
        few = omega (arith, ap (λ p. p.controllers) (pick-plan core k), r.bounds.few);
        weight = omega (arith, ap weight_of (pick-plan core k), r.bounds.weight);
        some_mail = omega (arith, pick-mail core k, r.bounds.some_mail);
        few_mail = omega (arith, pick-mail core k, r.bounds.few_mail);
        controllers = omega (arith, pick-count core k, ap (λ p. p.controllers) (pick-plan core k), r.bounds.controllers);
      };
      order = r.order ++ k ∷ [];
      state = moved ∙ ap (λ c. picks c (r.order ++ k ∷ [])) same;
    }

-- The picks that step count all acts.
pub picks-made : (core : CoreState) (ks : List ℕ) → acts_made (picks core ks) ≡ acts_made core + count_in one_if_stepped core ks
picks-made core [] = omega arith
picks-made core (k ∷ ks) = omega (arith, picks-made (pick core k) ks, pick-made core k)

stepped-most : (a : Stepped) → one_if_stepped a ≤ 1
stepped-most Did = omega arith
stepped-most Ended = omega arith

waited-most : (a : Stepped) → one_if_waited a ≤ 1
waited-most Did = omega arith
waited-most Ended = omega arith

no-wait : (a : Stepped) → one_if_waited a ≡ 0
no-wait Did = refl
no-wait Ended = refl

-- No more picks count than there are.
count-most : (one : Stepped → ℕ) → ((a : Stepped) → one a ≤ 1) → (core : CoreState) (ks : List ℕ) → count_in one core ks ≤ length ks
count-most one most core [] = omega arith
count-most one most core (k ∷ ks) = omega (arith, most (pick_answer core k), count-most one most (pick core k) ks)

-- Of these picks from an old core some are still to be made.
pub record Goes (old : CoreState) (all : List ℕ) (now : CoreState) (left : List ℕ) (stepped waited : ℕ) : Type 0 where
  pub plan : now.plan ≡ old.plan
  pub state : picks now left ≡ picks old all
  pub steps : stepped + count_in one_if_stepped now left ≡ count_in one_if_stepped old all
  pub waits : waited + count_in one_if_waited now left ≡ count_in one_if_waited old all

pub goes-start : (old : CoreState) (all : List ℕ) → Goes old all old all 0 0
goes-start old all = record { plan = refl; state = refl; steps = omega arith; waits = omega arith }

pub goes-on : (old now new : CoreState) (all left rest : List ℕ) (k stepped waited : ℕ) (answer : Stepped) → Goes old all now left stepped waited → left ≡ k ∷ rest →
    new ≡ pick now k → answer ≡ pick_answer now k → Goes old all new rest (stepped + one_if_stepped answer) (waited + one_if_waited answer)
goes-on old now new all left rest k stepped waited answer goes is_left is_new is_answer = record {
  plan = ap (λ c. c.plan) is_new ∙ pick-plan now k ∙ goes.plan;
  state = ap (λ c. picks c rest) is_new ∙ ap (picks now) (sym is_left) ∙ goes.state;
  steps = omega (arith, goes.steps, ap (count_in one_if_stepped now) is_left, ap (λ c. count_in one_if_stepped c rest) is_new, ap one_if_stepped is_answer);
  waits = omega (arith, goes.waits, ap (count_in one_if_waited now) is_left, ap (λ c. count_in one_if_waited c rest) is_new, ap one_if_waited is_answer);
}

pub goes-few : (old now : CoreState) (all left : List ℕ) (stepped waited : ℕ) → Goes old all now left stepped waited → (stepped ≤ length all) × (waited ≤ length all)
goes-few old now all left stepped waited goes =
    (omega (arith, goes.steps, count-most one_if_stepped stepped-most old all), omega (arith, goes.waits, count-most one_if_waited waited-most old all))

-- Picks of which none steps change nothing.
idle-same : (core : CoreState) (ks : List ℕ) → count_in one_if_stepped core ks ≡ 0 → picks core ks ≡ core
idle-same core [] idle = refl
idle-same core (k ∷ ks) idle =
    let same = (pick-idle core k (omega arith)).0 in
    ap (λ c. picks c ks) same ∙ idle-same core ks (omega (arith, ap (λ c. count_in one_if_stepped c ks) same))

-- A number of the next n has ended where none of them steps.
idle-ended : (core : CoreState) (j n k : ℕ) → count_in one_if_stepped core (range_with_len j n) ≡ 0 → k < n → pick_answer core (j + k) ≡ Ended
idle-ended core j zero k idle h = absurd (omega arith)
idle-ended core j (suc n) zero idle h = ap (pick_answer core) (omega arith) ∙ (pick-idle core j (omega arith)).1
idle-ended core j (suc n) (suc k) idle h =
    let same = (pick-idle core j (omega arith)).0 in
    ap (pick_answer core) (omega arith) ∙ idle-ended core (j + 1) n k (omega (arith, ap (λ c. count_in one_if_stepped c (range_with_len (j + 1) n)) same)) (omega arith)

-- A sweep in which none steps shows that all have ended.
idle-sweep : (core : CoreState) → count_in one_if_stepped core (sweep_of core.plan.controllers) ≡ 0 → HaveEnded core
idle-sweep core idle k h = ap (pick_answer core) (omega arith) ∙ idle-ended core 0 core.plan.controllers k idle h

-- It changes nothing.
pub idle-over : (core : CoreState) → count_in one_if_stepped core (sweep_of core.plan.controllers) ≡ 0 → (picks core (sweep_of core.plan.controllers) ≡ core) × HaveEnded core
idle-over core idle = (idle-same core (sweep_of core.plan.controllers) idle, idle-sweep core idle)

range-idle : (core : CoreState) → HaveEnded core → (k n : ℕ) → k + n ≤ core.plan.controllers → count_in one_if_stepped core (range_with_len k n) ≡ 0
range-idle core ended k zero within = refl
range-idle core ended k (suc n) within =
    let here = ended k (omega arith) in
    omega (arith, ap one_if_stepped here, ap (λ c. count_in one_if_stepped c (range_with_len (k + 1) n)) (ended-same core k here), range-idle core ended (k + 1) n (omega arith))

-- Where all have ended, no pick of a sweep steps.
ended-idle : (core : CoreState) → HaveEnded core → count_in one_if_stepped core (sweep_of core.plan.controllers) ≡ 0
ended-idle core ended = range-idle core ended 0 core.plan.controllers (omega arith)

-- ---- a run

-- The order's picks and so many sweeps were made, and in each sweep one stepped.
pub record HasRun (order : List ℕ) (old now : CoreState) (stepped waited : ℕ) : Type 0 where
  pub sweeps : ℕ
  pub follows : FollowsPlan now
  pub state : now ≡ picks old (with_sweeps order old.plan.controllers sweeps)
  pub steps : stepped ≡ count_in one_if_stepped old (with_sweeps order old.plan.controllers sweeps)
  pub waits : waited ≡ count_in one_if_waited old (with_sweeps order old.plan.controllers sweeps)
  pub until : (n : ℕ) → n < sweeps → HaveEnded (picks old (with_sweeps order old.plan.controllers n)) → ⊥
  pub busy : (n : ℕ) → n < sweeps → 0 < count_in one_if_stepped (picks old (with_sweeps order old.plan.controllers n)) (sweep_of old.plan.controllers)

pub run-ordered : ControllersFollow → (order : List ℕ) (seen old now : CoreState) (stepped waited : ℕ) → seen ≡ old → IsReached seen → now ≡ picks old order →
    stepped ≡ count_in one_if_stepped old order → waited ≡ count_in one_if_waited old order → HasRun order old now stepped waited
run-ordered follow order seen old now stepped waited is r state steps waits = record {
  sweeps = 0;
  follows = subst FollowsPlan (sym state) (picks-follows follow old order (reached-follows follow old (subst IsReached is r)));
  state = state;
  steps = steps;
  waits = waits;
  until = λ n less ended. absurd (omega arith);
  busy = λ n less. absurd (omega arith);
}

pub run-plan : (order : List ℕ) (old now : CoreState) (stepped waited : ℕ) → HasRun order old now stepped waited → (now.plan ≡ old.plan) × (now.tape ≡ old.tape) × (now.mail ≡ old.mail)
run-plan order old now stepped waited run =
    let ks = with_sweeps order old.plan.controllers run.sweeps in
    (ap (λ c. c.plan) run.state ∙ picks-plan old ks, ap (λ c. c.tape) run.state ∙ picks-tape old ks, ap (λ c. c.mail) run.state ∙ picks-mail old ks)

-- The steps of a run are the acts that it made.
pub run-made : (order : List ℕ) (old now : CoreState) (stepped waited : ℕ) → HasRun order old now stepped waited → acts_made now ≡ acts_made old + stepped
run-made order old now stepped waited run = omega (arith, ap acts_made run.state, picks-made old (with_sweeps order old.plan.controllers run.sweeps), run.steps)

-- One sweep more.
pub run-swept : ControllersFollow → (order : List ℕ) (old now new : CoreState) (stepped waited more_stepped more_waited : ℕ) → HasRun order old now stepped waited → 0 < more_stepped →
    new ≡ picks now (sweep_of now.plan.controllers) → more_stepped ≡ count_in one_if_stepped now (sweep_of now.plan.controllers) →
    more_waited ≡ count_in one_if_waited now (sweep_of now.plan.controllers) → HasRun order old new (stepped + more_stepped) (waited + more_waited)
run-swept follow order old now new stepped waited more_stepped more_waited run some state steps waits =
    let n = old.plan.controllers in
    let same = ap (λ p. sweep_of p.controllers) (run-plan order old now stepped waited run).0 in
    let ks = with_sweeps order n run.sweeps in
    let added : more_stepped ≡ count_in one_if_stepped (picks old ks) (sweep_of n) = steps ∙ ap (count_in one_if_stepped now) same ∙ ap (λ c. count_in one_if_stepped c (sweep_of n)) run.state in
    record {
      sweeps = suc run.sweeps;
      follows = subst FollowsPlan (sym state) (picks-follows follow now (sweep_of now.plan.controllers) run.follows);
      state = state ∙ ap (picks now) same ∙ ap (λ c. picks c (sweep_of n)) run.state ∙ sym (picks-append old ks (sweep_of n));
      steps = omega (arith, run.steps, added, count-append one_if_stepped old ks (sweep_of n));
      waits = omega (arith, run.waits, waits, ap (count_in one_if_waited now) same, ap (λ c. count_in one_if_waited c (sweep_of n)) run.state, count-append one_if_waited old ks (sweep_of n));
      until = λ m less ended. elim (cases_eq m run.sweeps) [
        | inl last ↦ absurd (omega (arith, steps, ended-idle now (subst HaveEnded (ap (λ i. picks old (with_sweeps order n i)) last ∙ sym run.state) ended)))
        | inr other ↦ run.until m (omega arith) ended
      ];
      busy = λ m less. elim (cases_eq m run.sweeps) [
        | inl last ↦ omega (arith, some, added, ap (λ i. count_in one_if_stepped (picks old (with_sweeps order n i)) (sweep_of n)) last)
        | inr other ↦ run.busy m (omega arith)
      ];
    }

-- ---- counts

-- sums over controllers, the first of them of number j
sum-most : (f : ℕ → ℕ) (j : ℕ) (cs : List Controller) → ((k : ℕ) (c : Controller) → slice_get cs k ≡ Some c → c.acts ≤ f (j + k)) → sum (map (λ c. c.acts) cs) ≤ sum (map f (range_with_len j (length cs)))
sum-most f j [] most = omega arith
sum-most f j (c ∷ cs) most =
    omega (
      arith,
      most 0 c refl,
      ap f (add-zero j),
      sum-most f (j + 1) cs (λ k d e. omega (arith, most (suc k) d e, ap f (let same : j + suc k ≡ j + 1 + k = omega arith in same))),
      sum_by-cons (λ n. n) c.acts (map (λ c. c.acts) cs),
      sum_by-cons (λ n. n) (f j) (map f (range_with_len (j + 1) (length cs))),
    )

-- No more acts are made than are planned.
made-most : (core : CoreState) → FollowsPlan core → acts_made core ≤ sum (acts_planned core.plan core.tape)
made-most core r =
    let f : ℕ → ℕ = λ k. length (planned_acts core.plan core.tape k) in
    omega (arith, sum-most f 0 core.controllers (λ k c e. omega (arith, (r.made k c e).within, ap f (zero-add k))), ap (λ n. sum (map f (range_with_len 0 n))) r.bounds.controllers)

acts-sum : ActsAreFew → (plan : Plan) (tape : Tape) (n k : ℕ) → weight_of plan ≤ 1048576 → sum (map (λ k. length (planned_acts plan tape k)) (range_with_len k n)) ≤ 1048576 * n
acts-sum few plan tape zero k light = omega arith
acts-sum few plan tape (suc n) k light =
    omega (arith, sum_by-cons (λ n. n) (length (planned_acts plan tape k)) (map (λ k. length (planned_acts plan tape k)) (range_with_len (k + 1) n)), few plan tape k, light, acts-sum few plan tape n (k + 1) light)

-- So a run's steps are few.
pub run-few : ActsAreFew → (order : List ℕ) (old now : CoreState) (stepped waited : ℕ) → HasRun order old now stepped waited → stepped ≤ 16777216
run-few few order old now stepped waited run =
    omega (arith, run-made order old now stepped waited run, made-most now run.follows, acts-sum few now.plan now.tape now.plan.controllers 0 run.follows.bounds.weight, run.follows.bounds.few)

no-waits : (core : CoreState) (ks : List ℕ) → count_in one_if_waited core ks ≡ 0
no-waits core [] = refl
no-waits core (k ∷ ks) = omega (arith, no-wait (pick_answer core k), no-waits (pick core k) ks)

-- A run waits as often as its picks do.
pub run-waits : (order : List ℕ) (old now : CoreState) (stepped waited : ℕ) → HasRun order old now stepped waited → waited ≡ 0
run-waits order old now stepped waited run = run.waits ∙ no-waits old (with_sweeps order old.plan.controllers run.sweeps)

-- A run that made more steps has less acts left.
pub run-smaller : (order : List ℕ) (old now new : CoreState) (stepped waited more_stepped more_waited : ℕ) → HasRun order old now stepped waited → HasRun order old new more_stepped more_waited →
    stepped < more_stepped → sum (acts_planned old.plan old.tape) - acts_made new < sum (acts_planned old.plan old.tape) - acts_made now
run-smaller order old now new stepped waited more_stepped more_waited run more less =
    let kept = run-plan order old new more_stepped more_waited more in
    omega (
      arith,
      run-made order old now stepped waited run,
      run-made order old new more_stepped more_waited more,
      made-most new more.follows,
      ap (λ p. sum (acts_planned p new.tape)) kept.0,
      ap (λ t. sum (acts_planned old.plan t)) kept.1,
    )
