-- All controllers: picks, sweeps and counts. This project's own.
use Rattle.std.specs.Prelude.{◌≡◌, ◌⊎◌, ℕ, ◌+◌, ◌*◌, ◌<◌, List, [], ◌∷◌, ◌++◌, length, map, sum, replicate, slice_get, slice_set, Option, Some, None, zero, suc}
use Rattle.std.specs.List.{range_with_len}
use Rattle.qs_values.specs.declared.tape.Tape.{Tape}
use Rattle.plan_tree.specs.declared.plan.Plan.{Plan}
use Rattle.controller_machine.specs.declared.ctl.Want.{Want}
use Rattle.controller_machine.specs.declared.ctl.Want.TheVariants.{Go, Ended as WantsNothing}
use Rattle.controller_machine.specs.Ctl.{CtlState, want_of, after_act, start_ctl}
use Rattle.controller_core.specs.declared.picks.Stepped.{Stepped}
use Rattle.controller_core.specs.declared.picks.Stepped.TheVariants.{Stepped as Did, Ended}
use Rattle.controller_core.specs.declared.picks.Controller.{Controller}

-- the plan, the tape and the capacity that a core was made with, each mailbox's list, and each controller with the number of its acts; the mailbox from a to b stands at a times the number of controllers, plus b
pub record CoreState : Type 0 where
  pub plan : Plan
  pub tape : Tape
  pub mail : ℕ
  pub mailboxes : List (List ℕ)
  pub controllers : List Controller

-- the states of a core's controllers, in order of number
abbrev pub states_of : CoreState → List CtlState
states_of core = map (λ c. c.ctl) core.controllers

-- empty mailboxes for so many controllers
abbrev pub no_mail : ℕ → List (List ℕ)
no_mail n = replicate (n * n) []

-- a core of these controllers, whose mailboxes are empty
abbrev pub core_of : Plan → Tape → ℕ → List Controller → CoreState
core_of plan tape mail controllers = record { plan = plan; tape = tape; mail = mail; mailboxes = no_mail (length controllers); controllers = controllers }

-- a controller that has made no act
abbrev pub start_controller : Plan → Tape → ℕ → Controller
start_controller plan tape k = record { ctl = start_ctl plan tape k; acts = 0 }

-- a core at the start
abbrev pub start_core : Plan → Tape → ℕ → CoreState
start_core plan tape mail = core_of plan tape mail (map (start_controller plan tape) (range_with_len 0 plan.controllers))

-- a controller that makes its next act
abbrev pub with_next_act : Controller → Controller
with_next_act c = record { ctl = after_act c.ctl; acts = c.acts + 1 }

-- what a pick of controller k answers where it wants this
abbrev pub answer_wanting : CoreState → ℕ → Want → Stepped
answer_wanting core k WantsNothing = Ended
answer_wanting core k Go = Did

-- the core after a pick of controller k where it wants this
abbrev pub pick_wanting : CoreState → ℕ → Controller → Want → CoreState
pick_wanting core k c WantsNothing = core
pick_wanting core k c Go = record core { controllers = slice_set core.controllers k (with_next_act c) }

-- what a pick answers, where there is a controller of this number
abbrev pub answer_at : CoreState → ℕ → Option Controller → Stepped
answer_at core k None = Ended
answer_at core k (Some c) = answer_wanting core k (want_of c.ctl)

-- the core after a pick, where there is a controller of this number
abbrev pub pick_at : CoreState → ℕ → Option Controller → CoreState
pick_at core k None = core
pick_at core k (Some c) = pick_wanting core k c (want_of c.ctl)

-- what a pick of controller k answers
abbrev pub pick_answer : CoreState → ℕ → Stepped
pick_answer core k = answer_at core k (slice_get core.controllers k)

-- the core after a pick of controller k
abbrev pub pick : CoreState → ℕ → CoreState
pick core k = pick_at core k (slice_get core.controllers k)

-- the core after picks
abbrev pub picks : CoreState → List ℕ → CoreState
picks core [] = core
picks core (k ∷ ks) = picks (pick core k) ks

-- whether an answer counts as a step
abbrev pub one_if_stepped : Stepped → ℕ
one_if_stepped Did = 1
one_if_stepped Ended = 0

-- whether it counts as a wait
abbrev pub one_if_waited : Stepped → ℕ
one_if_waited Did = 0
one_if_waited Ended = 0

-- how many of these picks have such an answer
abbrev pub count_in : (Stepped → ℕ) → CoreState → List ℕ → ℕ
count_in one core [] = 0
count_in one core (k ∷ ks) = one (pick_answer core k) + count_in one (pick core k) ks

-- a sweep over so many controllers
abbrev pub sweep_of : ℕ → List ℕ
sweep_of controllers = range_with_len 0 controllers

-- the picks of an order and then of so many sweeps over all controllers
abbrev pub with_sweeps : List ℕ → ℕ → ℕ → List ℕ
with_sweeps order controllers zero = order
with_sweeps order controllers (suc n) = with_sweeps order controllers n ++ sweep_of controllers

-- No controller has an act left.
abbrev pub HaveEnded : CoreState → Type 0
HaveEnded core = (k : ℕ) → k < core.plan.controllers → pick_answer core k ≡ Ended

-- Some controller's pick steps, or all have ended: no state is stuck.
abbrev pub IsLive : CoreState → Type 0
IsLive core = HaveEnded core ⊎ ((k : ℕ) × (k < core.plan.controllers) × (pick_answer core k ≡ Did))

-- The picks of an order and then sweeps until all have ended, with the counts of these picks: no sweep is made once all have ended, and each sweep has a pick that steps.
pub record Runs (order : List ℕ) (old new : CoreState) (stepped waited : ℕ) : Type 0 where
  pub sweeps : ℕ
  pub state : new ≡ picks old (with_sweeps order old.plan.controllers sweeps)
  pub steps : stepped ≡ count_in one_if_stepped old (with_sweeps order old.plan.controllers sweeps)
  pub waits : waited ≡ count_in one_if_waited old (with_sweeps order old.plan.controllers sweeps)
  pub ended : HaveEnded new
  pub until : (n : ℕ) → n < sweeps → HaveEnded (picks old (with_sweeps order old.plan.controllers n)) → ⊥
  pub busy : (n : ℕ) → n < sweeps → 0 < count_in one_if_stepped (picks old (with_sweeps order old.plan.controllers n)) (sweep_of old.plan.controllers)

-- how many acts the controllers have made
abbrev pub acts_made : CoreState → ℕ
acts_made core = sum (map (λ c. c.acts) core.controllers)
