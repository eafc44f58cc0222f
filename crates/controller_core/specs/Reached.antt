-- The states of a core: those that picks lead to, and the last one. This project's own.
use Rattle.std.specs.Prelude.{◌≡◌, ℕ, ◌≤◌, List, length, map, slice_get, IsSomeAnd, Some}
use Rattle.std.specs.List.{range_with_len}
use Rattle.qs_values.specs.declared.tape.Tape.{Tape}
use Rattle.plan_tree.specs.declared.plan.Plan.{Plan}
use Rattle.plan_tree.specs.Acts.{planned_acts}
use Rattle.plan_tree.specs.Run.{run_of}
use Rattle.plan_tree.specs.Sound.{weight_of}
use Rattle.controller_machine.specs.declared.stand.Stand.TheVariants.{Over}
use Rattle.controller_machine.specs.Ctl.{CtlState, state_after}
use Rattle.controller_machine.specs.Last.{Follows, ending_as}
use Rattle.controller_machine.specs.Log.{logs_planned}
use Rattle.controller_core.specs.declared.picks.Controller.{Controller}
use Rattle.controller_core.specs.Core.{CoreState, HaveEnded, no_mail, picks, start_core, states_of}

-- Controller k has made the first of its planned acts, as many as it counts, and follows its walk.
pub record HasMade (plan : Plan) (tape : Tape) (k : ℕ) (c : Controller) : Type 0 where
  pub state : c.ctl ≡ state_after plan tape k c.acts
  pub within : c.acts ≤ length (planned_acts plan tape k)
  pub follows : Follows plan tape k c.acts c.ctl

-- A core has as many controllers as its plan, from 1 to 16, a weight that bounds how often they step, and a capacity from 1 to 64.
pub record IsBounded (core : CoreState) : Type 0 where
  pub some : 1 ≤ core.plan.controllers
  pub few : core.plan.controllers ≤ 16
  pub weight : weight_of core.plan ≤ 1048576
  pub some_mail : 1 ≤ core.mail
  pub few_mail : core.mail ≤ 64
  pub controllers : length core.controllers ≡ core.plan.controllers

-- A core whose controllers have each made the first of their planned acts, and follow their walks.
pub record FollowsPlan (core : CoreState) : Type 0 where
  pub bounds : IsBounded core
  pub mailboxes : core.mailboxes ≡ no_mail core.plan.controllers
  pub made : (k : ℕ) (c : Controller) → slice_get core.controllers k ≡ Some c → HasMade core.plan core.tape k c

-- A core that some picks lead to from its start.
pub record IsReached (core : CoreState) : Type 0 where
  pub bounds : IsBounded core
  pub order : List ℕ
  pub state : core ≡ picks (start_core core.plan core.tape core.mail) order

-- how many acts each controller has in the plan, in order of number
abbrev pub acts_planned : Plan → Tape → List ℕ
acts_planned plan tape = map (λ k. length (planned_acts plan tape k)) (range_with_len 0 plan.controllers)

-- The hub has ended as the run has, at its last tick and with its last variables.
pub record EndsRun (plan : Plan) (tape : Tape) (hub : CtlState) : Type 0 where
  pub stand : hub.stand ≡ Over (ending_as (run_of plan tape).ending) (run_of plan tape).tick
  pub store : hub.store ≡ (run_of plan tape).store

-- A run of a plan on a tape is over: plan, tape and capacity are what they were, no mailbox holds anything, each log is its controller's planned timeline, each controller has made all of its planned acts, and the hub has the run's last state.
pub record IsOver (plan : Plan) (tape : Tape) (mail : ℕ) (core : CoreState) : Type 0 where
  pub plan_same : core.plan ≡ plan
  pub tape_same : core.tape ≡ tape
  pub mail_same : core.mail ≡ mail
  pub mailboxes : core.mailboxes ≡ no_mail plan.controllers
  pub ended : HaveEnded core
  pub logs : map (λ c. c.log) (states_of core) ≡ logs_planned plan tape
  pub acts : map (λ c. c.acts) core.controllers ≡ acts_planned plan tape
  pub hub : IsSomeAnd (slice_get (states_of core) 0) (EndsRun plan tape)
