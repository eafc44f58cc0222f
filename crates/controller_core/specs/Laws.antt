-- What is true of every order of picks. This project's own.
use Rattle.std.specs.Prelude.{◌≡◌, ℕ, ◌≤◌, List, sum}
use Rattle.qs_values.specs.declared.tape.Tape.{Tape}
use Rattle.plan_tree.specs.declared.plan.Plan.{Plan}
use Rattle.plan_tree.specs.Sound.{IsSound, Fits}
use Rattle.controller_core.specs.Core.{CoreState, Runs, start_core}
use Rattle.controller_core.specs.Reached.{IsOver, acts_planned}

-- Whatever the order of picks, a run from the start plays the planned timelines, in as many steps as there are planned acts.
abbrev pub EveryOrderIsTheRun : Type 0
EveryOrderIsTheRun = (plan : Plan) (tape : Tape) (mail : ℕ) (order : List ℕ) (core : CoreState) (stepped waited : ℕ) →
    IsSound plan → Fits plan tape → 1 ≤ mail → mail ≤ 64 → Runs order (start_core plan tape mail) core stepped waited →
    IsOver plan tape mail core × (stepped ≡ sum (acts_planned plan tape))

-- An order has one run.
abbrev pub RunsOnce : Type 0
RunsOnce = (order : List ℕ) (old one other : CoreState) (stepped waited stepped' waited' : ℕ) →
    Runs order old one stepped waited → Runs order old other stepped' waited' → (one ≡ other) × (stepped ≡ stepped') × (waited ≡ waited')
