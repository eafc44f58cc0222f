-- A controller after some of its planned acts, and after the last of them. This project's own.
use Rattle.std.specs.Prelude.{◌≡◌, ◌↔◌, ℕ, ◌≤◌, length, take}
use Rattle.qs_values.specs.declared.tape.Tape.{Tape}
use Rattle.plan_tree.specs.declared.plan.Plan.{Plan}
use Rattle.plan_tree.specs.Acts.{planned_acts}
use Rattle.plan_tree.specs.Parts.{part_of}
use Rattle.plan_tree.specs.Run.{run_of, Ending as RunEnding, Done as RunDone}
use Rattle.controller_machine.specs.declared.ctl.Want.TheVariants.{Ended}
use Rattle.controller_machine.specs.declared.stand.Ending.{Ending}
use Rattle.controller_machine.specs.declared.stand.Ending.TheVariants.{Done}
use Rattle.controller_machine.specs.Alone.{Shown, shown_after}
use Rattle.controller_machine.specs.Ctl.{CtlState, entries_next, shown_of, want_of}
use Rattle.controller_machine.specs.Log.{log_of}

-- how a controller has ended where its run has ended so
abbrev pub ending_as : RunEnding → Ending
ending_as RunDone = Done

-- What the hub shows at last: tick, store and ending are the run's.
pub record IsLast (plan : Plan) (tape : Tape) (shown : Shown) : Type 0 where
  pub tick : shown.tick ≡ (run_of plan tape).tick
  pub store : shown.store ≡ (run_of plan tape).store
  pub ending : shown.ending ≡ ending_as (run_of plan tape).ending

-- Controller k after n of its planned acts: it has its part, it shows what it shows alone after so many, its log is what these play, it wants no act exactly where it has made all of them, and it has room for what the next one plays.
pub record Follows (plan : Plan) (tape : Tape) (k n : ℕ) (c : CtlState) : Type 0 where
  pub part : c.part ≡ part_of plan k
  pub shown : shown_of c ≡ shown_after plan tape k n
  pub log : c.log ≡ log_of (take n (planned_acts plan tape k))
  pub ended : (want_of c ≡ Ended) ↔ (n ≡ length (planned_acts plan tape k))
  pub room : entries_next c ≤ c.room
