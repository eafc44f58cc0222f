-- What controllers play has ports and waveforms of events of the plan.
use Rattle.std.proofs.Common.{◌≡◌, ℕ, ◌+◌, List, [], ◌∷◌, ap, true}
use Rattle.std.specs.Prelude.{All, Bool, IfSome, nat_eq}
use Rattle.std.proofs.lemmas.List.Elements.{All-nil, All-head, All-tail, All-append, All-same, filter_map-append}
use Rattle.plan_tree.specs.declared.frame.FrameState.{FrameState}
use Rattle.plan_tree.specs.declared.plan.Event.{Event}
use Rattle.plan_tree.specs.declared.plan.Deed.{Deed}
use Rattle.plan_tree.specs.declared.plan.Deed.TheVariants.{Pulse}
use Rattle.plan_tree.specs.declared.plan.PlanStmt.{PlanStmt}
use Rattle.plan_tree.specs.declared.plan.PlanStmt.TheVariants.{Block}
use Rattle.plan_tree.specs.Run.{Place, run_of, start_frames}
use Rattle.plan_tree.specs.Acts.{actor, all_acts}
use Rattle.controller_machine.specs.declared.ctl.Played.{Played}
use Rattle.controller_machine.specs.Laws.{PassesDeed, PassesStmt, PlaysAreEvents}
use Rattle.controller_machine.specs.Log.{played_by, played_in, timeline_of}
use Rattle.controller_machine.proofs.Entries.{entry_of, event_entries, stmt_entries, entries_of, length_in, run-trace}
use Rattle.controller_machine.proofs.InOrder.{All-cons_option, All-part}
use Rattle.controller_machine.proofs.Timeline.{all-log}

-- a play whose port and waveform pass a test
abbrev Passes : (ℕ → ℕ → Bool) → Played → Type 0
Passes test p = test p.port p.wave ≡ true

entry-passes : (test : ℕ → ℕ → Bool) (frames : List FrameState) (here : Place) (tick : ℕ) (e : Event) (d : Deed) → PassesDeed test e.port d → IfSome (played_in (entry_of frames here tick e d)) (Passes test)
entry-passes test frames here tick e (Pulse f w) passes = passes

events-pass : (test : ℕ → ℕ → Bool) (frames : List FrameState) (here : Place) (n tick : ℕ) (events : List Event) → All (λ e. PassesDeed test e.port e.act) events → All (Passes test) (timeline_of (event_entries frames here n tick events))
events-pass test frames here n tick [] all = All-nil (Passes test)
events-pass test frames here n tick (e ∷ es) all =
    All-cons_option (Passes test) (played_in (entry_of frames (n ∷ here) tick e e.act)) (timeline_of (event_entries frames here (n + 1) tick es))
    (entry-passes test frames (n ∷ here) tick e e.act (All-head (λ e. PassesDeed test e.port e.act) e es all))
    (events-pass test frames here (n + 1) tick es (All-tail (λ e. PassesDeed test e.port e.act) e es all))

stmt-passes : (test : ℕ → ℕ → Bool) (frames : List FrameState) (here : Place) (tick : ℕ) (x : PlanStmt) → PassesStmt test x → All (Passes test) (timeline_of (stmt_entries frames here tick x))
stmt-passes test frames here tick (Block b) passes = events-pass test frames here 0 tick b.events passes

body-passes : (test : ℕ → ℕ → Bool) (frames : List FrameState) (here : Place) (n tick : ℕ) (body : List PlanStmt) → All (PassesStmt test) body → All (Passes test) (timeline_of (entries_of frames here n tick body))
body-passes test frames here n tick [] all = All-nil (Passes test)
body-passes test frames here n tick (x ∷ xs) all =
    All-same (Passes test) _ _ (filter_map-append played_in (stmt_entries frames (n ∷ here) tick x) (entries_of frames here (n + 1) (tick + length_in x) xs))
    (All-append (Passes test) _ _ (stmt-passes test frames (n ∷ here) tick x (All-head (PassesStmt test) x xs all))
    (body-passes test frames here (n + 1) (tick + length_in x) xs (All-tail (PassesStmt test) x xs all)))

pub plays-are-events : PlaysAreEvents
plays-are-events test plan tape k all =
    All-part (Passes test) played_by (λ a. nat_eq (actor a) k) (all_acts plan (run_of plan tape).trace)
    (All-same (Passes test) _ _ (all-log plan (run_of plan tape).trace)
    (All-same (Passes test) _ _ (ap timeline_of (run-trace plan tape)) (body-passes test (start_frames plan.frames) [] 0 0 plan.body all)))
