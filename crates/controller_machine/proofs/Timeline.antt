-- The timeline of a run is the logs of all controllers, in another order.
use Rattle.std.proofs.Common.{◌≡◌, ◌≢◌, ℕ, ◌+◌, ◌<◌, ◌≤◌, List, [], ◌∷◌, ◌++◌, refl, ap, arith, ◌∙◌, subst, cond, true, false, get_or}
use Rattle.std.specs.Prelude.{Bool, Option, Some, None, All, filter, map, not, nat_eq, zero, suc}
use Rattle.std.specs.List.{flat_map, cons_option, range_with_len}
use Rattle.std.specs.List.Sorted.{IsPermutation}
use Rattle.std.proofs.lemmas.Bool.Decides.{nat_tests}
use Rattle.std.proofs.lemmas.List.Concat.{flat_map-append}
use Rattle.std.proofs.lemmas.List.Elements.{All-nil, All-cons, All-head, All-tail, All-append, All-filter, All-same, filter_passes}
use Rattle.std.proofs.lemmas.List.Sorted.{IsPermutation-refl, IsPermutation-sym, IsPermutation-trans, IsPermutation-cons, IsPermutation-middle, IsPermutation-append_right}
use Rattle.plan_tree.specs.declared.frame.FrameState.{FrameState}
use Rattle.plan_tree.specs.declared.plan.Plan.{Plan}
use Rattle.plan_tree.specs.declared.plan.Event.{Event}
use Rattle.plan_tree.specs.declared.plan.Deed.{Deed}
use Rattle.plan_tree.specs.declared.plan.Deed.TheVariants.{Pulse}
use Rattle.plan_tree.specs.declared.plan.PlanStmt.{PlanStmt}
use Rattle.plan_tree.specs.declared.plan.PlanStmt.TheVariants.{Block as PlanBlock}
use Rattle.plan_tree.specs.Run.{Place, Entry, Happening, Pulsed, start_frames, run_of}
use Rattle.plan_tree.specs.Acts.{Act, actor, acts_by, acts_in, all_acts, acts_of, planned_acts}
use Rattle.plan_tree.specs.Sound.{IsSound, IsSoundEvent, IsSoundStmt}
use Rattle.controller_machine.specs.declared.ctl.Played.{Played}
use Rattle.controller_machine.specs.Laws.{LogsAreTheTimeline}
use Rattle.controller_machine.specs.Log.{played_at, played_by, log_of, timeline_of}
use Rattle.controller_machine.proofs.Entries.{entry_of, event_entries, stmt_entries, entries_of, length_in, run-trace}
use Rattle.controller_machine.proofs.Sizes.{block-sound}

-- what an entry's acts play, before what others play
entry-log : (plan : Plan) (e : Entry) (what : Happening) (rest : List Act) → log_of (acts_by plan e what ++ rest) ≡ cons_option (played_at e.tick e.what) (log_of rest)
entry-log plan e (Pulsed port wave phase hz) rest = refl

-- What all acts play is the timeline.
pub all-log : (plan : Plan) (trace : List Entry) → log_of (all_acts plan trace) ≡ timeline_of trace
all-log plan [] = refl
all-log plan (e ∷ es) = entry-log plan e e.what (all_acts plan es) ∙ ap (cons_option (played_at e.tick e.what)) (all-log plan es)

cons-left : (o : Option Played) (xs ys zs : List Played) → IsPermutation xs (ys ++ zs) → IsPermutation (cons_option o xs) (cons_option o ys ++ zs)
cons-left None xs ys zs h = h
cons-left (Some y) xs ys zs h = IsPermutation-cons y xs (ys ++ zs) h

cons-right : (o : Option Played) (xs ys zs : List Played) → IsPermutation xs (ys ++ zs) → IsPermutation (cons_option o xs) (ys ++ cons_option o zs)
cons-right None xs ys zs h = h
cons-right (Some y) xs ys zs h = IsPermutation-trans _ _ _ (IsPermutation-cons y xs (ys ++ zs) h) (IsPermutation-sym _ _ (IsPermutation-middle ys y zs))

-- acts that pass a test, and those that fail it
log-splits : (p : Act → Bool) (acts : List Act) → IsPermutation (log_of acts) (log_of (filter p acts) ++ log_of (filter (λ a. not (p a)) acts))
log-splits p [] = IsPermutation-refl []
log-splits p (a ∷ acts) =
    let passed : List Act = filter p acts in
    let failed : List Act = filter (λ b. not (p b)) acts in
    elim (p a) as (λ b. IsPermutation (log_of (a ∷ acts)) (log_of (cond b (a ∷ passed) passed) ++ log_of (cond (not b) (a ∷ failed) failed))) [
      | true ↦ cons-left (played_by a) (log_of acts) (log_of passed) (log_of failed) (log-splits p acts)
      | false ↦ cons-right (played_by a) (log_of acts) (log_of passed) (log_of failed) (log-splits p acts)
    ]

-- the acts of others than controller k
abbrev others : ℕ → List Act → List Act
others k acts = filter (λ a. not (nat_eq (actor a) k)) acts

-- the acts of one controller are among those of others than a controller below it
others-keep : (k j : ℕ) → k < j → (acts : List Act) → acts_of j (others k acts) ≡ acts_of j acts
others-keep k j below [] = refl
others-keep k j below (a ∷ acts) = kept (nat_eq (actor a) k) refl (others-keep k j below acts)
  where
    kept : (b : Bool) → nat_eq (actor a) k ≡ b → acts_of j (others k acts) ≡ acts_of j acts → acts_of j (cond (not b) (a ∷ others k acts) (others k acts)) ≡ acts_of j (a ∷ acts)
    kept true here rest = let apart : nat_eq (actor a) j ≡ false = grind (arith, nat_tests) in rw apart rest
    kept false other rest = ap (λ own. cond (nat_eq (actor a) j) (a ∷ own) own) rest

flat_map-others : (k : ℕ) (acts : List Act) (n j : ℕ) → k < j → flat_map (λ i. log_of (acts_of i (others k acts))) (range_with_len j n) ≡ flat_map (λ i. log_of (acts_of i acts)) (range_with_len j n)
flat_map-others k acts zero j below = refl
flat_map-others k acts (suc n) j below =
    ap (λ own. log_of own ++ flat_map (λ i. log_of (acts_of i (others k acts))) (range_with_len (j + 1) n)) (others-keep k j below acts)
    ∙ ap (λ rest. log_of (acts_of j acts) ++ rest) (flat_map-others k acts n (j + 1) (omega arith))

-- an act of n controllers from number k on
abbrev IsFrom : ℕ → ℕ → Act → Type 0
IsFrom k n a = (k ≤ actor a) × (actor a < k + n)

other-from : (k n : ℕ) (a : Act) → IsFrom k (suc n) a → not (nat_eq (actor a) k) ≡ true → IsFrom (k + 1) n a
other-from k n a from other =
    let apart : actor a ≢ k = grind (arith, nat_tests) in
    (omega (arith, from.0), omega (arith, from.1))

others-from : (k n : ℕ) (acts : List Act) → All (IsFrom k (suc n)) acts → All (IsFrom (k + 1) n) (others k acts)
others-from k n acts all = λ i d within.
    other-from k n (get_or (others k acts) i d) (All-filter (λ a. not (nat_eq (actor a) k)) (IsFrom k (suc n)) acts all i d within) (filter_passes (λ a. not (nat_eq (actor a) k)) acts i d within)

-- acts, controller by controller
regroup : (n k : ℕ) (acts : List Act) → All (IsFrom k n) acts → IsPermutation (log_of acts) (flat_map (λ j. log_of (acts_of j acts)) (range_with_len k n))
regroup zero k [] all = IsPermutation-refl []
regroup zero k (a ∷ acts) all = absurd (let from = All-head (IsFrom k zero) a acts all in omega (arith, from.0, from.1))
regroup (suc n) k acts all =
    let rest = subst (IsPermutation (log_of (others k acts))) (flat_map-others k acts n (k + 1) (omega arith)) (regroup n (k + 1) (others k acts) (others-from k n acts all)) in
    IsPermutation-trans _ _ _ (log-splits (λ a. nat_eq (actor a) k) acts) (IsPermutation-append_right (log_of (acts_of k acts)) _ _ rest)

-- an act of one of so many controllers
abbrev IsBelow : Plan → Act → Type 0
IsBelow plan a = IsFrom 0 plan.controllers a

entry-below : (plan : Plan) (frames : List FrameState) (here : Place) (ticks tick : ℕ) (e : Event) (d : Deed) → IsSound plan → IsSoundEvent plan ticks e → All (IsBelow plan) (acts_in plan (entry_of frames here tick e d))
entry-below plan frames here ticks tick e (Pulse f w) sound event = All-cons (IsBelow plan) _ [] (omega arith, omega (arith, sound.owners e.port 0 event.port)) (All-nil (IsBelow plan))

events-below : (plan : Plan) (frames : List FrameState) (here : Place) (n ticks tick : ℕ) (events : List Event) → IsSound plan → All (IsSoundEvent plan ticks) events → All (IsBelow plan) (all_acts plan (event_entries frames here n tick events))
events-below plan frames here n ticks tick [] sound all = All-nil (IsBelow plan)
events-below plan frames here n ticks tick (e ∷ es) sound all =
    All-append (IsBelow plan) _ _ (entry-below plan frames (n ∷ here) ticks tick e e.act sound (All-head (IsSoundEvent plan ticks) e es all))
    (events-below plan frames here (n + 1) ticks tick es sound (All-tail (IsSoundEvent plan ticks) e es all))

stmt-below : (plan : Plan) (frames : List FrameState) (here : Place) (tick : ℕ) (x : PlanStmt) → IsSound plan → IsSoundStmt plan false x → All (IsBelow plan) (all_acts plan (stmt_entries frames here tick x))
stmt-below plan frames here tick (PlanBlock b) sound stmt = events-below plan frames here 0 b.length tick b.events sound (block-sound plan false b stmt).events

body-below : (plan : Plan) (frames : List FrameState) (here : Place) (n tick : ℕ) (body : List PlanStmt) → IsSound plan → All (IsSoundStmt plan false) body → All (IsBelow plan) (all_acts plan (entries_of frames here n tick body))
body-below plan frames here n tick [] sound all = All-nil (IsBelow plan)
body-below plan frames here n tick (x ∷ xs) sound all =
    All-same (IsBelow plan) _ _ (flat_map-append (acts_in plan) (stmt_entries frames (n ∷ here) tick x) (entries_of frames here (n + 1) (tick + length_in x) xs))
    (All-append (IsBelow plan) _ _ (stmt-below plan frames (n ∷ here) tick x sound (All-head (IsSoundStmt plan false) x xs all))
    (body-below plan frames here (n + 1) (tick + length_in x) xs sound (All-tail (IsSoundStmt plan false) x xs all)))

-- the logs of numbers, one after another
flat-logs : (f : ℕ → List Played) (ks : List ℕ) → flat_map f ks ≡ flat_map (λ log. log) (map f ks)
flat-logs f [] = refl
flat-logs f (k ∷ ks) = ap (λ logs. f k ++ logs) (flat-logs f ks)

-- Each pulse of the run is in the log of one controller.
pub timeline-logs : LogsAreTheTimeline
timeline-logs plan tape sound =
    let below = body-below plan (start_frames plan.frames) [] 0 0 plan.body sound sound.body in
    let all : All (IsBelow plan) (all_acts plan (run_of plan tape).trace) = All-same (IsBelow plan) _ _ (ap (all_acts plan) (run-trace plan tape)) below in
    let logs : ℕ → List Played = λ k. log_of (planned_acts plan tape k) in
    let controllers : List ℕ = range_with_len 0 plan.controllers in
    subst (IsPermutation (timeline_of (run_of plan tape).trace)) (flat-logs logs controllers)
    (subst (λ xs. IsPermutation xs (flat_map logs controllers)) (all-log plan (run_of plan tape).trace)
    (regroup plan.controllers 0 (all_acts plan (run_of plan tape).trace) all))
