-- The timeline of a sound plan, and each controller's log of it, stand by tick and then by port.
use Rattle.std.proofs.Common.{◌≡◌, ℕ, ◌+◌, ◌<◌, ◌≤◌, List, [], ◌∷◌, refl, ap, ap₂, ◌∙◌, arith, subst, sym, false}
use Rattle.std.specs.Prelude.{All, IfSome, nat_eq}
use Rattle.std.specs.Cmp.{IsTotalOrder}
use Rattle.std.specs.List.{AllPairs}
use Rattle.std.specs.Ordering.{is_lt}
use Rattle.std.proofs.lemmas.List.Elements.{All-nil, All-head, All-tail, All-append, All-same, All-weaker, filter_map-append}
use Rattle.std.proofs.lemmas.List.Sorted.{ranks_by}
use Rattle.std.proofs.lemmas.Option.{IfSome_then}
use Rattle.qs_values.specs.declared.tape.Tape.{Tape}
use Rattle.plan_tree.specs.declared.frame.FrameState.{FrameState}
use Rattle.plan_tree.specs.declared.plan.Plan.{Plan}
use Rattle.plan_tree.specs.declared.plan.Event.{Event}
use Rattle.plan_tree.specs.declared.plan.Deed.{Deed}
use Rattle.plan_tree.specs.declared.plan.Deed.TheVariants.{Pulse}
use Rattle.plan_tree.specs.declared.plan.PlanStmt.{PlanStmt}
use Rattle.plan_tree.specs.declared.plan.PlanStmt.TheVariants.{Block as PlanBlock}
use Rattle.plan_tree.specs.Run.{Place, Entry, start_frames, run_of}
use Rattle.plan_tree.specs.Acts.{actor, all_acts, planned_acts}
use Rattle.plan_tree.specs.Sound.{IsSound, IsSoundDeed, IsSoundEvent, IsSoundStmt, start_cmp, start_key}
use Rattle.controller_machine.proofs.InOrder.{All-cons_option, AllPairs-append, AllPairs-cons_option, AllPairs-from_sorted, AllPairs-head, AllPairs-part, AllPairs-tail, sorted-from_AllPairs, start-later, start-moved}
use Rattle.controller_machine.specs.declared.ctl.Played.{Played}
use Rattle.controller_machine.specs.Laws.{LogsStandInOrder}
use Rattle.controller_machine.specs.Log.{log_of, play_key, played_by, played_in, timeline_of}
use Rattle.controller_machine.proofs.Entries.{entry_of, event_entries, stmt_entries, entries_of, length_in, run-trace}
use Rattle.controller_machine.proofs.Timeline.{all-log}
use Rattle.controller_machine.proofs.Sizes.{block-sound}

-- The second play may stand after the first.
abbrev MayPrecede : Played → Played → Type 0
MayPrecede p q = is_lt (start_cmp (play_key q) (play_key p)) ≡ false

-- The second event may stand after the first.
abbrev EventPrecedes : Event → Event → Type 0
EventPrecedes d e = is_lt (start_cmp (start_key e) (start_key d)) ≡ false

-- A play is that of an event whose block began at this tick.
abbrev IsOf : ℕ → Event → Played → Type 0
IsOf tick e p = play_key p ≡ (tick + e.offset, e.port)

-- A play begins at one of so many ticks from this one on.
abbrev IsWithin : ℕ → ℕ → Played → Type 0
IsWithin tick ticks p = (tick ≤ p.tick) × (p.tick < tick + ticks)

abbrev IsFrom : ℕ → Played → Type 0
IsFrom tick p = tick ≤ p.tick

entry-of : (frames : List FrameState) (here : Place) (tick : ℕ) (e : Event) (d : Deed) → IfSome (played_in (entry_of frames here tick e d)) (IsOf tick e)
entry-of frames here tick e (Pulse f w) = refl

of-moved : (tick : ℕ) (d e : Event) (p q : Played) → EventPrecedes d e → IsOf tick d p → IsOf tick e q → MayPrecede p q
of-moved tick d e p q before first second =
    ap₂ (λ x y. is_lt (start_cmp x y)) second first
    ∙ ap is_lt (start-moved tick e.offset e.port d.offset d.port)
    ∙ before

offset-below : (plan : Plan) (ticks offset port : ℕ) (d : Deed) → IsSoundDeed plan ticks offset port d → offset < ticks
offset-below plan ticks offset port (Pulse f w) sound = sound.1

of-within : (plan : Plan) (ticks tick : ℕ) (e : Event) → IsSoundEvent plan ticks e → (p : Played) → IsOf tick e p → IsWithin tick ticks p
of-within plan ticks tick e sound p of =
    let at : p.tick ≡ tick + e.offset = ap (λ (key : ℕ × ℕ). key.0) of in
    let below : e.offset < ticks = offset-below plan ticks e.offset e.port e.act sound.act in
    (omega arith, omega arith)

-- what is true of each event's play is true of what events play
events-all : (P : Played → Type 0) (frames : List FrameState) (here : Place) (n tick : ℕ) (es : List Event) → All (λ e. (p : Played) → IsOf tick e p → P p) es → All P (timeline_of (event_entries frames here n tick es))
events-all P frames here n tick [] all = All-nil P
events-all P frames here n tick (e ∷ es) all =
    let of : Event → Type 0 = λ e. (p : Played) → IsOf tick e p → P p in
    All-cons_option P (played_in (entry_of frames (n ∷ here) tick e e.act)) (timeline_of (event_entries frames here (n + 1) tick es))
    (IfSome_then (played_in (entry_of frames (n ∷ here) tick e e.act)) {P = IsOf tick e} {Q = P} (entry-of frames (n ∷ here) tick e e.act) (All-head of e es all))
    (events-all P frames here (n + 1) tick es (All-tail of e es all))

events-order : (frames : List FrameState) (here : Place) (n tick : ℕ) (es : List Event) → AllPairs EventPrecedes es → AllPairs MayPrecede (timeline_of (event_entries frames here n tick es))
events-order frames here n tick [] pairs = λ i j d before within. absurd (omega arith)
events-order frames here n tick (e ∷ es) pairs =
    let rest : List Played = timeline_of (event_entries frames here (n + 1) tick es) in
    AllPairs-cons_option MayPrecede (played_in (entry_of frames (n ∷ here) tick e e.act)) rest
    (IfSome_then (played_in (entry_of frames (n ∷ here) tick e e.act)) {P = IsOf tick e} {Q = λ p. All (MayPrecede p) rest} (entry-of frames (n ∷ here) tick e e.act)
    (λ p first. events-all (MayPrecede p) frames here (n + 1) tick es
    (All-weaker (EventPrecedes e) (λ d. (q : Played) → IsOf tick d q → MayPrecede p q) (λ d before q second. of-moved tick e d p q before first second) es (AllPairs-head EventPrecedes e es pairs))))
    (events-order frames here (n + 1) tick es (AllPairs-tail EventPrecedes e es pairs))

stmt-within : (plan : Plan) (frames : List FrameState) (here : Place) (tick : ℕ) (x : PlanStmt) → IsSoundStmt plan false x → All (IsWithin tick (length_in x)) (timeline_of (stmt_entries frames here tick x))
stmt-within plan frames here tick (PlanBlock b) sound =
    events-all (IsWithin tick b.length) frames here 0 tick b.events
    (All-weaker (IsSoundEvent plan b.length) (λ e. (p : Played) → IsOf tick e p → IsWithin tick b.length p) (of-within plan b.length tick) b.events (block-sound plan false b sound).events)

stmt-order : (total : IsTotalOrder start_cmp) (plan : Plan) (frames : List FrameState) (here : Place) (tick : ℕ) (x : PlanStmt) → IsSoundStmt plan false x → AllPairs MayPrecede (timeline_of (stmt_entries frames here tick x))
stmt-order total plan frames here tick (PlanBlock b) sound =
    events-order frames here 0 tick b.events (AllPairs-from_sorted (λ d e. is_lt (start_cmp (start_key d) (start_key e))) (ranks_by total start_key) b.events (block-sound plan false b sound).order)

body-from : (plan : Plan) (frames : List FrameState) (here : Place) (n tick : ℕ) (xs : List PlanStmt) → All (IsSoundStmt plan false) xs → All (IsFrom tick) (timeline_of (entries_of frames here n tick xs))
body-from plan frames here n tick [] sound = All-nil (IsFrom tick)
body-from plan frames here n tick (x ∷ xs) sound =
    let first : List Entry = stmt_entries frames (n ∷ here) tick x in
    let rest : List Entry = entries_of frames here (n + 1) (tick + length_in x) xs in
    All-same (IsFrom tick) _ _ (filter_map-append played_in first rest)
    (All-append (IsFrom tick) (timeline_of first) (timeline_of rest)
    (All-weaker (IsWithin tick (length_in x)) (IsFrom tick) (λ p within. within.0) (timeline_of first) (stmt-within plan frames (n ∷ here) tick x (All-head (IsSoundStmt plan false) x xs sound)))
    (All-weaker (IsFrom (tick + length_in x)) (IsFrom tick) (λ p from. omega arith) (timeline_of rest) (body-from plan frames here (n + 1) (tick + length_in x) xs (All-tail (IsSoundStmt plan false) x xs sound))))

within-before : (tick ticks : ℕ) (rest : List Played) → All (IsFrom (tick + ticks)) rest → (p : Played) → IsWithin tick ticks p → All (MayPrecede p) rest
within-before tick ticks rest all p within = All-weaker (IsFrom (tick + ticks)) (MayPrecede p) (λ q from. start-later p.tick p.port q.tick q.port (omega (arith, within.1, from))) rest all

body-order : (total : IsTotalOrder start_cmp) (plan : Plan) (frames : List FrameState) (here : Place) (n tick : ℕ) (xs : List PlanStmt) → All (IsSoundStmt plan false) xs → AllPairs MayPrecede (timeline_of (entries_of frames here n tick xs))
body-order total plan frames here n tick [] sound = λ i j d before within. absurd (omega arith)
body-order total plan frames here n tick (x ∷ xs) sound =
    let first : List Entry = stmt_entries frames (n ∷ here) tick x in
    let rest : List Entry = entries_of frames here (n + 1) (tick + length_in x) xs in
    let here_sound = All-head (IsSoundStmt plan false) x xs sound in
    let rest_sound = All-tail (IsSoundStmt plan false) x xs sound in
    subst (AllPairs MayPrecede) (sym (filter_map-append played_in first rest))
    (AllPairs-append MayPrecede (timeline_of first) (timeline_of rest)
    (stmt-order total plan frames (n ∷ here) tick x here_sound)
    (body-order total plan frames here (n + 1) (tick + length_in x) xs rest_sound)
    (All-weaker (IsWithin tick (length_in x)) (λ p. All (MayPrecede p) (timeline_of rest))
    (within-before tick (length_in x) (timeline_of rest) (body-from plan frames here (n + 1) (tick + length_in x) xs rest_sound))
    (timeline_of first) (stmt-within plan frames (n ∷ here) tick x here_sound)))

timeline-pairs : (total : IsTotalOrder start_cmp) (plan : Plan) (tape : Tape) → IsSound plan → AllPairs MayPrecede (timeline_of (run_of plan tape).trace)
timeline-pairs total plan tape sound = subst (λ trace. AllPairs MayPrecede (timeline_of trace)) (sym (run-trace plan tape)) (body-order total plan (start_frames plan.frames) [] 0 0 plan.body sound.body)

-- Each controller's log is a part of the timeline, in its order.
pub logs-ordered : IsTotalOrder start_cmp → LogsStandInOrder
logs-ordered total plan tape k sound =
    let trace : List Entry = (run_of plan tape).trace in
    sorted-from_AllPairs (λ p q. is_lt (start_cmp (play_key p) (play_key q))) (log_of (planned_acts plan tape k))
    (AllPairs-part MayPrecede played_by (λ a. nat_eq (actor a) k) (all_acts plan trace) (subst (AllPairs MayPrecede) (sym (all-log plan trace)) (timeline-pairs total plan tape sound)))
