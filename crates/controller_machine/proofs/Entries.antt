-- The undivided run's trace as a plain list, and its last tick and store.
use Rattle.std.proofs.Common.{◌≡◌, ℕ, ◌+◌, List, [], ◌∷◌, ◌++◌, map, refl, ap, sym, ◌∙◌}
use Rattle.std.proofs.lemmas.List.{append_assoc, append-nil}
use Rattle.qs_values.specs.declared.tape.Tape.{Tape}
use Rattle.plan_tree.specs.declared.frame.FrameState.{FrameState}
use Rattle.plan_tree.specs.declared.plan.Plan.{Plan}
use Rattle.plan_tree.specs.declared.plan.Event.{Event}
use Rattle.plan_tree.specs.declared.plan.Deed.{Deed}
use Rattle.plan_tree.specs.declared.plan.Deed.TheVariants.{Pulse}
use Rattle.plan_tree.specs.declared.plan.PlanStmt.{PlanStmt}
use Rattle.plan_tree.specs.declared.plan.PlanStmt.TheVariants.{Block}
use Rattle.plan_tree.specs.Store.{start_store}
use Rattle.plan_tree.specs.Run.{Place, Entry, Pulsed, Done, RunState, Outcome, Rest, Onward, with_entry, frame_at, start_frames, deed_then, events_then, walk, in_order, start_of, at_the_end, run_of}

-- the entry of an event whose block began at this tick
abbrev pub entry_of : List FrameState → Place → ℕ → Event → Deed → Entry
entry_of frames here tick e (Pulse f w) = record {
  place = here;
  tick = tick + e.offset;
  what = Pulsed e.port w (frame_at frames f).phase (frame_at frames f).hz;
}

-- the entries of events, the first of them of number n
abbrev pub event_entries : List FrameState → Place → ℕ → ℕ → List Event → List Entry
event_entries frames here n tick [] = []
event_entries frames here n tick (e ∷ es) = entry_of frames (n ∷ here) tick e e.act ∷ event_entries frames here (n + 1) tick es

abbrev pub stmt_entries : List FrameState → Place → ℕ → PlanStmt → List Entry
stmt_entries frames here tick (Block b) = event_entries frames here 0 tick b.events

-- how many ticks a statement takes
abbrev pub length_in : PlanStmt → ℕ
length_in (Block b) = b.length

-- the entries of statements, the first of them of number n
abbrev pub entries_of : List FrameState → Place → ℕ → ℕ → List PlanStmt → List Entry
entries_of frames here n tick [] = []
entries_of frames here n tick (x ∷ xs) = stmt_entries frames (n ∷ here) tick x ++ entries_of frames here (n + 1) (tick + length_in x) xs

-- the tick after statements
abbrev pub tick_after : ℕ → List PlanStmt → ℕ
tick_after tick [] = tick
tick_after tick (x ∷ xs) = tick_after (tick + length_in x) xs

-- entries before what follows
abbrev before : List Entry → Outcome → Outcome
before es o = record o { trace = es ++ o.trace }

before-before : (es fs : List Entry) (o : Outcome) → before es (before fs o) ≡ before (es ++ fs) o
before-before es fs o = ap (λ (t : List Entry). record o { trace = t }) (sym (append_assoc es fs o.trace))

module _ (plan : Plan) (tape : Tape) where
  deed-entry : (here : Place) (e : Event) (d : Deed) (rest : Rest) (s : RunState) → deed_then plan tape here e d rest s ≡ with_entry (entry_of s.frames here s.tick e d) (rest s)
  deed-entry here e (Pulse f w) rest s = refl

  events-entries : (here : Place) (n : ℕ) (es : List Event) (rest : Rest) (s : RunState) → events_then plan tape here n es rest s ≡ before (event_entries s.frames here n s.tick es) (rest s)
  events-entries here n [] rest s = refl
  events-entries here n (e ∷ es) rest s =
      deed-entry (n ∷ here) e e.act (events_then plan tape here (n + 1) es rest) s
      ∙ ap (λ (o : Outcome). with_entry (entry_of s.frames (n ∷ here) s.tick e e.act) o) (events-entries here (n + 1) es rest s)

  walk-entries : (x : PlanStmt) (here : Place) (on : Onward Rest) (s : RunState) →
      walk plan tape x here on s ≡ before (stmt_entries s.frames here s.tick x) (on.next (record s { tick = s.tick + length_in x }))
  walk-entries (Block b) here on s = events-entries here 0 b.events (λ t. on.next (record t { tick = t.tick + b.length })) s

  order-entries : (xs : List PlanStmt) (n : ℕ) (here : Place) (on : Onward Rest) (s : RunState) →
      in_order (map (walk plan tape) xs) n here on s ≡ before (entries_of s.frames here n s.tick xs) (on.next (record s { tick = tick_after s.tick xs }))
  order-entries [] n here on s = refl
  order-entries (x ∷ xs) n here on s =
      walk-entries x (n ∷ here) (record on { next = in_order (map (walk plan tape) xs) (n + 1) here on }) s
      ∙ ap (before (stmt_entries s.frames (n ∷ here) s.tick x)) (order-entries xs (n + 1) here on (record s { tick = s.tick + length_in x }))
      ∙ before-before (stmt_entries s.frames (n ∷ here) s.tick x) (entries_of s.frames here (n + 1) (s.tick + length_in x) xs) _

  -- a run, as its entries before its end
  run-entries : run_of plan tape
      ≡ before (entries_of (start_frames plan.frames) [] 0 0 plan.body) (at_the_end.next (record (start_of plan tape) { tick = tick_after 0 plan.body }))
  run-entries = order-entries plan.body 0 [] at_the_end (start_of plan tape)

  -- The trace of a run.
  pub run-trace : (run_of plan tape).trace ≡ entries_of (start_frames plan.frames) [] 0 0 plan.body
  run-trace = ap (λ (o : Outcome). o.trace) run-entries ∙ append-nil _

  -- The tick at a run's end.
  pub run-tick : (run_of plan tape).tick ≡ tick_after 0 plan.body
  run-tick = ap (λ (o : Outcome). o.tick) run-entries

  -- A run keeps its store.
  pub run-store : (run_of plan tape).store ≡ start_store plan.vars plan.inputs tape.inputs
  run-store = ap (λ (o : Outcome). o.store) run-entries

  -- A run is done at its end.
  pub run-ending : (run_of plan tape).ending ≡ Done
  run-ending = ap (λ (o : Outcome). o.ending) run-entries
