-- The acts of a part as a plain list: they are its controller's planned acts, and it takes as many ticks as its plan.
use Rattle.std.proofs.Common.{◌≡◌, ℕ, ◌+◌, List, [], ◌∷◌, ◌++◌, map, refl, ap, sym, ◌∙◌, arith, cond, true, false}
use Rattle.std.specs.Prelude.{Bool, filter, nat_eq}
use Rattle.std.proofs.lemmas.Bool.Decides.{nat_tests}
use Rattle.std.proofs.lemmas.List.Elements.{filter-append}
use Rattle.std.proofs.lemmas.List.Concat.{flat_map-append}
use Rattle.qs_values.specs.declared.tape.Tape.{Tape}
use Rattle.plan_tree.specs.declared.frame.FrameState.{FrameState}
use Rattle.plan_tree.specs.declared.plan.Plan.{Plan}
use Rattle.plan_tree.specs.declared.plan.Event.{Event}
use Rattle.plan_tree.specs.declared.plan.Deed.{Deed}
use Rattle.plan_tree.specs.declared.plan.Deed.TheVariants.{Pulse}
use Rattle.plan_tree.specs.declared.plan.PlanStmt.{PlanStmt}
use Rattle.plan_tree.specs.declared.plan.PlanStmt.TheVariants.{Block as PlanBlock}
use Rattle.plan_tree.specs.declared.part.Item.{Item}
use Rattle.plan_tree.specs.declared.part.Item.TheVariants.{Own as OwnItem}
use Rattle.plan_tree.specs.declared.part.PartStmt.{PartStmt}
use Rattle.plan_tree.specs.declared.part.PartStmt.TheVariants.{Block, Wait}
use Rattle.plan_tree.specs.Run.{Place, Entry, Pulsed, frame_at, start_frames}
use Rattle.plan_tree.specs.Acts.{Act, Own, actor, acts_in, all_acts, acts_of, planned_acts}
use Rattle.plan_tree.specs.Parts.{deed_items, owner_of, is_own, items_of, block_or_wait, kept_in_order, part_stmt, part_of}
use Rattle.controller_machine.specs.steps.Left.{ticks_of}
use Rattle.controller_machine.proofs.Entries.{entry_of, event_entries, stmt_entries, entries_of, length_in, tick_after, run-trace}

-- the act that a deed is, of a block that began at this tick
abbrev pub deed_act : ℕ → List FrameState → ℕ → Event → Deed → Act
deed_act k frames tick e (Pulse f w) = Own k (tick + e.offset) (Pulsed e.port w (frame_at frames f).phase (frame_at frames f).hz)

abbrev pub item_act : ℕ → List FrameState → ℕ → Item → Act
item_act k frames tick (OwnItem e) = deed_act k frames tick e e.act

-- the acts of statements, the first of which begins at this tick
abbrev pub part_acts : ℕ → List FrameState → ℕ → List PartStmt → List Act
part_acts k frames tick [] = []
part_acts k frames tick (Block ticks items ∷ rest) = map (item_act k frames tick) items ++ part_acts k frames (tick + ticks) rest
part_acts k frames tick (Wait ticks ∷ rest) = part_acts k frames (tick + ticks) rest

-- the acts of a controller among those of entries
abbrev own_acts : Plan → ℕ → List Entry → List Act
own_acts plan k trace = acts_of k (all_acts plan trace)

own-append : (plan : Plan) (k : ℕ) (xs ys : List Entry) → own_acts plan k (xs ++ ys) ≡ own_acts plan k xs ++ own_acts plan k ys
own-append plan k xs ys = ap (acts_of k) (flat_map-append (acts_in plan) xs ys) ∙ filter-append (λ a. nat_eq (actor a) k) (all_acts plan xs) (all_acts plan ys)

-- an act of the owner, before others
first-act : (plan : Plan) (k : ℕ) (frames : List FrameState) (here : Place) (tick : ℕ) (e : Event) (d : Deed) (rest : List Act) →
    acts_of k (acts_in plan (entry_of frames here tick e d) ++ rest) ≡ cond (is_own plan k e) (deed_act k frames tick e d ∷ acts_of k rest) (acts_of k rest)
first-act plan k frames here tick e (Pulse f w) rest = by_test (is_own plan k e) refl
  where
    by_test : (b : Bool) → is_own plan k e ≡ b →
        cond b (Own (owner_of plan e.port) (tick + e.offset) (Pulsed e.port w (frame_at frames f).phase (frame_at frames f).hz) ∷ acts_of k rest) (acts_of k rest)
        ≡ cond b (deed_act k frames tick e (Pulse f w) ∷ acts_of k rest) (acts_of k rest)
    by_test true own = let same : owner_of plan e.port ≡ k = grind (arith, nat_tests) in rw same refl
    by_test false other = refl

-- a controller's own events, as items
abbrev own_items : Plan → ℕ → List Event → List Item
own_items plan k events = map OwnItem (filter (is_own plan k) events)

deed-own : (plan : Plan) (k : ℕ) (e : Event) (d : Deed) (events : List Event) (rest : List Item) → rest ≡ map OwnItem events →
    deed_items plan k e d ++ rest ≡ map OwnItem (cond (is_own plan k e) (e ∷ events) events)
deed-own plan k e (Pulse f w) events rest same = by_test (is_own plan k e)
  where
    by_test : (b : Bool) → cond b (OwnItem e ∷ []) [] ++ rest ≡ map OwnItem (cond b (e ∷ events) events)
    by_test true = ap (λ items. OwnItem e ∷ items) same
    by_test false = same

-- What a controller does in a block are its own events.
pub items-own : (plan : Plan) (k : ℕ) (events : List Event) → items_of plan k events ≡ own_items plan k events
items-own plan k [] = refl
items-own plan k (e ∷ es) = deed-own plan k e e.act (filter (is_own plan k) es) (items_of plan k es) (items-own plan k es)

-- the items of an event and others
first-item : (f : Item → Act) (b : Bool) (e : Event) (events : List Event) (rest : List Act) → rest ≡ map f (map OwnItem events) →
    cond b (f (OwnItem e) ∷ rest) rest ≡ map f (map OwnItem (cond b (e ∷ events) events))
first-item f true e events rest same = ap (λ acts. f (OwnItem e) ∷ acts) same
first-item f false e events rest same = same

own-events-acts : (plan : Plan) (k : ℕ) (frames : List FrameState) (here : Place) (n tick : ℕ) (events : List Event) →
    own_acts plan k (event_entries frames here n tick events) ≡ map (item_act k frames tick) (own_items plan k events)
own-events-acts plan k frames here n tick [] = refl
own-events-acts plan k frames here n tick (e ∷ es) =
    first-act plan k frames (n ∷ here) tick e e.act (all_acts plan (event_entries frames here (n + 1) tick es))
    ∙ first-item (item_act k frames tick) (is_own plan k e) e (filter (is_own plan k) es) _ (own-events-acts plan k frames here (n + 1) tick es)

events-acts : (plan : Plan) (k : ℕ) (frames : List FrameState) (here : Place) (n tick : ℕ) (events : List Event) →
    own_acts plan k (event_entries frames here n tick events) ≡ map (item_act k frames tick) (items_of plan k events)
events-acts plan k frames here n tick events = own-events-acts plan k frames here n tick events ∙ ap (map (item_act k frames tick)) (sym (items-own plan k events))

block-acts : (k : ℕ) (frames : List FrameState) (tick ticks : ℕ) (items : List Item) (rest : List PartStmt) →
    part_acts k frames tick (block_or_wait ticks items ∷ rest) ≡ map (item_act k frames tick) items ++ part_acts k frames (tick + ticks) rest
block-acts k frames tick ticks [] rest = refl
block-acts k frames tick ticks (item ∷ items) rest = refl

stmt-acts : (plan : Plan) (k : ℕ) (frames : List FrameState) (here : Place) (tick : ℕ) (x : PlanStmt) (trace : List Entry) (rest : List PartStmt) →
    own_acts plan k trace ≡ part_acts k frames (tick + length_in x) rest → own_acts plan k (stmt_entries frames here tick x ++ trace) ≡ part_acts k frames tick (part_stmt plan k x here ++ rest)
stmt-acts plan k frames here tick (PlanBlock b) trace rest same =
    own-append plan k (event_entries frames here 0 tick b.events) trace
    ∙ ap (λ acts. acts ++ own_acts plan k trace) (events-acts plan k frames here 0 tick b.events)
    ∙ ap (λ acts. map (item_act k frames tick) (items_of plan k b.events) ++ acts) same
    ∙ sym (block-acts k frames tick b.length (items_of plan k b.events) rest)

body-acts : (plan : Plan) (k : ℕ) (frames : List FrameState) (here : Place) (n tick : ℕ) (body : List PlanStmt) →
    own_acts plan k (entries_of frames here n tick body) ≡ part_acts k frames tick (kept_in_order (map (part_stmt plan k) body) n here)
body-acts plan k frames here n tick [] = refl
body-acts plan k frames here n tick (x ∷ xs) =
    stmt-acts plan k frames (n ∷ here) tick x (entries_of frames here (n + 1) (tick + length_in x) xs) (kept_in_order (map (part_stmt plan k) xs) (n + 1) here)
    (body-acts plan k frames here (n + 1) (tick + length_in x) xs)

-- The acts of a part from its beginning on are its controller's planned acts.
pub acts-planned : (plan : Plan) (tape : Tape) (k : ℕ) → part_acts k (start_frames plan.frames) 0 (part_of plan k).body ≡ planned_acts plan tape k
acts-planned plan tape k = sym (ap (own_acts plan k) (run-trace plan tape) ∙ body-acts plan k (start_frames plan.frames) [] 0 0 plan.body)

-- The ticks of a part are those of its plan.
ticks-block : (ticks : ℕ) (items : List Item) (rest : List PartStmt) → ticks_of (block_or_wait ticks items ∷ rest) ≡ ticks + ticks_of rest
ticks-block ticks [] rest = refl
ticks-block ticks (item ∷ items) rest = refl

pub ticks-stmt : (plan : Plan) (k : ℕ) (x : PlanStmt) (here : Place) (rest : List PartStmt) → ticks_of (part_stmt plan k x here ++ rest) ≡ length_in x + ticks_of rest
ticks-stmt plan k (PlanBlock b) here rest = ticks-block b.length (items_of plan k b.events) rest

pub ticks-after : (plan : Plan) (k : ℕ) (here : Place) (n tick : ℕ) (body : List PlanStmt) → tick + ticks_of (kept_in_order (map (part_stmt plan k) body) n here) ≡ tick_after tick body
ticks-after plan k here n tick [] = omega arith
ticks-after plan k here n tick (x ∷ xs) =
    let first = ticks-stmt plan k x (n ∷ here) (kept_in_order (map (part_stmt plan k) xs) (n + 1) here) in
    let rest = ticks-after plan k here (n + 1) (tick + length_in x) xs in
    omega arith
