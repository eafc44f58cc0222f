-- How many items, ticks and acts a sound plan has.
use Rattle.std.proofs.Common.{◌≡◌, ℕ, ◌+◌, ◌*◌, ◌≤◌, ◌^◌, List, [], ◌∷◌, ◌++◌, length, map, refl, ap, arith, sym, ◌∙◌, subst, suc}
use Rattle.std.specs.List.{cons_option}
use Rattle.std.specs.Prelude.{All, Option, Some, None, Bool, true, false, ◌&&◌, cond, sum, count_by, filter, nat_eq}
use Rattle.std.proofs.lemmas.List.{length-append, length-map}
use Rattle.std.proofs.lemmas.List.Elements.{All-nil, All-head, All-tail, All-append, All-map, All-filter, All-weaker}
use Rattle.std.proofs.lemmas.List.Sums.{sum_by-cons, sum_by-append, length-filter, count_by-le-length}
use Rattle.qs_values.specs.declared.tape.Tape.{Tape}
use Rattle.plan_tree.specs.declared.frame.FrameState.{FrameState}
use Rattle.plan_tree.specs.declared.plan.Plan.{Plan}
use Rattle.plan_tree.specs.declared.plan.Block.{Block as Block-}
use Rattle.plan_tree.specs.declared.plan.Event.{Event}
use Rattle.plan_tree.specs.declared.plan.Deed.{Deed}
use Rattle.plan_tree.specs.declared.plan.Deed.TheVariants.{Pulse}
use Rattle.plan_tree.specs.declared.plan.PlanStmt.{PlanStmt}
use Rattle.plan_tree.specs.declared.plan.PlanStmt.TheVariants.{Block as PlanBlock}
use Rattle.plan_tree.specs.declared.part.Item.{Item}
use Rattle.plan_tree.specs.declared.part.Item.TheVariants.{Own}
use Rattle.plan_tree.specs.declared.part.PartStmt.{PartStmt}
use Rattle.plan_tree.specs.declared.part.PartStmt.TheVariants.{Block, Wait}
use Rattle.plan_tree.specs.Deeds.{plays}
use Rattle.plan_tree.specs.Run.{Place, Entry, Happening, Pulsed, start_frames, run_of}
use Rattle.plan_tree.specs.Acts.{Act, actor, acts_by, all_acts, planned_acts}
use Rattle.plan_tree.specs.Parts.{is_own, items_of, block_or_wait, kept_in_order, part_stmt, part_of}
use Rattle.plan_tree.specs.Sound.{IsMet, IsSoundBlock, IsSoundDeed, IsSoundEvent, IsSoundStmt, OfBlock, weight_in}
use Rattle.controller_machine.specs.declared.ctl.Played.{Played}
use Rattle.controller_machine.specs.Ctl.{most, most_in}
use Rattle.controller_machine.specs.Laws.{ActsAreFew}
use Rattle.controller_machine.specs.steps.Left.{IsNear, items_left, ticks_of}
use Rattle.controller_machine.specs.Log.{log_of, played_by}
use Rattle.controller_machine.proofs.Entries.{entries_of, event_entries, stmt_entries, length_in, run-trace}
use Rattle.controller_machine.proofs.Parts.{acts-planned, items-own, item_act, part_acts, ticks-stmt}

-- whether an item plays
abbrev plays_item : Item → Bool
plays_item (Own e) = plays e.act

-- how much statements weigh
abbrev weight_all : ℕ → List PlanStmt → ℕ
weight_all budget body = sum (map (weight_in budget) body)

weight-cons : (budget : ℕ) (x : PlanStmt) (xs : List PlanStmt) → weight_all budget (x ∷ xs) ≡ weight_in budget x + weight_all budget xs
weight-cons budget x xs = sum_by-cons (λ n. n) (weight_in budget x) (map (weight_in budget) xs)

-- A statement that is a block is sound as its block is.
pub block-sound : (plan : Plan) (in_loop : Bool) (b : Block-) → IsSoundStmt plan in_loop (PlanBlock b) → IsSoundBlock plan b
block-sound plan in_loop b sound = All-head (IsMet plan) (OfBlock b) [] sound

-- a statement of a sound plan is at most 2^40 ticks long
stmt-short : (plan : Plan) (x : PlanStmt) → IsSoundStmt plan false x → length_in x ≤ 2 ^ 40
stmt-short plan (PlanBlock b) sound = (block-sound plan false b sound).length

stmt-weighs : (budget : ℕ) (x : PlanStmt) → 1 ≤ weight_in budget x
stmt-weighs budget (PlanBlock b) = omega arith

-- the part of statements
abbrev part_from : Plan → ℕ → Place → ℕ → List PlanStmt → List PartStmt
part_from plan k here n body = kept_in_order (map (part_stmt plan k) body) n here

-- A part takes at most 2^40 ticks for each 1 that its plan weighs.
pub ticks-few : (plan : Plan) (k : ℕ) (here : Place) (n : ℕ) (body : List PlanStmt) → All (IsSoundStmt plan false) body → ticks_of (part_from plan k here n body) ≤ weight_all plan.budget body * 2 ^ 40
ticks-few plan k here n [] sound = omega arith
ticks-few plan k here n (x ∷ xs) sound =
    let rest = ticks-few plan k here (n + 1) xs (All-tail (IsSoundStmt plan false) x xs sound) in
    omega (
      arith,
      rest,
      ticks-stmt plan k x (n ∷ here) (part_from plan k here (n + 1) xs),
      weight-cons plan.budget x xs,
      stmt-weighs plan.budget x,
      stmt-short plan x (All-head (IsSoundStmt plan false) x xs sound),
    )

items-block : (ticks : ℕ) (items : List Item) (rest : List PartStmt) → items_left (block_or_wait ticks items ∷ rest) 0 ≡ items ++ items_left rest 0
items-block ticks [] rest = refl
items-block ticks (item ∷ items) rest = refl

deed-near : (plan : Plan) (ticks : ℕ) (e : Event) (d : Deed) → ticks ≤ 2 ^ 40 → IsSoundDeed plan ticks e.offset e.port d → IsNear (Own e)
deed-near plan ticks e (Pulse f w) short sound = omega (arith, sound.1)

event-near : (plan : Plan) (ticks : ℕ) (e : Event) → ticks ≤ 2 ^ 40 → IsSoundEvent plan ticks e → IsNear (Own e)
event-near plan ticks e short sound = deed-near plan ticks e e.act short sound.act

-- Each item of a part is near its block's beginning.
pub items-near : (plan : Plan) (k : ℕ) (here : Place) (n : ℕ) (body : List PlanStmt) → All (IsSoundStmt plan false) body → All IsNear (items_left (part_from plan k here n body) 0)
items-near plan k here n [] sound = All-nil IsNear
items-near plan k here n (PlanBlock b ∷ xs) sound =
    let block = block-sound plan false b (All-head (IsSoundStmt plan false) (PlanBlock b) xs sound) in
    let near = All-weaker (IsSoundEvent plan b.length) (λ e. IsNear (Own e)) (λ e h. event-near plan b.length e block.length h) b.events block.events in
    let own = All-map IsNear Own (filter (is_own plan k) b.events) (All-filter (is_own plan k) (λ e. IsNear (Own e)) b.events near) in
    subst (All IsNear) (sym (items-block b.length (items_of plan k b.events) (part_from plan k here (n + 1) xs)))
    (All-append IsNear (items_of plan k b.events) _ (subst (All IsNear) (sym (items-own plan k b.events)) own) (items-near plan k here (n + 1) xs (All-tail (IsSoundStmt plan false) (PlanBlock b) xs sound)))

-- A part's items are at most what its plan weighs.
pub items-weigh : (plan : Plan) (k : ℕ) (here : Place) (n : ℕ) (body : List PlanStmt) → length (items_left (part_from plan k here n body) 0) ≤ weight_all plan.budget body
items-weigh plan k here n [] = omega arith
items-weigh plan k here n (PlanBlock b ∷ xs) =
    let left = ap length (items-block b.length (items_of plan k b.events) (part_from plan k here (n + 1) xs)) in
    let both = length-append (items_of plan k b.events) (items_left (part_from plan k here (n + 1) xs) 0) in
    let own = ap length (items-own plan k b.events) ∙ length-map (filter (is_own plan k) b.events) Own ∙ length-filter (is_own plan k) b.events in
    omega (arith, left, both, own, count_by-le-length (is_own plan k) b.events, items-weigh plan k here (n + 1) xs, weight-cons plan.budget (PlanBlock b) xs)

-- an event before others whose items are counted
one-plays : (own played : Bool) (e : Event) (events : List Event) → plays e.act ≡ played →
    count_by plays_item (map Own (cond own (e ∷ events) events)) ≡ cond (own && played) 1 0 + count_by plays_item (map Own events)
one-plays true played e events same = sum_by-cons _ (Own e) (map Own events) ∙ ap (λ b. cond b 1 0 + count_by plays_item (map Own events)) same
one-plays false played e events same = omega arith

-- the items of a block that play
listed-play : (plan : Plan) (k : ℕ) (events : List Event) → count_by plays_item (map Own (filter (is_own plan k) events)) ≡ count_by (λ e. is_own plan k e && plays e.act) events
listed-play plan k [] = refl
listed-play plan k (e ∷ es) =
    omega (
      arith,
      one-plays (is_own plan k e) (plays e.act) e (filter (is_own plan k) es) refl,
      listed-play plan k es,
      sum_by-cons (λ d. cond (is_own plan k d && plays d.act) 1 0) e es,
    )

own-play : (plan : Plan) (k : ℕ) (events : List Event) → count_by plays_item (items_of plan k events) ≡ count_by (λ e. is_own plan k e && plays e.act) events
own-play plan k events = ap (count_by plays_item) (items-own plan k events) ∙ listed-play plan k events

-- A part's items that play are as many as its controller's log may have entries.
pub items-most : (plan : Plan) (k : ℕ) (here : Place) (n : ℕ) (body : List PlanStmt) → count_by plays_item (items_left (part_from plan k here n body) 0) ≡ sum (map (most_in plan k) body)
items-most plan k here n [] = refl
items-most plan k here n (PlanBlock b ∷ xs) =
    omega (
      arith,
      ap (count_by plays_item) (items-block b.length (items_of plan k b.events) (part_from plan k here (n + 1) xs)),
      sum_by-append (λ i. cond (plays_item i) 1 0) (items_of plan k b.events) (items_left (part_from plan k here (n + 1) xs) 0),
      own-play plan k b.events,
      items-most plan k here (n + 1) xs,
      sum_by-cons (λ n. n) (most_in plan k (PlanBlock b)) (map (most_in plan k) xs),
    )

deed-plays : (d : Deed) → plays d ≡ true
deed-plays (Pulse f w) = refl

-- Each item plays.
pub item-plays : (item : Item) → plays_item item ≡ true
item-plays (Own e) = deed-plays e.act

-- An item before others is one more to play.
pub count-plays : (item : Item) (items : List Item) → count_by plays_item (item ∷ items) ≡ 1 + count_by plays_item items
count-plays item items = sum_by-cons _ item items ∙ ap (λ b. cond b 1 0 + count_by plays_item items) (item-plays item)

-- As many items play as there are.
pub all-play : (items : List Item) → count_by plays_item items ≡ length items
all-play [] = refl
all-play (item ∷ items) = omega (arith, count-plays item items, all-play items)

-- the items of a plan's part are as many as its log may have entries
pub items-room : (plan : Plan) (k : ℕ) → length (items_left (part_of plan k).body 0) ≡ most plan k
items-room plan k = sym (all-play (items_left (part_of plan k).body 0)) ∙ items-most plan k [] 0 plan.body

-- no list of acts makes more entries than it has acts
one-entry : (o : Option Played) (log : List Played) → length (cons_option o log) ≤ 1 + length log
one-entry None log = omega arith
one-entry (Some p) log = omega arith

log-short : (acts : List Act) → length (log_of acts) ≤ length acts
log-short [] = omega arith
log-short (a ∷ acts) = omega (arith, one-entry (played_by a) (log_of acts), log-short acts)

length-part : (k : ℕ) (frames : List FrameState) (tick : ℕ) (body : List PartStmt) → length (part_acts k frames tick body) ≡ length (items_left body 0)
length-part k frames tick [] = refl
length-part k frames tick (Block ticks items ∷ rest) =
    omega (
      arith,
      length-append (map (item_act k frames tick) items) (part_acts k frames (tick + ticks) rest),
      length-map items (item_act k frames tick),
      length-append items (items_left rest 0),
      length-part k frames (tick + ticks) rest,
    )
length-part k frames tick (Wait ticks ∷ rest) = length-part k frames (tick + ticks) rest

-- A log has room for all that its controller plays.
pub log-room : (plan : Plan) (tape : Tape) (k : ℕ) → length (log_of (planned_acts plan tape k)) ≤ most plan k
log-room plan tape k =
    omega (
      arith,
      log-short (planned_acts plan tape k),
      ap length (acts-planned plan tape k),
      length-part k (start_frames plan.frames) 0 (part_of plan k).body,
      items-room plan k,
    )

length-events : (frames : List FrameState) (here : Place) (n tick : ℕ) (events : List Event) → length (event_entries frames here n tick events) ≡ length events
length-events frames here n tick [] = refl
length-events frames here n tick (e ∷ es) = ap (λ m. suc m) (length-events frames here (n + 1) tick es)

stmt-entries-few : (budget : ℕ) (frames : List FrameState) (here : Place) (tick : ℕ) (x : PlanStmt) → length (stmt_entries frames here tick x) ≤ weight_in budget x
stmt-entries-few budget frames here tick (PlanBlock b) = omega (arith, length-events frames here 0 tick b.events)

entries-few : (budget : ℕ) (frames : List FrameState) (here : Place) (n tick : ℕ) (body : List PlanStmt) → length (entries_of frames here n tick body) ≤ weight_all budget body
entries-few budget frames here n tick [] = omega arith
entries-few budget frames here n tick (x ∷ xs) = rw length-append (omega (arith, weight-cons budget x xs, stmt-entries-few budget frames (n ∷ here) tick x, entries-few budget frames here (n + 1) (tick + length_in x) xs))

acts-one : (plan : Plan) (e : Entry) (what : Happening) → length (acts_by plan e what) ≡ 1
acts-one plan e (Pulsed port wave phase hz) = refl

length-acts : (plan : Plan) (trace : List Entry) → length (all_acts plan trace) ≡ length trace
length-acts plan [] = refl
length-acts plan (e ∷ es) = rw length-append (omega (arith, acts-one plan e e.what, length-acts plan es))

-- A controller's acts are at most what a plan weighs.
pub acts-weigh : ActsAreFew
acts-weigh plan tape k =
    let own = length-filter (λ a. nat_eq (actor a) k) (all_acts plan (run_of plan tape).trace) in
    let some = count_by-le-length (λ a. nat_eq (actor a) k) (all_acts plan (run_of plan tape).trace) in
    omega (arith, own, some, length-acts plan (run_of plan tape).trace, ap length (run-trace plan tape), entries-few plan.budget (start_frames plan.frames) [] 0 0 plan.body)
