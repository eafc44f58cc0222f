-- A controller alone makes the acts of its part, one after another, and is at last where they lead.
use Rattle.std.proofs.Common.{◌≡◌, ℕ, ◌+◌, List, [], ◌∷◌, ◌++◌, map, refl, ap, sym, ◌∙◌, arith}
use Rattle.std.proofs.lemmas.List.{append_assoc, append-nil}
use Rattle.std.proofs.lemmas.List.Elements.{filter_map-append}
use Rattle.qs_values.specs.declared.tape.Tape.{Tape}
use Rattle.plan_tree.specs.declared.plan.Plan.{Plan}
use Rattle.plan_tree.specs.declared.plan.Event.{Event}
use Rattle.plan_tree.specs.declared.plan.Deed.{Deed}
use Rattle.plan_tree.specs.declared.plan.Deed.TheVariants.{Pulse}
use Rattle.plan_tree.specs.declared.part.Item.{Item}
use Rattle.plan_tree.specs.declared.part.Item.TheVariants.{Own as OwnItem}
use Rattle.plan_tree.specs.declared.part.PartStmt.{PartStmt}
use Rattle.plan_tree.specs.declared.part.PartStmt.TheVariants.{Block, Wait}
use Rattle.plan_tree.specs.Acts.{Act, planned_acts}
use Rattle.plan_tree.specs.Parts.{part_of}
use Rattle.controller_machine.specs.declared.stand.Ending.TheVariants.{Done}
use Rattle.controller_machine.specs.Alone.{Walker, Rest, act_then, acts_in, alone_of, deed_then, in_order, item_then, items_then, last_in, after_ticks, lists_to, with_entry_of, part_end, start_shown, walk}
use Rattle.controller_machine.specs.steps.Left.{ticks_of}
use Rattle.controller_machine.specs.Log.{log_of, played_by}
use Rattle.controller_machine.proofs.Parts.{acts-planned, deed_act, item_act, part_acts}

-- a controller that has with_entries_of what these acts play
abbrev pub with_entries_of : List Act → Walker → Walker
with_entries_of acts w = record w { shown = record w.shown { log = w.shown.log ++ log_of acts } }

-- a controller that is over at this tick
abbrev pub over_at : ℕ → Walker → Walker
over_at tick w = record w { shown = record w.shown { tick = tick; ending = Done } }

played-none : (w : Walker) → with_entries_of [] w ≡ w
played-none w = ap (λ log. record w { shown = record w.shown { log = log } }) (append-nil w.shown.log)

log-cons : (a : Act) (acts : List Act) → log_of (a ∷ acts) ≡ log_of (a ∷ []) ++ log_of acts
log-cons a acts = filter_map-append played_by (a ∷ []) acts

played-logged : (a : Act) (acts : List Act) (w : Walker) → with_entries_of acts (with_entry_of a w) ≡ with_entries_of (a ∷ acts) w
played-logged a acts w = ap (λ log. record w { shown = record w.shown { log = log } })
    (append_assoc w.shown.log (log_of (a ∷ [])) (log_of acts) ∙ ap (λ more. w.shown.log ++ more) (sym (log-cons a acts)))

played-played : (first then : List Act) (w : Walker) → with_entries_of then (with_entries_of first w) ≡ with_entries_of (first ++ then) w
played-played first then w = ap (λ log. record w { shown = record w.shown { log = log } })
    (append_assoc w.shown.log (log_of first) (log_of then) ∙ ap (λ more. w.shown.log ++ more) (sym (filter_map-append played_by first then)))

module _ (plan : Plan) (tape : Tape) (k : ℕ) where
  deed-then : (e : Event) (d : Deed) (rest : Rest) (w : Walker) → deed_then plan tape k e d rest w ≡ act_then (deed_act k w.shown.frames w.shown.tick e d) rest w
  deed-then e (Pulse f w) rest s = refl

  -- An item is its act, before what follows it.
  pub item-then : (item : Item) (rest : Rest) (w : Walker) → item_then plan tape k item rest w ≡ act_then (item_act k w.shown.frames w.shown.tick item) rest w
  item-then (OwnItem e) rest w = deed-then e e.act rest w

  -- the acts of items where a controller is
  abbrev acts_there : List Item → Walker → List Act
  acts_there items w = map (item_act k w.shown.frames w.shown.tick) items

  items-acts : (items : List Item) (rest : Rest) (w : Walker) → acts_in (items_then plan tape k items rest w) ≡ acts_there items w ++ acts_in (rest (with_entries_of (acts_there items w) w))
  items-acts [] rest w = ap (λ v. acts_in (rest v)) (sym (played-none w))
  items-acts (item ∷ items) rest w =
      let a : Act = item_act k w.shown.frames w.shown.tick item in
      ap acts_in (item-then item (items_then plan tape k items rest) w)
      ∙ ap (λ acts. a ∷ acts) (items-acts items rest (with_entry_of a w) ∙ ap (λ v. acts_there items w ++ acts_in (rest v)) (played-logged a (acts_there items w) w))

  items-last : (items : List Item) (rest : Rest) (w : Walker) → last_in (items_then plan tape k items rest w) ≡ last_in (rest (with_entries_of (acts_there items w) w))
  items-last [] rest w = ap (λ v. last_in (rest v)) (sym (played-none w))
  items-last (item ∷ items) rest w =
      let a : Act = item_act k w.shown.frames w.shown.tick item in
      ap last_in (item-then item (items_then plan tape k items rest) w)
      ∙ items-last items rest (with_entry_of a w) ∙ ap (λ v. last_in (rest v)) (played-logged a (acts_there items w) w)

  -- the walk of statements to the end of a part
  abbrev pub to_end : List PartStmt → Rest
  to_end body = in_order (map (walk plan tape k) body) part_end

  -- It makes the acts of the statements.
  pub walk-acts : (body : List PartStmt) (w : Walker) → acts_in (to_end body w) ≡ part_acts k w.shown.frames w.shown.tick body
  walk-acts [] w = refl
  walk-acts (Block ticks items ∷ rest) w =
      items-acts items (λ v. to_end rest (after_ticks ticks v)) w
      ∙ ap (λ acts. acts_there items w ++ acts) (walk-acts rest (after_ticks ticks (with_entries_of (acts_there items w) w)))
  walk-acts (Wait ticks ∷ rest) w = walk-acts rest (after_ticks ticks w)

  -- It ends at their end, with all with_entries_of that they play.
  pub walk-last : (body : List PartStmt) (w : Walker) → last_in (to_end body w) ≡ over_at (w.shown.tick + ticks_of body) (with_entries_of (part_acts k w.shown.frames w.shown.tick body) w)
  walk-last [] w = sym (ap (λ v. over_at (w.shown.tick + 0) v) (played-none w) ∙ ap (λ t. over_at t w) (let same : w.shown.tick + 0 ≡ w.shown.tick = omega arith in same))
  walk-last (Block ticks items ∷ rest) w =
      let first : List Act = acts_there items w in
      let then : List Act = part_acts k w.shown.frames (w.shown.tick + ticks) rest in
      let sum : w.shown.tick + ticks + ticks_of rest ≡ w.shown.tick + (ticks + ticks_of rest) = omega arith in
      items-last items (λ v. to_end rest (after_ticks ticks v)) w
      ∙ walk-last rest (after_ticks ticks (with_entries_of first w))
      ∙ ap (λ v. over_at (w.shown.tick + ticks + ticks_of rest) v) (played-played first then w)
      ∙ ap (λ t. over_at t (with_entries_of (first ++ then) w)) sum
  walk-last (Wait ticks ∷ rest) w =
      let sum : w.shown.tick + ticks + ticks_of rest ≡ w.shown.tick + (ticks + ticks_of rest) = omega arith in
      walk-last rest (after_ticks ticks w) ∙ ap (λ t. over_at t (with_entries_of (part_acts k w.shown.frames (w.shown.tick + ticks) rest) w)) sum

-- Controller k alone makes its planned acts.
pub alone-acts : (plan : Plan) (tape : Tape) (k : ℕ) → acts_in (alone_of plan tape k) ≡ planned_acts plan tape k
alone-acts plan tape k = walk-acts plan tape k (part_of plan k).body (record { shown = start_shown plan tape; lists = lists_to plan tape k }) ∙ acts-planned plan tape k

-- It is at last at the end of its part, with its planned timeline with_entries_of.
pub alone-last : (plan : Plan) (tape : Tape) (k : ℕ) →
    last_in (alone_of plan tape k) ≡ over_at (0 + ticks_of (part_of plan k).body) (with_entries_of (planned_acts plan tape k) (record { shown = start_shown plan tape; lists = lists_to plan tape k }))
alone-last plan tape k = walk-last plan tape k (part_of plan k).body (record { shown = start_shown plan tape; lists = lists_to plan tape k })
    ∙ ap (λ acts. over_at (0 + ticks_of (part_of plan k).body) (with_entries_of acts (record { shown = start_shown plan tape; lists = lists_to plan tape k }))) (acts-planned plan tape k)
