-- A controller after so many acts: what is left from where it stands is what is left of its walk.
use Rattle.std.proofs.Common.{◌≡◌, ℕ, ◌+◌, ◌-◌, ◌<◌, ◌≤◌, List, [], ◌∷◌, ◌++◌, length, drop, take, refl, ap, arith, sym, ◌∙◌}
use Rattle.std.specs.Prelude.{◌↔◌, Some, None, cond, zero, suc}
use Rattle.std.proofs.lemmas.List.{length-append}
use Rattle.std.proofs.lemmas.List.Elements.{filter_map-append}
use Rattle.qs_values.specs.declared.tape.Tape.{Tape}
use Rattle.plan_tree.specs.declared.plan.Plan.{Plan}
use Rattle.plan_tree.specs.declared.plan.Event.{Event}
use Rattle.plan_tree.specs.declared.plan.Deed.{Deed}
use Rattle.plan_tree.specs.declared.plan.Deed.TheVariants.{Pulse}
use Rattle.plan_tree.specs.declared.part.Item.{Item}
use Rattle.plan_tree.specs.declared.part.Item.TheVariants.{Own as OwnItem}
use Rattle.plan_tree.specs.declared.part.PartStmt.{PartStmt}
use Rattle.plan_tree.specs.Acts.{Act, planned_acts}
use Rattle.plan_tree.specs.Deeds.{plays}
use Rattle.plan_tree.specs.Parts.{part_of}
use Rattle.controller_machine.specs.declared.ctl.Want.TheVariants.{Go, Ended}
use Rattle.controller_machine.specs.declared.stand.Spot.{Spot}
use Rattle.controller_machine.specs.declared.stand.Stand.{Stand}
use Rattle.controller_machine.specs.declared.stand.Stand.TheVariants.{At, Over}
use Rattle.controller_machine.specs.Alone.{Alone, Ends, Makes, Shown, Walker, acts_in, alone_of, left_after, lists_to, with_entry_of, now_in, shown_after, start_shown}
use Rattle.controller_machine.specs.Ctl.{CtlState, after_act, after_item, after_stand, entries_at, entries_next, most, shown_of, start_ctl, state_after, want_at, want_of, with_deed, with_item}
use Rattle.controller_machine.specs.steps.Place.{item_at, item_of, stand_after}
use Rattle.controller_machine.specs.Laws.{ControllersFollow}
use Rattle.controller_machine.specs.Log.{log_of, played_by}
use Rattle.controller_machine.proofs.Parts.{deed_act, item_act}
use Rattle.controller_machine.proofs.Sizes.{log-room}
use Rattle.controller_machine.proofs.Stands.{HasItem, left-item, left-stand, left_at, stand-has, walk-whole, walk_from, walker_at}
use Rattle.controller_machine.proofs.Walks.{alone-acts}

-- ---- what an item changes

-- a controller that has with_entries_of what an act plays
abbrev with_act : CtlState → Act → CtlState
with_act c a = record c { log = c.log ++ log_of (a ∷ []); room = c.room - length (log_of (a ∷ [])) }

deed-changes : (k : ℕ) (c : CtlState) (tick : ℕ) (e : Event) (d : Deed) → with_deed c tick e d ≡ with_act c (deed_act k c.frames tick e d)
deed-changes k c tick e (Pulse f w) = refl

-- An item logs what its act plays.
item-changes : (k : ℕ) (c : CtlState) (tick : ℕ) (item : Item) → with_item c tick item ≡ with_act c (item_act k c.frames tick item)
item-changes k c tick (OwnItem e) = deed-changes k c tick e e.act

deed-entries : (k : ℕ) (c : CtlState) (tick : ℕ) (e : Event) (d : Deed) → cond (plays d) 1 0 ≡ length (log_of (deed_act k c.frames tick e d ∷ []))
deed-entries k c tick e (Pulse f w) = refl

-- An item makes as many entries as its act.
item-entries : (k : ℕ) (c : CtlState) (tick : ℕ) (item : Item) → entries_at (Some item) ≡ length (log_of (item_act k c.frames tick item ∷ []))
item-entries k c tick (OwnItem e) = deed-entries k c tick e e.act

want-some : (item : Item) → want_at (Some item) ≡ Go
want-some (OwnItem e) = refl

-- ---- what is left

-- the controller as it walks
abbrev walker_of : Plan → Tape → ℕ → CtlState → Walker
walker_of plan tape k c = record { shown = shown_of c; lists = lists_to plan tape k }

-- what is left of its walk from where it stands
abbrev left_of : Plan → Tape → ℕ → CtlState → Alone
left_of plan tape k c = left_at plan tape k c.part.body c.stand (walker_of plan tape k c)

-- controller k after n acts
record IsAt (plan : Plan) (tape : Tape) (k n : ℕ) (c : CtlState) : Type 0 where
  part : c.part ≡ part_of plan k
  left : left_of plan tape k c ≡ left_after n (alone_of plan tape k)
  log : c.log ≡ log_of (take n (planned_acts plan tape k))
  room : c.room ≡ most plan k - length c.log
  has : HasItem c.part.body c.stand

at-start : (plan : Plan) (tape : Tape) (k : ℕ) → IsAt plan tape k 0 (start_ctl plan tape k)
at-start plan tape k =
    let body : List PartStmt = (part_of plan k).body in
    record {
      part = refl;
      left = left-stand plan tape k body body 0 0 0 (start_shown plan tape) (lists_to plan tape k) refl
          ∙ ap (λ go. go (record { shown = start_shown plan tape; lists = lists_to plan tape k })) (walk-whole plan tape k body);
      log = refl;
      room = omega arith;
      has = stand-has body body 0 0 0 refl;
    }

-- what is left of the acts
acts-after : (n : ℕ) (a : Alone) → acts_in (left_after n a) ≡ drop n (acts_in a)
acts-after zero a = refl
acts-after (suc n) (Ends last) = refl
acts-after (suc n) (Makes now act rest) = acts-after n rest

after-more : (n : ℕ) (a : Alone) (now : Walker) (act : Act) (rest : Alone) → left_after n a ≡ Makes now act rest → left_after (suc n) a ≡ rest
after-more zero a now act rest e = ap (left_after 1) e
after-more (suc n) (Ends last) now act rest e = absurd cc
after-more (suc n) (Makes first act' more) now act rest e = after-more n more now act rest e

-- the first of what is left is the next of all
take-next : {X : Type 0} (n : ℕ) (xs : List X) (x : X) (rest : List X) → drop n xs ≡ x ∷ rest → take (suc n) xs ≡ take n xs ++ x ∷ []
take-next zero [] x rest e = absurd cc
take-next zero (y ∷ ys) x rest e = let same : y ≡ x = cc in ap (λ z. z ∷ []) same
take-next (suc n) [] x rest e = absurd cc
take-next (suc n) (y ∷ ys) x rest e = ap (λ zs. y ∷ zs) (take-next n ys x rest e)

take-split : {X : Type 0} (n : ℕ) (xs : List X) → xs ≡ take n xs ++ drop n xs
take-split zero xs = refl
take-split (suc n) [] = refl
take-split (suc n) (x ∷ xs) = ap (λ ys. x ∷ ys) (take-split n xs)

drop-none : {X : Type 0} (n : ℕ) (xs : List X) → drop n xs ≡ [] → length xs ≤ n
drop-none zero [] e = omega arith
drop-none zero (x ∷ xs) e = absurd cc
drop-none (suc n) [] e = omega arith
drop-none (suc n) (x ∷ xs) e = let rest = drop-none n xs e in omega arith

drop-some : {X : Type 0} (n : ℕ) (xs : List X) (x : X) (rest : List X) → drop n xs ≡ x ∷ rest → n < length xs
drop-some zero [] x rest e = absurd cc
drop-some zero (y ∷ ys) x rest e = omega arith
drop-some (suc n) [] x rest e = absurd cc
drop-some (suc n) (y ∷ ys) x rest e = let more = drop-some n ys x rest e in omega arith

-- what is left of a controller's walk where it stands here
abbrev left_by : Plan → Tape → ℕ → CtlState → Stand → Alone
left_by plan tape k c stand = left_at plan tape k c.part.body stand (walker_at plan tape k (shown_of c) (lists_to plan tape k) stand)

-- a controller before an item makes its act next
record IsBefore (plan : Plan) (tape : Tape) (k n : ℕ) (c : CtlState) (spot : Spot) (act : Act) : Type 0 where
  left : left_after n (alone_of plan tape k) ≡ Makes (walker_at plan tape k (shown_of c) (lists_to plan tape k) (At spot)) act
      (walk_from plan tape k (drop spot.statement c.part.body) (spot.item + 1) (with_entry_of act (walker_at plan tape k (shown_of c) (lists_to plan tape k) (At spot))))
  rest : List Act
  next : drop n (planned_acts plan tape k) ≡ act ∷ rest

before-item : (plan : Plan) (tape : Tape) (k n : ℕ) (c : CtlState) (spot : Spot) (item : Item) → IsAt plan tape k n c → c.stand ≡ At spot → item_at c.part.body spot ≡ Some item →
    IsBefore plan tape k n c spot (item_act k c.frames spot.tick item)
before-item plan tape k n c spot item r here found =
    let w : Walker = walker_at plan tape k (shown_of c) (lists_to plan tape k) (At spot) in
    let left = sym r.left ∙ ap (left_by plan tape k c) here ∙ left-item plan tape k c.part.body spot item w found in
    record {
      left = left;
      rest = _;
      next = sym (ap (drop n) (alone-acts plan tape k)) ∙ sym (acts-after n (alone_of plan tape k)) ∙ ap acts_in left;
    }

-- the controller after an item
after-here : (k : ℕ) (c : CtlState) (spot : Spot) (item : Item) → c.stand ≡ At spot → item_at c.part.body spot ≡ Some item →
    after_act c ≡ record (with_act c (item_act k c.frames spot.tick item)) { stand = stand_after c.part.body spot }
after-here k c spot item here found =
    ap (after_stand c) here ∙ ap (after_item c spot) found ∙ ap (λ (d : CtlState). record d { stand = stand_after c.part.body spot }) (item-changes k c spot.tick item)

at-item : (plan : Plan) (tape : Tape) (k n : ℕ) (c : CtlState) (spot : Spot) (item : Item) → IsAt plan tape k n c → c.stand ≡ At spot → item_at c.part.body spot ≡ Some item → IsAt plan tape k (suc n) (after_act c)
at-item plan tape k n c spot item r here found =
    let body : List PartStmt = c.part.body in
    let act : Act = item_act k c.frames spot.tick item in
    let before = before-item plan tape k n c spot item r here found in
    let shown : Shown = record (shown_of c) { log = c.log ++ log_of (act ∷ []) } in
    rw (after-here k c spot item here found) (record {
      part = r.part;
      left = left-stand plan tape k body (drop spot.statement body) spot.statement (spot.item + 1) spot.tick shown (lists_to plan tape k) refl
          ∙ sym (after-more n (alone_of plan tape k) _ act _ before.left);
      log = ap (λ log. log ++ log_of (act ∷ [])) r.log
          ∙ sym (filter_map-append played_by (take n (planned_acts plan tape k)) (act ∷ []))
          ∙ sym (ap log_of (take-next n (planned_acts plan tape k) act before.rest before.next));
      room = omega (arith, r.room, length-append c.log (log_of (act ∷ [])));
      has = stand-has body (drop spot.statement body) spot.statement (spot.item + 1) spot.tick refl;
    })

-- ---- by where a controller stands

-- A controller is before an item, or over, where no act is left.
data Where (plan : Plan) (tape : Tape) (k n : ℕ) (c : CtlState) : Type 0 where
  Before : (spot : Spot) (item : Item) (here : c.stand ≡ At spot) (found : item_at c.part.body spot ≡ Some item) → Where plan tape k n c
  After : (none : item_of c.part.body c.stand ≡ None) (all : drop n (planned_acts plan tape k) ≡ []) (now : now_in (left_of plan tape k c) ≡ walker_of plan tape k c) → Where plan tape k n c

where-is : (plan : Plan) (tape : Tape) (k n : ℕ) (c : CtlState) (stand : Stand) → IsAt plan tape k n c → c.stand ≡ stand → HasItem c.part.body stand → Where plan tape k n c
where-is plan tape k n c (At spot) r here has = Before spot has.0 here has.1
where-is plan tape k n c (Over ending tick) r here has =
    let left = ap (left_by plan tape k c) here in
    After
    (ap (item_of c.part.body) here)
    (sym (ap (drop n) (alone-acts plan tape k)) ∙ sym (acts-after n (alone_of plan tape k)) ∙ ap acts_in (sym r.left ∙ left))
    (ap now_in left ∙ ap (λ stand. walker_at plan tape k (shown_of c) (lists_to plan tape k) stand) (sym here))

where-at : (plan : Plan) (tape : Tape) (k n : ℕ) (c : CtlState) → IsAt plan tape k n c → Where plan tape k n c
where-at plan tape k n c r = where-is plan tape k n c c.stand r refl r.has

at-act : (plan : Plan) (tape : Tape) (k n : ℕ) (c : CtlState) → IsAt plan tape k n c → n < length (planned_acts plan tape k) → IsAt plan tape k (suc n) (after_act c)
at-act plan tape k n c r less = elim (where-at plan tape k n c r) [
  | Before spot item here found ↦ at-item plan tape k n c spot item r here found
  | After none left now ↦ absurd (let all = drop-none n (planned_acts plan tape k) left in omega arith)
]

-- The state after any number of planned acts is that of a controller after so many.
state-at : (plan : Plan) (tape : Tape) (k n : ℕ) → n ≤ length (planned_acts plan tape k) → IsAt plan tape k n (state_after plan tape k n)
state-at plan tape k zero within = at-start plan tape k
state-at plan tape k (suc n) within = at-act plan tape k n (state_after plan tape k n) (state-at plan tape k n (omega arith)) (omega arith)

-- what a controller shows is what it shows alone
now-shown : (plan : Plan) (tape : Tape) (k n : ℕ) (c : CtlState) → IsAt plan tape k n c → Where plan tape k n c → shown_of c ≡ shown_after plan tape k n
now-shown plan tape k n c r (Before spot item here found) =
    let before = before-item plan tape k n c spot item r here found in
    ap (λ stand. (walker_at plan tape k (shown_of c) (lists_to plan tape k) stand).shown) here ∙ sym (ap (λ a. (now_in a).shown) before.left)
now-shown plan tape k n c r (After none left now) = ap (λ (w : Walker). w.shown) (sym now ∙ ap now_in r.left)

now-ended : (plan : Plan) (tape : Tape) (k n : ℕ) (c : CtlState) → IsAt plan tape k n c → n ≤ length (planned_acts plan tape k) → Where plan tape k n c →
    (want_of c ≡ Ended) ↔ (n ≡ length (planned_acts plan tape k))
now-ended plan tape k n c r within (Before spot item here found) =
    let before = before-item plan tape k n c spot item r here found in
    let go : want_of c ≡ Go = ap (λ stand. want_at (item_of c.part.body stand)) here ∙ ap want_at found ∙ want-some item in
    let less = drop-some n (planned_acts plan tape k) _ before.rest before.next in
    ((λ ended. absurd cc), (λ all. absurd (omega arith)))
now-ended plan tape k n c r within (After none left now) =
    let all = drop-none n (planned_acts plan tape k) left in
    ((λ ended. omega arith), (λ same. ap want_at none))

now-room : (plan : Plan) (tape : Tape) (k n : ℕ) (c : CtlState) → IsAt plan tape k n c → Where plan tape k n c → entries_next c ≤ c.room
now-room plan tape k n c r (Before spot item here found) =
    let before = before-item plan tape k n c spot item r here found in
    let act : Act = item_act k c.frames spot.tick item in
    let entries : entries_next c ≡ length (log_of (act ∷ [])) = ap (λ stand. entries_at (item_of c.part.body stand)) here ∙ ap entries_at found ∙ item-entries k c spot.tick item in
    let made : List Act = take n (planned_acts plan tape k) in
    let split : log_of (planned_acts plan tape k) ≡ log_of made ++ log_of (act ∷ before.rest) =
    ap log_of (take-split n (planned_acts plan tape k) ∙ ap (λ acts. made ++ acts) before.next) ∙ filter_map-append played_by made (act ∷ before.rest) in
    omega (
      arith,
      entries,
      r.room,
      ap length r.log,
      ap length split,
      length-append (log_of made) (log_of (act ∷ before.rest)),
      ap length (filter_map-append played_by (act ∷ []) before.rest),
      length-append (log_of (act ∷ [])) (log_of before.rest),
      log-room plan tape k,
    )
now-room plan tape k n c r (After none left now) = omega (arith, ap entries_at none)

-- A controller after any number of its planned acts follows its walk.
pub states-follow : ControllersFollow
states-follow plan tape k n within =
    let c : CtlState = state_after plan tape k n in
    let r = state-at plan tape k n within in
    let here = where-at plan tape k n c r in
    record {
      part = r.part;
      shown = now-shown plan tape k n c r here;
      log = r.log;
      ended = now-ended plan tape k n c r within here;
      room = now-room plan tape k n c r here;
    }
