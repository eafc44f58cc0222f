-- Where a controller stands: it passes over nothing that has an item, and what is left from there is its walk from there.
use Rattle.std.proofs.Common.{◌≡◌, ℕ, ◌+◌, ◌<◌, ◌≤◌, ◌^◌, List, [], ◌∷◌, ◌++◌, length, drop, refl, ap, arith, sym, ◌∙◌, subst, inl, inr, cond, true, false}
use Rattle.std.specs.Prelude.{All, Bool, Option, Some, None, is_some, slice_get, nat_lt, ◌⊎◌, zero, suc}
use Rattle.std.specs.Borrow.{Bor}
use Rattle.std.specs.Option.{option_copied}
use Rattle.std.proofs.lemmas.Bool.{cases_lt}
use Rattle.std.proofs.lemmas.Bool.Decides.{nat_tests}
use Rattle.std.proofs.lemmas.List.{drop_more, drop-drop, drop_all}
use Rattle.std.proofs.lemmas.List.Elements.{All-rest, All-same}
use Rattle.std.proofs.lemmas.Option.{slice_get_within, get_or_from_slice_get, slice_get_cases}
use Rattle.qs_values.specs.declared.tape.Tape.{Tape}
use Rattle.plan_tree.specs.declared.plan.Plan.{Plan}
use Rattle.plan_tree.specs.declared.part.Item.{Item}
use Rattle.plan_tree.specs.declared.part.PartStmt.{PartStmt}
use Rattle.plan_tree.specs.declared.part.PartStmt.TheVariants.{Block, Wait}
use Rattle.controller_machine.specs.declared.stand.Spot.{Spot}
use Rattle.controller_machine.specs.declared.stand.Stand.{Stand}
use Rattle.controller_machine.specs.declared.stand.Stand.TheVariants.{At, Over}
use Rattle.controller_machine.specs.declared.stand.Ending.TheVariants.{Going}
use Rattle.controller_machine.specs.Alone.{Ends, Makes, Rest, Shown, Walker, items_then, after_ticks, with_entry_of, part_end, walk}
use Rattle.controller_machine.specs.Ctl.{ending_in, tick_in}
use Rattle.controller_machine.specs.steps.Place.{item_at, item_in, stand_from}
use Rattle.controller_machine.specs.steps.Left.{IsInTime, IsNear, LeavesTime, items_left, ticks_of}
use Rattle.controller_machine.proofs.Parts.{item_act}
use Rattle.controller_machine.proofs.Walks.{item-then, to_end}

cond-cases : {X : Type 0} (b : Bool) (x y : X) → ((b ≡ true) × (cond b x y ≡ x)) ⊎ ((b ≡ false) × (cond b x y ≡ y))
cond-cases true x y = inl (refl, refl)
cond-cases false x y = inr (refl, refl)

drop-get : {X : Type 0} (xs : List X) (i : ℕ) (x : X) → slice_get xs i ≡ Some x → drop i xs ≡ x ∷ drop (i + 1) xs
drop-get xs i x h = drop_more xs i x (slice_get_within xs i x h) ∙ ap (λ y. y ∷ drop (i + 1) xs) (get_or_from_slice_get xs i x x h)

-- what stands after the first of what is left of a list
after-first : {X : Type 0} (xs : List X) (s : ℕ) (y : X) (ys : List X) → y ∷ ys ≡ drop s xs → ys ≡ drop (s + 1) xs
after-first xs s y ys e = ap (drop 1) e ∙ drop-drop 1 s xs

first-get : {X : Type 0} (xs : List X) (s : ℕ) (y : X) (ys : List X) → y ∷ ys ≡ drop s xs → slice_get xs s ≡ Some y
first-get [] zero y ys e = absurd cc
first-get [] (suc s) y ys e = absurd cc
first-get (x ∷ xs) zero y ys e = cc
first-get (x ∷ xs) (suc s) y ys e = first-get xs s y ys e

abbrev spot_of : ℕ → ℕ → ℕ → Spot
spot_of s i t = record { statement = s; item = i; tick = t }

-- where a controller stands that has come to a block
block-cases : (ticks : ℕ) (items : List Item) (rest : List PartStmt) (s i t : ℕ) →
    ((i < length items) × (stand_from (Block ticks items ∷ rest) s i t ≡ At (spot_of s i t)))
    ⊎ ((length items ≤ i) × (stand_from (Block ticks items ∷ rest) s i t ≡ stand_from rest (s + 1) 0 (t + ticks)))
block-cases ticks items rest s i t = elim (cond-cases (nat_lt i (length items)) (At (spot_of s i t)) (stand_from rest (s + 1) 0 (t + ticks))) [
  | inl p ↦ inl (let test = p.0 in grind (arith, nat_tests), p.1)
  | inr p ↦ inr (let test = p.0 in grind (arith, nat_tests), p.1)
]

-- the block at a spot with an item
pub record StandsIn (body : List PartStmt) (s i : ℕ) (item : Item) : Type 0 where
  pub ticks : ℕ
  pub items : List Item
  pub rest : List PartStmt
  pub block : drop s body ≡ Block ticks items ∷ rest
  pub left : drop i items ≡ item ∷ drop (i + 1) items

pub stands-in : (body : List PartStmt) (s i : ℕ) (item : Item) → item_in i (slice_get body s) ≡ Some item → StandsIn body s i item
stands-in [] s i item h = absurd cc
stands-in (Block ticks items ∷ rest) zero i item h = record { ticks = ticks; items = items; rest = rest; block = refl; left = drop-get items i item h }
stands-in (Wait ticks ∷ rest) zero i item h = absurd cc
stands-in (x ∷ rest) (suc s) i item h = let r = stands-in rest s i item h in record { ticks = r.ticks; items = r.items; rest = r.rest; block = r.block; left = r.left }

-- the place in a block of an item that was found
found-within : (items : List Item) (i : ℕ) (item : Item) → drop i items ≡ item ∷ drop (i + 1) items → i < length items
found-within items i item left = elim (cases_lt i (length items)) [
  | inl within ↦ within
  | inr past ↦ absurd (let none = drop_all i items past in cc)
]

-- a block without an item at this place has ended
none-past : (items : List Item) (i : ℕ) → slice_get items i ≡ None → length items ≤ i
none-past items i none = elim (slice_get_cases items i).1 [
  | inl p ↦ absurd (let got = p.2 in cc)
  | inr p ↦ p.0
]

-- An item that was found, after its reference, and none.
pub found-item : (o : Option (Bor Item)) → is_some o ≡ true → (item : Item) × (option_copied o ≡ Some item)
found-item None h = absurd cc
found-item (Some item) h = (item.now, refl)

pub no-item : (o : Option (Bor Item)) → is_some o ≡ false → option_copied o ≡ None
no-item None h = refl
no-item (Some item) h = absurd cc

-- A controller stands where there is an item.
pub stands-here : (body : List PartStmt) (s i t : ℕ) (item : Item) → item_in i (slice_get body s) ≡ Some item → stand_from (drop s body) s i t ≡ At (spot_of s i t)
stands-here body s i t item found =
    let r = stands-in body s i item found in
    elim (block-cases r.ticks r.items r.rest s i t) [
      | inl p ↦ ap (λ xs. stand_from xs s i t) r.block ∙ p.1
      | inr p ↦ absurd (let within = found-within r.items i item r.left in omega arith)
    ]

over-stmt : (stmt : PartStmt) (rest : List PartStmt) (s i t : ℕ) → item_in i (Some stmt) ≡ None → stand_from (stmt ∷ rest) s i t ≡ stand_from rest (s + 1) 0 (t + ticks_of (stmt ∷ []))
over-stmt (Block ticks items) rest s i t none = elim (block-cases ticks items rest s i t) [
  | inl p ↦ absurd (let past = none-past items i none in omega arith)
  | inr p ↦ p.1 ∙ ap (λ n. stand_from rest (s + 1) 0 (t + n)) (let same : ticks ≡ ticks + 0 = omega arith in same)
]
over-stmt (Wait ticks) rest s i t none = ap (λ n. stand_from rest (s + 1) 0 (t + n)) (let same : ticks ≡ ticks + 0 = omega arith in same)

-- It passes over a statement without an item there.
pub stand-passes : (body : List PartStmt) (s i t : ℕ) (stmt : PartStmt) → slice_get body s ≡ Some stmt → item_in i (slice_get body s) ≡ None →
    stand_from (drop s body) s i t ≡ stand_from (drop (s + 1) body) (s + 1) 0 (t + ticks_of (stmt ∷ []))
stand-passes body s i t stmt here none =
    ap (λ xs. stand_from xs s i t) (drop-get body s stmt here) ∙ over-stmt stmt (drop (s + 1) body) s i t (ap (item_in i) (sym here) ∙ none)

ticks-first : (stmt : PartStmt) (rest : List PartStmt) → ticks_of (stmt ∷ rest) ≡ ticks_of (stmt ∷ []) + ticks_of rest
ticks-first (Block ticks items) rest = omega arith
ticks-first (Wait ticks) rest = omega arith

-- The ticks of what is left are those of its first statement and of the rest.
pub ticks-from : (body : List PartStmt) (s : ℕ) (stmt : PartStmt) → slice_get body s ≡ Some stmt → ticks_of (drop s body) ≡ ticks_of (stmt ∷ []) + ticks_of (drop (s + 1) body)
ticks-from body s stmt here = ap ticks_of (drop-get body s stmt here) ∙ ticks-first stmt (drop (s + 1) body)

-- ---- what is true where a controller stands

-- It stands before an item, or is over.
abbrev pub HasItem : List PartStmt → Stand → Type 0
HasItem body (At spot) = (item : Item) × (item_at body spot ≡ Some item)
HasItem body (Over ending tick) = Unit {0}

item-here : (body : List PartStmt) (ticks : ℕ) (items : List Item) (rest : List PartStmt) (s i t : ℕ) → Block ticks items ∷ rest ≡ drop s body → i < length items → HasItem body (At (spot_of s i t))
item-here body ticks items rest s i t e within = elim (slice_get_cases items i).1 [
  | inl p ↦ (p.0, ap (item_in i) (first-get body s (Block ticks items) rest e) ∙ p.2)
  | inr p ↦ absurd (let past = p.0 in omega arith)
]

pub stand-has : (body xs : List PartStmt) (s i t : ℕ) → xs ≡ drop s body → HasItem body (stand_from xs s i t)
stand-has body [] s i t e = tt
stand-has body (Block ticks items ∷ rest) s i t e = elim (block-cases ticks items rest s i t) [
  | inl p ↦ subst (HasItem body) (sym p.1) (item-here body ticks items rest s i t e p.0)
  | inr p ↦ subst (HasItem body) (sym p.1) (stand-has body rest (s + 1) 0 (t + ticks) (after-first body s _ rest e))
]
stand-has body (Wait ticks ∷ rest) s i t e = stand-has body rest (s + 1) 0 (t + ticks) (after-first body s _ rest e)

-- It is in time where what is left ends in time.
pub stand-in_time : (body xs : List PartStmt) (s i t : ℕ) → xs ≡ drop s body → t + ticks_of xs < 2 ^ 61 → All IsNear (items_left xs i) → IsInTime body (stand_from xs s i t)
stand-in_time body [] s i t e time near = tt
stand-in_time body (Block ticks items ∷ rest) s i t e time near = elim (block-cases ticks items rest s i t) [
  | inl p ↦ subst (IsInTime body) (sym p.1) (record { time = omega (arith, ap ticks_of e, time); near = All-same IsNear _ _ (sym (ap (λ xs. items_left xs i) e)) near })
  | inr p ↦ subst (IsInTime body) (sym p.1) (stand-in_time body rest (s + 1) 0 (t + ticks) (after-first body s _ rest e) (omega arith)
      (All-same IsNear _ _ (sym (ap (λ ys. ys ++ items_left rest 0) (drop_all i items p.0))) near))
]
stand-in_time body (Wait ticks ∷ rest) s i t e time near = stand-in_time body rest (s + 1) 0 (t + ticks) (after-first body s _ rest e) (omega arith) near

-- the item at a spot is the first of what is left
item-left : (body : List PartStmt) (s i : ℕ) (item : Item) → StandsIn body s i item → items_left (drop s body) i ≡ item ∷ items_left (drop s body) (i + 1)
item-left body s i item r = subst (λ xs. items_left xs i ≡ item ∷ items_left xs (i + 1)) (sym r.block) (ap (λ ys. ys ++ items_left r.rest 0) r.left)

-- The item at a spot in time is near its block's beginning.
pub item-near : (body : List PartStmt) (spot : Spot) (item : Item) → LeavesTime body spot → item_at body spot ≡ Some item → IsNear item
item-near body spot item in_time found =
    let first = item-left body spot.statement spot.item item (stands-in body spot.statement spot.item item found) in
    All-same IsNear _ _ (sym first) in_time.near 0 item (omega arith)

-- What is left after it is in time.
pub item-in_time : (body : List PartStmt) (spot : Spot) (item : Item) → LeavesTime body spot → item_at body spot ≡ Some item →
    IsInTime body (stand_from (drop spot.statement body) spot.statement (spot.item + 1) spot.tick)
item-in_time body spot item in_time found =
    let first = item-left body spot.statement spot.item item (stands-in body spot.statement spot.item item found) in
    stand-in_time body (drop spot.statement body) spot.statement (spot.item + 1) spot.tick refl in_time.time
    (All-rest IsNear item (items_left (drop spot.statement body) (spot.item + 1)) (items_left (drop spot.statement body) spot.item) first in_time.near)

-- ---- what is left of a walk

-- a statement from this item on
abbrev pub from_item : ℕ → PartStmt → PartStmt
from_item i (Block ticks items) = Block ticks (drop i items)
from_item i (Wait ticks) = Wait ticks

-- what a controller shows that stands here
abbrev pub shown_at : Shown → Stand → Shown
shown_at shown stand = record shown { tick = tick_in stand; ending = ending_in stand }

module _ (plan : Plan) (tape : Tape) (k : ℕ) where
  -- the walk of statements from this item of the first on
  abbrev pub walk_from : List PartStmt → ℕ → Rest
  walk_from [] i = part_end.next
  walk_from (x ∷ xs) i = walk plan tape k (from_item i x) (record part_end { next = to_end plan tape k xs })

  -- From the first item on it is the whole walk.
  pub walk-whole : (xs : List PartStmt) → walk_from xs 0 ≡ to_end plan tape k xs
  walk-whole [] = refl
  walk-whole (Block ticks items ∷ xs) = refl
  walk-whole (Wait ticks ∷ xs) = refl

  -- what is left of the walk of a controller that stands here
  abbrev pub left_at : List PartStmt → Stand → Rest
  left_at body (At spot) = walk_from (drop spot.statement body) spot.item
  left_at body (Over ending tick) = Ends

  abbrev pub walker_at : Shown → List (List ℕ) → Stand → Walker
  walker_at shown lists stand = record { shown = shown_at shown stand; lists = lists }

  abbrev pub walker_from : Shown → List (List ℕ) → ℕ → Walker
  walker_from shown lists tick = record { shown = record shown { tick = tick; ending = Going }; lists = lists }

  none-left : (ticks : ℕ) (items : List Item) (rest : List PartStmt) (i : ℕ) (w : Walker) → length items ≤ i → walk_from (Block ticks items ∷ rest) i w ≡ to_end plan tape k rest (after_ticks ticks w)
  none-left ticks items rest i w past = ap (λ ys. items_then plan tape k ys (λ v. to_end plan tape k rest (after_ticks ticks v)) w) (drop_all i items past)

  -- Where a controller stands, its walk is the walk from where it came to.
  pub left-stand : (body xs : List PartStmt) (s i t : ℕ) (shown : Shown) (lists : List (List ℕ)) → xs ≡ drop s body →
      left_at body (stand_from xs s i t) (walker_at shown lists (stand_from xs s i t)) ≡ walk_from xs i (walker_from shown lists t)
  left-stand body [] s i t shown lists e = refl
  left-stand body (Block ticks items ∷ rest) s i t shown lists e = elim (block-cases ticks items rest s i t) [
    | inl p ↦ ap (λ stand. left_at body stand (walker_at shown lists stand)) p.1 ∙ ap (λ xs. walk_from xs i (walker_from shown lists t)) (sym e)
    | inr p ↦
        ap (λ stand. left_at body stand (walker_at shown lists stand)) p.1
        ∙ left-stand body rest (s + 1) 0 (t + ticks) shown lists (after-first body s _ rest e)
        ∙ ap (λ go. go (walker_from shown lists (t + ticks))) (walk-whole rest)
        ∙ sym (none-left ticks items rest i (walker_from shown lists t) p.0)
  ]
  left-stand body (Wait ticks ∷ rest) s i t shown lists e =
      left-stand body rest (s + 1) 0 (t + ticks) shown lists (after-first body s _ rest e) ∙ ap (λ go. go (walker_from shown lists (t + ticks))) (walk-whole rest)

  -- At an item the walk makes its act, and goes on after it.
  pub left-item : (body : List PartStmt) (spot : Spot) (item : Item) (w : Walker) → item_at body spot ≡ Some item →
      walk_from (drop spot.statement body) spot.item w
      ≡ Makes w (item_act k w.shown.frames w.shown.tick item) (walk_from (drop spot.statement body) (spot.item + 1) (with_entry_of (item_act k w.shown.frames w.shown.tick item) w))
  left-item body spot item w found =
      let r = stands-in body spot.statement spot.item item found in
      let a = item_act k w.shown.frames w.shown.tick item in
      let on : Rest = λ v. to_end plan tape k r.rest (after_ticks r.ticks v) in
      subst (λ xs. walk_from xs spot.item w ≡ Makes w a (walk_from xs (spot.item + 1) (with_entry_of a w))) (sym r.block)
      (ap (λ ys. items_then plan tape k ys on w) r.left ∙ item-then plan tape k item (items_then plan tape k (drop (spot.item + 1) r.items) on) w)
