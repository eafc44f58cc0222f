-- Sound plans, and tapes that fit them. This project's own.
use Rattle.std.specs.Prelude.{◌≡◌, ◌⊎◌, ℕ, ◌+◌, ◌<◌, ◌≤◌, ◌^◌, List, [], ◌∷◌, length, map, sum, filter, All, slice_get, IsSomeAnd, Bool, false, ◌&&◌, nat_eq, Some}
use Rattle.std.specs.List.{IsDistinct}
use Rattle.std.specs.List.Sorted.{IsSortedByKey}
use Rattle.std.specs.declared.cmp.Ordering.{Ordering}
use Rattle.std.specs.Ordering.{nat_cmp, ordering_then}
use Rattle.qs_values.specs.declared.kind.Kind.{Kind}
use Rattle.qs_values.specs.declared.kind.Kind.TheVariants.{Bit, Bool as Truth, Bits, Int, Uint, Angle}
use Rattle.qs_values.specs.declared.kind.Ty.{Ty}
use Rattle.qs_values.specs.declared.kind.Input.{Input}
use Rattle.qs_values.specs.declared.tape.Tape.{Tape}
use Rattle.plan_tree.specs.declared.plan.Plan.{Plan}
use Rattle.plan_tree.specs.declared.plan.Block.{Block as Block-}
use Rattle.plan_tree.specs.declared.plan.Event.{Event}
use Rattle.plan_tree.specs.declared.plan.Deed.{Deed}
use Rattle.plan_tree.specs.declared.plan.Deed.TheVariants.{Pulse}
use Rattle.plan_tree.specs.declared.plan.PlanStmt.{PlanStmt}
use Rattle.plan_tree.specs.declared.plan.PlanStmt.TheVariants.{Block}
use Rattle.plan_tree.specs.Store.{size_of}
use Rattle.plan_tree.specs.Deeds.{plays}

-- how much a statement weighs where loops take at most so many turns: a block 1 and its events
abbrev pub weight_in : ℕ → PlanStmt → ℕ
weight_in budget (Block b) = 1 + length b.events

-- how much a plan weighs
abbrev pub weight_of : Plan → ℕ
weight_of plan = sum (map (weight_in plan.budget) plan.body)

-- the greatest weight that is told: a greater one is told as this
abbrev pub greatest_weight : ℕ
greatest_weight = 18446744073709551615

-- the order of an offset and a port
abbrev pub start_cmp : ℕ × ℕ → ℕ × ℕ → Ordering
start_cmp x y = ordering_then (nat_cmp x.0 y.0) (nat_cmp x.1 y.1)

-- the offset and the port of an event
abbrev pub start_key : Event → ℕ × ℕ
start_key e = (e.offset, e.port)

-- whether two events stand on one port at one offset
abbrev pub same_start : Event → Event → Bool
same_start d e = nat_eq d.port e.port && nat_eq d.offset e.offset

-- A deed of a block of so many ticks, at this offset and port: its frame is one of its port, and a pulse begins before the block's end.
abbrev pub IsSoundDeed : Plan → ℕ → ℕ → ℕ → Deed → Type 0
IsSoundDeed plan ticks offset port (Pulse f w) = IsSomeAnd (slice_get plan.frames f) (λ s. s.port ≡ port) × (offset < ticks)

-- An event of a block of so many ticks: its port has a controller, and its deed is sound.
pub record IsSoundEvent (plan : Plan) (ticks : ℕ) (e : Event) : Type 0 where
  pub port : e.port < length plan.owner
  pub act : IsSoundDeed plan ticks e.offset e.port e.act

-- Events stand by offset and at one offset by port, and no two that play on one port begin together.
pub record IsSoundBlock (plan : Plan) (b : Block-) : Type 0 where
  pub length : b.length ≤ 2 ^ 40
  pub events : All (IsSoundEvent plan b.length) b.events
  pub order : IsSortedByKey start_key start_cmp b.events
  pub apart : IsDistinct same_start (filter (λ e. plays e.act) b.events)

-- what a sound plan owes for a statement
pub data Obligation : Type 0 where
  OfBlock : (block : Block-) → Obligation

-- An obligation is met.
abbrev pub IsMet : Plan → Obligation → Type 0
IsMet plan (OfBlock b) = IsSoundBlock plan b

-- the obligations of a statement, which stands in a loop or in none
abbrev pub owed_by : Bool → PlanStmt → List Obligation
owed_by in_loop (Block b) = OfBlock b ∷ []

-- A statement is sound that stands in a loop or in none: each of its obligations is met.
abbrev pub IsSoundStmt : Plan → Bool → PlanStmt → Type 0
IsSoundStmt plan in_loop stmt = All (IsMet plan) (owed_by in_loop stmt)

-- The variables from this one on are those of a value of this type: a register's are bits.
abbrev pub HasVars : List Ty → ℕ → Kind → ℕ → Type 0
HasVars vars first Bit width = IsSomeAnd (slice_get vars first) (λ ty. ty.kind ≡ Bit)
HasVars vars first Truth width = IsSomeAnd (slice_get vars first) (λ ty. ty.kind ≡ Truth)
HasVars vars first Bits width = (i : ℕ) → i < width → IsSomeAnd (slice_get vars (first + i)) (λ ty. ty.kind ≡ Bit)
HasVars vars first Int width = IsSomeAnd (slice_get vars first) (λ ty. (ty.kind ≡ Int) × (ty.width ≡ width))
HasVars vars first Uint width = IsSomeAnd (slice_get vars first) (λ ty. (ty.kind ≡ Uint) × (ty.width ≡ width))
HasVars vars first Angle width = IsSomeAnd (slice_get vars first) (λ ty. (ty.kind ≡ Angle) × (ty.width ≡ width))

-- the first variable after an input's
abbrev pub after_input : Input → ℕ
after_input input = input.first + size_of input.ty.kind input.ty.width

-- No two inputs share a variable.
abbrev pub AreApart : List Input → Type 0
AreApart inputs = (i j : ℕ) (a b : Input) → i < j → slice_get inputs i ≡ Some a → slice_get inputs j ≡ Some b
    → (after_input a ≤ b.first) ⊎ (after_input b ≤ a.first)

-- A plan is sound: its numbers are in range, its inputs and outputs have their variables, and its statements are sound.
pub record IsSound (plan : Plan) : Type 0 where
  pub some : 1 ≤ plan.controllers
  pub few : plan.controllers ≤ 16
  pub ports : length plan.owner ≤ 96
  pub owners : All (λ k. (0 < k) × (k < plan.controllers)) plan.owner
  pub frames : length plan.frames ≤ 256
  pub frame_ports : All (λ f. f.port < length plan.owner) plan.frames
  pub inputs : All (λ i. HasVars plan.vars i.first i.ty.kind i.ty.width) plan.inputs
  pub apart : AreApart plan.inputs
  pub outs : All (λ o. HasVars plan.vars o.first o.ty.kind o.ty.width) plan.outs
  pub body : All (IsSoundStmt plan false) plan.body
  pub gap : plan.gap ≤ 1048576
  pub turns : 1 ≤ plan.budget
  pub budget : plan.budget ≤ 100000
  pub weight : weight_of plan ≤ 1048576

-- One value for each input, in its type.
abbrev pub FitInputs : List Input → List ℕ → Type 0
FitInputs [] [] = Unit {0}
FitInputs [] (v ∷ vs) = ⊥
FitInputs (i ∷ is) [] = ⊥
FitInputs (i ∷ is) (v ∷ vs) = (v < 2 ^ i.ty.width) × FitInputs is vs

-- a tape that fits a plan
pub record Fits (plan : Plan) (tape : Tape) : Type 0 where
  pub inputs : FitInputs plan.inputs tape.inputs
  pub bits : All (λ list. All (λ bit. bit < 2) list) tape.bits
