-- A worked example: two blocks on two controllers and a hub, what is played and what each has of it. This project's own.
use Rattle.std.specs.Prelude.{ℕ, List, [], ◌∷◌, nat_eq, refl}
use Rattle.qs_values.specs.declared.kind.Kind.TheVariants.{Bit, Bits, Uint}
use Rattle.qs_values.specs.declared.kind.Ty.{Ty}
use Rattle.qs_values.specs.declared.tape.Tape.{Tape}
use Rattle.plan_tree.specs.declared.plan.Plan.{Plan}
use Rattle.plan_tree.specs.declared.plan.Block.{Block as Block-}
use Rattle.plan_tree.specs.declared.plan.Event.{Event}
use Rattle.plan_tree.specs.declared.plan.Deed.TheVariants.{Pulse}
use Rattle.plan_tree.specs.declared.plan.PlanStmt.TheVariants.{Block as PlanBlock}
use Rattle.plan_tree.specs.declared.part.Item.TheVariants.{Own}
use Rattle.plan_tree.specs.declared.part.Part.{Part}
use Rattle.plan_tree.specs.declared.part.PartStmt.{PartStmt}
use Rattle.plan_tree.specs.declared.part.PartStmt.TheVariants.{Block, Wait}
use Rattle.plan_tree.specs.Run.{Done, Entry, Outcome, Pulsed}

-- a bit's type
abbrev pub bit : Ty
bit = record { kind = Bit; width = 1; wide = refl }

-- that of a number of 8 bits
abbrev pub byte : Ty
byte = record { kind = Uint; width = 8; wide = refl }

-- that of a register of 3 bits
abbrev pub register : Ty
register = record { kind = Bits; width = 3; wide = refl }

-- the event of the first port
abbrev pub first : Event
first = record { offset = 0; port = 0; act = Pulse 0 4 }

-- the events of the second port
abbrev pub second : Event
second = record { offset = 10; port = 1; act = Pulse 1 5 }

-- the event of the second block
abbrev pub third : Event
third = record { offset = 5; port = 1; act = Pulse 1 6 }

-- the first of two blocks
abbrev pub first_block : Block-
first_block = record { length = 100; events = first ∷ second ∷ [] }

-- the second of them
abbrev pub second_block : Block-
second_block = record { length = 50; events = third ∷ [] }

-- the plan
abbrev pub example_plan : Plan
example_plan = record {
  vars = bit ∷ bit ∷ bit ∷ byte ∷ [];
  inputs = record { name = 98 ∷ []; ty = register; first = 0 } ∷ record { name = 110 ∷ []; ty = byte; first = 3 } ∷ [];
  outs = [];
  frames = record { name = 102 ∷ []; port = 0; phase = 1000; hz = 5000000000 } ∷ record { name = 103 ∷ []; port = 1; phase = 7; hz = 6000000000 } ∷ [];
  owner = 1 ∷ 2 ∷ [];
  controllers = 3;
  gap = 10;
  budget = 1;
  body = PlanBlock first_block ∷ PlanBlock second_block ∷ [];
}

-- the register is 6 and the number 200
abbrev pub example_tape : Tape
example_tape = record { bits = []; inputs = 6 ∷ 200 ∷ [] }

-- the first pulse that is played, at its place, at the tick of its block and its offset
abbrev pub first_pulse : Entry
first_pulse = record { place = 0 ∷ 0 ∷ []; tick = 0; what = Pulsed 0 4 1000 5000000000 }

-- the second of them
abbrev pub second_pulse : Entry
second_pulse = record { place = 1 ∷ 0 ∷ []; tick = 10; what = Pulsed 1 5 7 6000000000 }

-- the third of them
abbrev pub third_pulse : Entry
third_pulse = record { place = 0 ∷ 1 ∷ []; tick = 105; what = Pulsed 1 6 7 6000000000 }

-- the whole run: the register's bits are 0, 1 and 1
abbrev pub example_outcome : Outcome
example_outcome = record { trace = first_pulse ∷ second_pulse ∷ third_pulse ∷ []; store = 0 ∷ 1 ∷ 1 ∷ 200 ∷ []; tick = 150; ending = Done }

-- the part of controller k, of which the hub alone reads
abbrev pub example_part : ℕ → List PartStmt → Part
example_part k body = record { controller = k; reads = nat_eq k 0 ∷ nat_eq k 0 ∷ nat_eq k 0 ∷ nat_eq k 0 ∷ []; body = body }

-- all parts
abbrev pub example_parts : List Part
example_parts =
    example_part 0 (Wait 100 ∷ Wait 50 ∷ [])
    ∷ example_part 1 (Block 100 (Own first ∷ []) ∷ Wait 50 ∷ [])
    ∷ example_part 2 (Block 100 (Own second ∷ []) ∷ Block 50 (Own third ∷ []) ∷ [])
    ∷ []
