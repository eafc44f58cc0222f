-- What the definitions say of the worked example: its run, its acts and its parts, that it is sound, and what is not.
use Rattle.std.proofs.Common.{◌≡◌, ℕ, ◌+◌, ◌<◌, [], ◌∷◌, ap, refl, arith, inl, zero, suc, true, false, map}
use Rattle.std.specs.Prelude.{IsSomeAnd, slice_get}
use Rattle.std.specs.List.{IsDistinct}
use Rattle.std.specs.List.Sorted.{IsSortedByKey}
use Rattle.std.proofs.lemmas.List.Elements.{All-from_recursion, All-nil}
use Rattle.qs_values.specs.declared.kind.Kind.TheVariants.{Bit}
use Rattle.plan_tree.specs.declared.plan.Plan.{Plan}
use Rattle.plan_tree.specs.declared.plan.Block.{Block as Block-}
use Rattle.plan_tree.specs.declared.plan.Deed.TheVariants.{Pulse}
use Rattle.plan_tree.specs.declared.plan.PlanStmt.TheVariants.{Block as PlanBlock}
use Rattle.plan_tree.specs.Acts.{Act, Own, all_acts, planned_acts}
use Rattle.plan_tree.specs.Deeds.{plays}
use Rattle.plan_tree.specs.examples.TwoBlocks.{byte, example_outcome, example_parts, example_plan, example_tape, first, first_block, first_pulse, register, second, second_block, second_pulse, third, third_pulse}
use Rattle.plan_tree.specs.Parts.{parts_of}
use Rattle.plan_tree.specs.Run.{Entry, run_of}
use Rattle.plan_tree.specs.Sound.{AreApart, Fits, HasVars, IsMet, IsSound, IsSoundBlock, IsSoundDeed, IsSoundEvent, IsSoundStmt, OfBlock, after_input, same_start, start_cmp, start_key, weight_of}

run-fit : run_of example_plan example_tape ≡ example_outcome
run-fit = refl

-- ---- acts and parts

-- a controller's own act of an entry
abbrev own : ℕ → Entry → Act
own k e = Own k e.tick e.what

all-acts : all_acts example_plan example_outcome.trace ≡ own 1 first_pulse ∷ own 2 second_pulse ∷ own 2 third_pulse ∷ []
all-acts = refl

hub-acts : planned_acts example_plan example_tape 0 ≡ []
hub-acts = refl

first-acts : planned_acts example_plan example_tape 1 ≡ own 1 first_pulse ∷ []
first-acts = refl

second-acts : planned_acts example_plan example_tape 2 ≡ own 2 second_pulse ∷ own 2 third_pulse ∷ []
second-acts = refl

parts-fit : example_parts ≡ parts_of example_plan
parts-fit = refl

-- ---- soundness

pulses-play : map (λ e. plays e.act) (first ∷ second ∷ third ∷ []) ≡ true ∷ true ∷ true ∷ []
pulses-play = refl

plan-weight : weight_of example_plan ≡ 5
plan-weight = refl

three-bits : (i : ℕ) → i < 3 → IsSomeAnd (slice_get example_plan.vars (0 + i)) (λ ty. ty.kind ≡ Bit)
three-bits zero h = refl
three-bits (suc zero) h = refl
three-bits (suc (suc zero)) h = refl
three-bits (suc (suc (suc i))) h = absurd (omega arith)

inputs-apart : AreApart example_plan.inputs
inputs-apart i zero a b h is_a is_b = absurd (omega arith)
inputs-apart zero (suc zero) a b h is_a is_b =
    let same_a : record { name = 98 ∷ []; ty = register; first = 0 } ≡ a = cc in
    let same_b : record { name = 110 ∷ []; ty = byte; first = 3 } ≡ b = cc in
    inl (omega (arith, ap after_input same_a, ap (λ i. i.first) same_b))
inputs-apart (suc i) (suc zero) a b h is_a is_b = absurd (omega arith)
inputs-apart i (suc (suc j)) a b h is_a is_b = absurd cc

first-sorted : IsSortedByKey start_key start_cmp (first ∷ second ∷ [])
first-sorted zero d low high = refl
first-sorted (suc k) d low high = absurd (omega arith)

first-distinct : IsDistinct same_start (first ∷ second ∷ [])
unfolding IsDistinct
first-distinct = ((refl, tt), (tt, tt))

first-sound : IsSoundBlock example_plan first_block
first-sound = record {
  length = omega arith;
  events = All-from_recursion (IsSoundEvent example_plan 100) (first ∷ second ∷ [])
      (record { port = omega arith; act = (refl, omega arith) }, (record { port = omega arith; act = (refl, omega arith) }, tt));
  order = first-sorted;
  apart = first-distinct;
}

second-sorted : IsSortedByKey start_key start_cmp (third ∷ [])
second-sorted k d low high = absurd (omega arith)

second-distinct : IsDistinct same_start (third ∷ [])
unfolding IsDistinct
second-distinct = (tt, tt)

second-sound : IsSoundBlock example_plan second_block
second-sound = record {
  length = omega arith;
  events = All-from_recursion (IsSoundEvent example_plan 50) (third ∷ []) (record { port = omega arith; act = (refl, omega arith) }, tt);
  order = second-sorted;
  apart = second-distinct;
}

-- a block that is sound by itself
block-sound : (plan : Plan) (b : Block-) → IsSoundBlock plan b → IsSoundStmt plan false (PlanBlock b)
block-sound plan b sound = All-from_recursion (IsMet plan) (OfBlock b ∷ []) (sound, tt)

pub plan-sound : IsSound example_plan
plan-sound = record {
  some = omega arith;
  few = omega arith;
  ports = omega arith;
  owners = All-from_recursion (λ k. (0 < k) × (k < 3)) example_plan.owner ((omega arith, omega arith), ((omega arith, omega arith), tt));
  frames = omega arith;
  frame_ports = All-from_recursion (λ f. f.port < 2) example_plan.frames (omega arith, (omega arith, tt));
  inputs = All-from_recursion (λ i. HasVars example_plan.vars i.first i.ty.kind i.ty.width) example_plan.inputs (three-bits, ((refl, refl), tt));
  apart = inputs-apart;
  outs = All-nil _;
  body = All-from_recursion (IsSoundStmt example_plan false) example_plan.body (block-sound example_plan first_block first-sound, (block-sound example_plan second_block second-sound, tt));
  gap = omega arith;
  turns = omega arith;
  budget = omega arith;
  weight = omega arith;
}

pub tape-fits : Fits example_plan example_tape
tape-fits = record { inputs = (omega arith, (omega arith, tt)); bits = All-nil _ }

-- ---- what isn't sound

-- a pulse at its block's end
late-pulse : IsSoundDeed example_plan 100 100 1 (Pulse 1 5) → ⊥
late-pulse sound = omega (arith, sound.1)

-- a frame of another port
foreign-frame : IsSoundDeed example_plan 100 10 1 (Pulse 0 5) → ⊥
foreign-frame sound = omega (arith, sound.0)

-- two pulses that begin together on a port
together : IsDistinct same_start (second ∷ second ∷ []) → ⊥
unfolding IsDistinct
together distinct = absurd cc

-- a value past its input's width
wide-value : Fits example_plan (record { bits = []; inputs = 8 ∷ 200 ∷ [] }) → ⊥
wide-value fits = omega (arith, fits.inputs.0)
