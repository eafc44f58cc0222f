-- What a source is compiled to on a machine: its plan, or its first refusal. This project's own.
use Rattle.std.specs.Prelude.{◌≡◌, ◌⊎◌, ℕ, ◌<◌, ◌≤◌, List, [], slice_get, IsSome, IsSomeAnd, Result, Ok, Err, Some}
use Rattle.qs_values.specs.declared.refusal.Refusal.{Refusal}
use Rattle.qs_values.specs.declared.refusal.Halt.{Halt}
use Rattle.qs_values.specs.declared.refusal.Halt.TheVariants.{Refused, Memory}
use Rattle.plan_tree.specs.declared.plan.Plan.{Plan}
use Rattle.qs_machine.specs.declared.machine.Machine.{Machine}
use Rattle.box_schedule.specs.declared.refusal.BoxRefusal.TheVariants.{TickOut}
use Rattle.box_schedule.specs.Codes.{code_of}
use Rattle.box_schedule.specs.Placement.{length_of, longest}
use Rattle.timeline_board.specs.Refused.{name_of}
use Rattle.qasm_main.specs.declared.front.statement.LocatedStatement.{LocatedStatement}
use Rattle.qasm_main.specs.front.Refused.{refusal_at}
use Rattle.qasm_main.specs.front.Reads.{IsSource, IsUnreadable}
use Rattle.qasm_main.specs.front.Gates.{gates_of}
use Rattle.qasm_main.specs.front.Planned.{IsPlanOf, ops_of}

-- how long the block of statements is on a machine
abbrev pub block_ticks : Machine → List LocatedStatement → ℕ
block_ticks machine statements = length_of (ops_of (gates_of machine) statements)

-- A block is too long, which is told at its first statement.
pub record IsBlockTooLong (machine : Machine) (statements : List LocatedStatement) (refusal : Refusal) : Type 0 where
  pub long : longest < block_ticks machine statements
  pub first : IsSomeAnd (slice_get statements 0) (λ s. refusal ≡ refusal_at (code_of (TickOut s.span)) (Some s.span))

-- What statements are compiled to: their plan, or exactly where the block is too long its refusal.
abbrev pub CompilesStatements : Machine → List LocatedStatement → Result Plan Halt → Type 0
CompilesStatements machine statements (Ok plan) = (block_ticks machine statements ≤ longest) × IsPlanOf machine statements plan
CompilesStatements machine statements (Err (Refused refusal)) = IsBlockTooLong machine statements refusal
CompilesStatements machine statements (Err Memory) = Unit {0}

-- A source is compiled to this plan.
pub record IsCompiled (source : List ℕ) (machine : Machine) (plan : Plan) : Type 0 where
  pub statements : List LocatedStatement
  pub reads : IsSource source statements
  pub short : block_ticks machine statements ≤ longest
  pub planned : IsPlanOf machine statements plan

-- A source's block is too long.
pub record IsTooLong (source : List ℕ) (machine : Machine) (refusal : Refusal) : Type 0 where
  pub statements : List LocatedStatement
  pub reads : IsSource source statements
  pub block : IsBlockTooLong machine statements refusal

-- A source's first refusal: of its lexemes, else of its statements, else of its block.
abbrev pub IsRefused : List ℕ → Machine → Refusal → Type 0
IsRefused source machine refusal = IsUnreadable source refusal ⊎ IsTooLong source machine refusal

-- What a source is compiled to: its plan, or its first refusal.
abbrev pub Compiles : List ℕ → Machine → Result Plan Halt → Type 0
Compiles source machine (Ok plan) = IsCompiled source machine plan
Compiles source machine (Err (Refused refusal)) = IsRefused source machine refusal
Compiles source machine (Err Memory) = Unit {0}

-- A plan has no variables, inputs and outputs, as none is built yet.
pub record IsBare (plan : Plan) : Type 0 where
  pub vars : plan.vars ≡ []
  pub inputs : plan.inputs ≡ []
  pub outs : plan.outs ≡ []

-- A source's refusal has a code with a name.
abbrev pub IsNamedHalt : Result Plan Halt → Type 0
IsNamedHalt (Ok plan) = Unit {0}
IsNamedHalt (Err (Refused refusal)) = IsSome (name_of refusal.code)
IsNamedHalt (Err Memory) = Unit {0}
