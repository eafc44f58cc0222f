-- What a source is compiled to, by what it is read as.
use Rattle.std.proofs.Common.{◌≡◌, ℕ, List, inl, inr, refl, sym, subst}
use Rattle.std.specs.Prelude.{Result, Ok, Err, Some}
use Rattle.qs_values.specs.declared.refusal.Halt.{Halt}
use Rattle.qs_values.specs.declared.refusal.Halt.TheVariants.{Refused, Memory}
use Rattle.plan_tree.specs.declared.plan.Plan.{Plan}
use Rattle.qs_machine.specs.declared.machine.Machine.{Machine}
use Rattle.qs_machine.specs.BuiltIn.{built_in}
use Rattle.box_schedule.specs.declared.refusal.BoxRefusal.{BoxRefusal}
use Rattle.box_schedule.specs.declared.refusal.BoxRefusal.TheVariants.{TickOut, DelayNegative, Memory as BoxMemory}
use Rattle.box_schedule.specs.Codes.{code_of}
use Rattle.box_schedule.specs.Placement.{Places}
use Rattle.timeline_board.specs.Refused.{names}
use Rattle.qasm_main.specs.declared.front.statement.LocatedStatement.{LocatedStatement}
use Rattle.qasm_main.specs.front.Compile.{Compiles, CompilesStatements, IsNamedHalt}
use Rattle.qasm_main.specs.front.Planned.{ops_of}
use Rattle.qasm_main.specs.front.Reads.{Reads}
use Rattle.qasm_main.specs.front.Refused.{halt_of, place_of}
use Rattle.qasm_main.proofs.OperationLemmas.{first_place, none_negative}
use Rattle.qasm_main.proofs.PlainLemmas.{known}
use Rattle.qasm_main.proofs.ReaderLemmas.{unreadable-named}

-- a block that isn't placed
pub places-refused : (machine : Machine) (statements : List LocatedStatement) (refusal : BoxRefusal) → machine ≡ built_in → Places (ops_of known statements) (Err refusal)
    → CompilesStatements machine statements (Err (halt_of (code_of refusal) (place_of refusal)))
places-refused machine statements (TickOut span) is places =
    subst (λ m. CompilesStatements m statements (Err (halt_of 203 (Some span)))) (sym is)
    (record { long = places.0; first = first_place statements span _ places.1 refl })
places-refused machine statements (DelayNegative span) is places = absurd (none_negative statements span places.1)
places-refused machine statements BoxMemory is places = tt

-- its refusal has a name
pub places-named : (refusal : BoxRefusal) → IsNamedHalt (Err (halt_of (code_of refusal) (place_of refusal)))
unfolding names
places-named (TickOut span) = refl
places-named (DelayNegative span) = refl
places-named BoxMemory = tt

-- a source that isn't read
pub unread-compiles : (source : List ℕ) (machine : Machine) (halt : Halt) → Reads source (Err halt) → Compiles source machine (Err halt)
unread-compiles source machine (Refused refusal) reads = inl reads
unread-compiles source machine Memory reads = tt

pub unread-named : (source : List ℕ) (halt : Halt) → Reads source (Err halt) → IsNamedHalt (Err halt)
unread-named source (Refused refusal) reads = unreadable-named source refusal reads
unread-named source Memory reads = tt

-- a source that is read
pub read-compiles : (source : List ℕ) (machine : Machine) (statements : List LocatedStatement) (result : Result Plan Halt) → Reads source (Ok statements)
    → CompilesStatements machine statements result → Compiles source machine result
read-compiles source machine statements (Ok plan) reads compiles = record { statements = statements; reads = reads; short = compiles.0; planned = compiles.1 }
read-compiles source machine statements (Err (Refused refusal)) reads compiles = inr (record { statements = statements; reads = reads; block = compiles })
read-compiles source machine statements (Err Memory) reads compiles = tt
