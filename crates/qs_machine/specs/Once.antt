-- A table and a tape have one reading each. This project's own.
use Rattle.std.specs.Prelude.{◌≡◌, ℕ, List, Result}
use Rattle.qs_values.specs.declared.kind.Input.{Input}
use Rattle.qs_values.specs.declared.tape.Tape.{Tape}
use Rattle.qs_machine.specs.declared.machine.Machine.{Machine}
use Rattle.qs_machine.specs.declared.refusal.MachineRefusal.{MachineRefusal}
use Rattle.qs_machine.specs.declared.refusal.TapeRefusal.{TapeRefusal}
use Rattle.qs_machine.specs.Table.{ReadsTable}
use Rattle.qs_machine.specs.Tapes.{ReadsTape}

-- Bytes are read as one machine, or have one first fault.
unfoldable pub TablesOnce : Type 0
TablesOnce = (bytes : List ℕ) (one other : Result Machine MachineRefusal) → ReadsTable bytes one → ReadsTable bytes other → one ≡ other

-- Beside inputs and qubits bytes are read as one tape, or have one first fault.
unfoldable pub TapesOnce : Type 0
TapesOnce = (inputs : List Input) (qubits : ℕ) (bytes : List ℕ) (one other : Result Tape TapeRefusal) → ReadsTape inputs qubits bytes one → ReadsTape inputs qubits bytes other → one ≡ other
