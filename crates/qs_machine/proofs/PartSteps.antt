-- The parts of a machine, step by step.
use Rattle.std.proofs.Common.{◌≡◌, ℕ, List, map, length, Result, Ok}
use Rattle.serde_json.specs.Data.{Data}
use Rattle.qs_values.specs.declared.tape.FrameStart.{FrameStart}
use Rattle.qs_machine.specs.declared.machine.CtlKind.{CtlKind}
use Rattle.qs_machine.specs.declared.machine.Port.{Port}
use Rattle.qs_machine.specs.declared.machine.Wave.{Wave}
use Rattle.qs_machine.specs.declared.machine.Family.{Family}
use Rattle.qs_machine.specs.declared.table.Parts.{Parts}
use Rattle.qs_machine.specs.declared.refusal.MachineRefusal.{MachineRefusal}
use Rattle.qs_machine.specs.declared.refusal.MachineRefusal.TheVariants.{Memory as OutOfMemory}
use Rattle.qs_machine.specs.Steps.{◌>>=◌, IsUnlessMemory}
use Rattle.qs_machine.specs.Table.{controllers_of, ports_of, frames_of, waveforms_of, families_of, parts_of}
use Rattle.qs_machine.proofs.Exits.{through}

module _ (qubits : ℕ) (d : Data) where
  abbrev pub all_parts : List CtlKind → List Port → List FrameStart → List Wave → List Family → Result Parts MachineRefusal
  all_parts cs ps fs ws families = Ok (record { controllers = cs; ports = ps; frames = fs; waveforms = ws; families = families })

  abbrev pub from_families : List CtlKind → List Port → List FrameStart → List Wave → Result Parts MachineRefusal
  from_families cs ps fs ws = families_of qubits ps fs d >>= all_parts cs ps fs ws

  abbrev pub from_waveforms : List CtlKind → List Port → List FrameStart → Result Parts MachineRefusal
  from_waveforms cs ps fs = waveforms_of d >>= from_families cs ps fs

  abbrev pub from_frames : List CtlKind → List Port → Result Parts MachineRefusal
  from_frames cs ps = frames_of (map (λ p. p.name) ps) d >>= from_waveforms cs ps

  abbrev pub from_ports : List CtlKind → Result Parts MachineRefusal
  from_ports cs = ports_of qubits (length cs) d >>= from_frames cs

  pub at_ports : (cs : List CtlKind) (x : Result Parts MachineRefusal) → Ok cs ≡ controllers_of d → IsUnlessMemory OutOfMemory (from_ports cs) x → IsUnlessMemory OutOfMemory (parts_of qubits d) x
  at_ports cs x read h = through OutOfMemory (controllers_of d) cs from_ports x read h

  pub at_frames : (cs : List CtlKind) (ps : List Port) (x : Result Parts MachineRefusal) → Ok cs ≡ controllers_of d → Ok ps ≡ ports_of qubits (length cs) d
      → IsUnlessMemory OutOfMemory (from_frames cs ps) x → IsUnlessMemory OutOfMemory (parts_of qubits d) x
  at_frames cs ps x read ports h = at_ports cs x read (through OutOfMemory (ports_of qubits (length cs) d) ps (from_frames cs) x ports h)

  pub at_waveforms : (cs : List CtlKind) (ps : List Port) (fs : List FrameStart) (x : Result Parts MachineRefusal) → Ok cs ≡ controllers_of d → Ok ps ≡ ports_of qubits (length cs) d
      → Ok fs ≡ frames_of (map (λ p. p.name) ps) d → IsUnlessMemory OutOfMemory (from_waveforms cs ps fs) x → IsUnlessMemory OutOfMemory (parts_of qubits d) x
  at_waveforms cs ps fs x read ports frames h = at_frames cs ps x read ports (through OutOfMemory (frames_of (map (λ p. p.name) ps) d) fs (from_waveforms cs ps) x frames h)

  pub at_families : (cs : List CtlKind) (ps : List Port) (fs : List FrameStart) (ws : List Wave) (x : Result Parts MachineRefusal) → Ok cs ≡ controllers_of d → Ok ps ≡ ports_of qubits (length cs) d
      → Ok fs ≡ frames_of (map (λ p. p.name) ps) d → Ok ws ≡ waveforms_of d → IsUnlessMemory OutOfMemory (from_families cs ps fs ws) x → IsUnlessMemory OutOfMemory (parts_of qubits d) x
  at_families cs ps fs ws x read ports frames waves h = at_waveforms cs ps fs x read ports frames (through OutOfMemory (waveforms_of d) ws (from_families cs ps fs) x waves h)
