-- The built-in machine, whole. This project's own.
use Rattle.std.specs.Prelude.{ℕ, pos, List, [], ◌∷◌, ◌++◌, codes, replicate}
use Rattle.qs_values.specs.declared.tape.FrameStart.{FrameStart}
use Rattle.qs_machine.specs.declared.machine.Machine.{Machine}
use Rattle.qs_machine.specs.declared.machine.CtlKind.{CtlKind}
use Rattle.qs_machine.specs.declared.machine.CtlKind.TheVariants.{Hub, Drive, Acquire}
use Rattle.qs_machine.specs.declared.machine.Port.{Port}
use Rattle.qs_machine.specs.declared.machine.Wave.{Wave}
use Rattle.qs_machine.specs.declared.machine.Family.{Family}

-- a port of one qubit
abbrev pub port_of : List ℕ → ℕ → ℕ → Port
port_of name controller qubit = record { name = name; controller = controller; qubits = qubit ∷ [] }

-- a drive port for each qubit with a controller of its own, and an acquire port for each with one controller for all
abbrev pub ports : List Port
ports = port_of (codes "d0") 1 0 ∷ port_of (codes "d1") 2 1 ∷ port_of (codes "d2") 3 2 ∷ port_of (codes "a0") 4 0 ∷ port_of (codes "a1") 4 1 ∷ port_of (codes "a2") 4 2 ∷ []

-- a frame of 5 GHz and phase 0
abbrev pub frame_on : List ℕ → ℕ → FrameStart
frame_on name port = record { name = name; port = port; phase = 0; hz = 5000000000 }

-- a frame on each port
abbrev pub frames : List FrameStart
frames = frame_on (codes "d0f") 0 ∷ frame_on (codes "d1f") 1 ∷ frame_on (codes "d2f") 2 ∷ frame_on (codes "a0f") 3 ∷ frame_on (codes "a1f") 4 ∷ frame_on (codes "a2f") 5 ∷ []

-- so many samples of one height
abbrev pub flat : List ℕ → ℕ → Wave
flat name count = record { name = name; samples = replicate count (record { i = pos 1000; q = pos 0 }) }

-- a short and a longer pulse, and one to capture by
abbrev pub waveforms : List Wave
waveforms = flat (codes "w4") 4 ∷ flat (codes "w8") 8 ∷ flat (codes "r20") 20 ∷ []

-- a family by its name and its frames' numbers
abbrev pub family_of : List ℕ → List ℕ → Family
family_of name numbers = record { name = name; frames = numbers }

-- for each qubit the frame on its acquire port, and the one on its drive port
abbrev pub families : List Family
families = family_of (codes "acquire") (3 ∷ 4 ∷ 5 ∷ []) ∷ family_of (codes "drive") (0 ∷ 1 ∷ 2 ∷ []) ∷ []

-- the calibrations of the machine's gates and of its measurement
unfoldable pub calibrations : List ℕ
calibrations =
    codes "defcal x q { play(drive(q), w4); }\n"
    ++ codes "defcal sx q { play(drive(q), w4); }\n"
    ++ codes "defcal rz(angle[32] t) q { shift_phase(drive(q), t); }\n"
    ++ codes "defcal cx a, b { play(drive(a), w8); play(drive(b), w8); }\n"
    ++ codes "defcal measure q -> bit { return capture_v2(acquire(q), r20); }\n"

-- the hub, then a controller for each drive port, then the one for the acquire ports
abbrev pub controllers : List CtlKind
controllers = Hub ∷ Drive ∷ Drive ∷ Drive ∷ Acquire ∷ []

-- 3 qubits, 1 ns a tick, 10 ticks a test, 100 turns a loop, 4 values a mailbox
abbrev pub built_in : Machine
built_in = record {
  version = 1;
  dt = 1000;
  qubits = 3;
  controllers = controllers;
  ports = ports;
  frames = frames;
  waveforms = waveforms;
  families = families;
  gap = 10;
  budget = 100;
  mail = 4;
  cal = calibrations;
}
