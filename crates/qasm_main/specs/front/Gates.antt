-- What a machine plays for the gates that are built, by its table: `x` is its waveform `w4` and `cx` its `w8`, on the frames of its family `drive`. This project's own.
use Rattle.std.specs.Prelude.{ℕ, List, [], map, codes, length, slice_get, unwrap_or, Option, Some, None}
use Rattle.std.specs.List.{find, position_or_len}
use Rattle.std.specs.Str.{bytes_eq}
use Rattle.qs_values.specs.declared.tape.FrameStart.{FrameStart}
use Rattle.qs_machine.specs.declared.machine.Machine.{Machine}
use Rattle.qs_machine.specs.declared.machine.Wave.{Wave}
use Rattle.qs_machine.specs.declared.machine.Family.{Family}
use Rattle.qasm_main.specs.declared.front.gates.Shape.{Shape}
use Rattle.qasm_main.specs.declared.front.gates.Drive.{Drive}
use Rattle.qasm_main.specs.declared.front.gates.Gates.{Gates}

-- how many ticks a waveform lasts: one for each of its samples
abbrev pub ticks_of : Option Wave → ℕ
ticks_of None = 0
ticks_of (Some wave) = length wave.samples

-- the waveform of this name: its place in the machine's list, and how many ticks it lasts
abbrev pub shape_of : List Wave → List ℕ → Shape
shape_of waves name = record {
  wave = position_or_len (λ wave. bytes_eq wave.name name) waves;
  ticks = ticks_of (find (λ wave. bytes_eq wave.name name) waves);
}

-- the frames of a family
abbrev pub frames_by : Option Family → List ℕ
frames_by None = []
frames_by (Some family) = family.frames

-- the frames of the family of this name, qubit by qubit
abbrev pub frames_in : List Family → List ℕ → List ℕ
frames_in families name = frames_by (find (λ family. bytes_eq family.name name) families)

-- the port of a frame
abbrev pub port_by : Option FrameStart → ℕ
port_by None = 0
port_by (Some frame) = frame.port

-- a frame and its port
abbrev pub drive_on : List FrameStart → ℕ → Drive
drive_on frames frame = record { frame = frame; port = port_by (slice_get frames frame) }

-- what a machine plays for `x` and `cx`, and where it drives each qubit
abbrev pub gates_of : Machine → Gates
gates_of machine = record {
  x = shape_of machine.waveforms (codes "w4");
  cx = shape_of machine.waveforms (codes "w8");
  drives = map (drive_on machine.frames) (frames_in machine.families (codes "drive"));
}

-- where a qubit is driven
abbrev pub drive_of : Gates → ℕ → Drive
drive_of gates qubit = unwrap_or (slice_get gates.drives qubit) (record { frame = 0; port = 0 })
