-- The forms and limits that a machine keeps, and a tape beside its inputs and qubits. This project's own.
use Rattle.std.specs.Prelude.{◌≡◌, ◌≢◌, ℕ, ◌<◌, ◌≤◌, ◌^◌, pos, negsuc, ◌≤ℤ◌, List, [], ◌∷◌, length, map, All, AllPairs, slice_get, Some, IsTrue}
use Rattle.std.specs.List.Sorted.{IsStrictlySortedBy}
use Rattle.std.specs.Ordering.{nat_cmp}
use Rattle.std.specs.Cmp.Lexicographic.{slice_cmp}
use Rattle.qs_values.specs.declared.kind.Input.{Input}
use Rattle.qs_values.specs.declared.tape.Tape.{Tape}
use Rattle.qs_values.specs.declared.tape.FrameStart.{FrameStart}
use Rattle.qs_machine.specs.declared.machine.Machine.{Machine}
use Rattle.qs_machine.specs.declared.machine.CtlKind.{CtlKind}
use Rattle.qs_machine.specs.declared.machine.CtlKind.TheVariants.{Hub}
use Rattle.qs_machine.specs.declared.machine.Port.{Port}
use Rattle.qs_machine.specs.declared.machine.Wave.{Wave}
use Rattle.qs_machine.specs.declared.machine.Sample.{Sample}
use Rattle.qs_machine.specs.declared.machine.Family.{Family}
use Rattle.qs_machine.specs.Values.{is_short_name}

-- A number is from one limit to another.
abbrev pub IsIn : ℕ → ℕ → ℕ → Type 0
IsIn least most n = (least ≤ n) × (n ≤ most)

-- No two of these are the same.
abbrev pub AreDistinct : {A : Type 0} → List A → Type 0
AreDistinct xs = AllPairs (λ x y. x ≢ y) xs

-- A list has at most so many entries, each of this form, and no two of one name.
pub record AreNamed {A : Type 0} (most : ℕ) (Form : A → Type 0) (name : A → List ℕ) (xs : List A) : Type 0 where
  pub few : length xs ≤ most
  pub each : All Form xs
  pub distinct : AllPairs (λ x y. name x ≢ name y) xs

-- A port of a machine with so many qubits and controllers belongs to a controller that isn't the hub, and reaches from 1 to 32 of the qubits.
pub record IsPort (qubits controllers : ℕ) (p : Port) : Type 0 where
  pub name : IsTrue (is_short_name p.name)
  pub owned : 1 ≤ p.controller
  pub controller : p.controller < controllers
  pub some : IsIn 1 32 (length p.qubits)
  pub reached : All (λ q. q < qubits) p.qubits
  pub distinct : AreDistinct p.qubits

-- A frame stands on one of so many ports.
pub record IsFrame (ports : ℕ) (f : FrameStart) : Type 0 where
  pub name : IsTrue (is_short_name f.name)
  pub port : f.port < ports
  pub phase : f.phase < 2 ^ 32
  pub hz : f.hz < 2 ^ 40

-- A sample has two signed numbers of 16 bits.
pub record IsSample (s : Sample) : Type 0 where
  pub i_least : negsuc 32767 ≤ℤ s.i
  pub i_most : s.i ≤ℤ pos 32767
  pub q_least : negsuc 32767 ≤ℤ s.q
  pub q_most : s.q ≤ℤ pos 32767

-- A waveform has from 1 to 4096 samples.
pub record IsWave (w : Wave) : Type 0 where
  pub name : IsTrue (is_short_name w.name)
  pub some : IsIn 1 4096 (length w.samples)
  pub samples : All IsSample w.samples

-- The frame with this number stands on a port that reaches this qubit and no other.
pub record ReachesAlone (ports : List Port) (frames : List FrameStart) (qubit frame : ℕ) : Type 0 where
  pub start : FrameStart
  pub port : Port
  pub frame_there : slice_get frames frame ≡ Some start
  pub port_there : slice_get ports start.port ≡ Some port
  pub alone : port.qubits ≡ qubit ∷ []

-- A family has one frame for each of so many qubits, on a port that reaches that qubit and no other.
pub record IsFamily (qubits : ℕ) (ports : List Port) (frames : List FrameStart) (f : Family) : Type 0 where
  pub name : IsTrue (is_short_name f.name)
  pub each : length f.frames ≡ qubits
  pub reach : (qubit frame : ℕ) → slice_get f.frames qubit ≡ Some frame → ReachesAlone ports frames qubit frame

-- The first controller is the hub, and no other is.
abbrev pub HasHub : List CtlKind → Type 0
HasHub [] = ⊥
HasHub (first ∷ others) = (first ≡ Hub) × All (λ kind. kind ≢ Hub) others

-- Names stand in the order of their bytes, each once.
abbrev pub AreInByteOrder : List (List ℕ) → Type 0
AreInByteOrder names = IsStrictlySortedBy (slice_cmp nat_cmp) names

-- A machine keeps the forms and limits of a machine table.
pub record IsMachine (m : Machine) : Type 0 where
  pub version : m.version ≡ 1
  pub dt : IsIn 1 1000000 m.dt
  pub qubits : IsIn 1 32 m.qubits
  pub hub : HasHub m.controllers
  pub controllers : length m.controllers ≤ 16
  pub ports : AreNamed 96 (IsPort m.qubits (length m.controllers)) (λ p. p.name) m.ports
  pub frames : AreNamed 256 (IsFrame (length m.ports)) (λ f. f.name) m.frames
  pub waveforms : AreNamed 256 IsWave (λ w. w.name) m.waveforms
  pub families : All (IsFamily m.qubits m.ports m.frames) m.families
  pub family_names : AreInByteOrder (map (λ f. f.name) m.families)
  pub gap : m.gap ≤ 1048576
  pub budget : IsIn 1 100000 m.budget
  pub mail : IsIn 1 64 m.mail
  pub cal : length m.cal ≤ 1048576

-- One number for each input, in its type.
abbrev pub AreValues : List Input → List ℕ → Type 0
AreValues [] [] = Unit {0}
AreValues [] (v ∷ vs) = ⊥
AreValues (i ∷ is) [] = ⊥
AreValues (i ∷ is) (v ∷ vs) = (v < 2 ^ i.ty.width) × AreValues is vs

-- A tape has a list of bits for each qubit, and a value for each input.
pub record IsTape (inputs : List Input) (qubits : ℕ) (t : Tape) : Type 0 where
  pub lists : length t.bits ≡ qubits
  pub bits : All (λ list. All (λ bit. bit < 2) list) t.bits
  pub values : AreValues inputs t.inputs
