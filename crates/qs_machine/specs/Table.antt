-- What a machine table is read as: its machine, or its first fault in the order of the fields. This project's own.
use Rattle.std.specs.Prelude.{◌≡◌, ◌⊎◌, ℕ, ◌-◌, ◌^◌, List, [], Bool, false, ◌&&◌, not, ◌==◌, length, map, codes, nat_eq, nat_lt, nat_le, Option, Some, None, if◌then◌else◌, option_and_then, ok_or, is_some, slice_get, slice_index, position, bytes_eq, IsUtf8, IsTrue, Result, Ok, Err}
use Rattle.std.specs.List.{list_any, list_all}
use Rattle.std.specs.Option.{option_map_or}
use Rattle.serde_json.specs.Data.{Data}
use Rattle.serde_json.specs.Read.{read}
use Rattle.serde_json.specs.Find.{get, as_str, as_object}
use Rattle.qs_values.specs.declared.tape.FrameStart.{FrameStart}
use Rattle.qs_machine.specs.declared.machine.Machine.{Machine}
use Rattle.qs_machine.specs.declared.machine.CtlKind.{CtlKind}
use Rattle.qs_machine.specs.declared.machine.CtlKind.TheVariants.{Hub, Drive, Acquire}
use Rattle.qs_machine.specs.declared.machine.Port.{Port}
use Rattle.qs_machine.specs.declared.machine.Wave.{Wave}
use Rattle.qs_machine.specs.declared.machine.Sample.{Sample}
use Rattle.qs_machine.specs.declared.machine.Family.{Family as Family-}
use Rattle.qs_machine.specs.declared.table.Parts.{Parts}
use Rattle.qs_machine.specs.declared.refusal.Field.{Field}
use Rattle.qs_machine.specs.declared.refusal.Field.TheVariants.{Version, Dt, Qubits, Controllers, Ports, Frames, Waveforms, Families, Gap, Budget, Mail, Cal}
use Rattle.qs_machine.specs.declared.refusal.Part.TheVariants.{Whole, Entry, Family}
use Rattle.qs_machine.specs.declared.refusal.MachineRefusal.{MachineRefusal}
use Rattle.qs_machine.specs.declared.refusal.MachineRefusal.TheVariants.{MachineNotJson, FieldMissing, FieldWrong, NameDoubled, ControllerUnknown, QubitUnknown, FrameWrong, FamilyWrong}
use Rattle.qs_machine.specs.Refused.{key_of}
use Rattle.qs_machine.specs.Steps.{◌>>=◌, refuse_if, in_order}
use Rattle.qs_machine.specs.Values.{whole_in, name_in, array_in, list_in, sample_in, entries_in, is_short_name, passing}

-- ---- fields and entries

-- the value of a field that has to be there
abbrev pub there : Field → Data → Result Data MachineRefusal
there field table = ok_or (get (key_of field) table) (FieldMissing field Whole)

-- a field that has to be there, by its form
abbrev pub needed : {A : Type 0} → Field → (Data → Option A) → Data → Result A MachineRefusal
needed field form table = do
  d ← there field table
  ok_or (form d) (FieldWrong field Whole)

-- a field that may be missing, and then has this value
abbrev pub optional : {A : Type 0} → Field → A → (Data → Option A) → Data → Result A MachineRefusal
optional field otherwise form table = option_map_or (λ d. ok_or (form d) (FieldWrong field Whole)) (get (key_of field) table) (Ok otherwise)

-- the value at a key that the entry with this number has to have
abbrev pub at_key : Field → ℕ → List ℕ → Data → Result Data MachineRefusal
at_key field number key entry =
    if is_some (as_object entry) then ok_or (get key entry) (FieldMissing field (Entry number)) else Err (FieldWrong field (Entry number))

-- a value of an entry by its form
abbrev pub formed : {A : Type 0} → Field → ℕ → Option A → Result A MachineRefusal
formed field number found = ok_or found (FieldWrong field (Entry number))

-- whether a name is among these
abbrev pub is_among : List ℕ → List (List ℕ) → Bool
is_among name names = list_any (bytes_eq name) names

-- the place of a name among these
abbrev pub place_of : List ℕ → List (List ℕ) → Option ℕ
place_of name names = position (bytes_eq name) names

-- ---- controllers

-- what the controller with this number may be: the first is the hub, and no other is
abbrev pub kind_at : ℕ → List ℕ → Option CtlKind
kind_at number text =
    if number == 0 then (if bytes_eq text (codes "hub") then Some Hub else None)
    else (if bytes_eq text (codes "drive") then Some Drive else (if bytes_eq text (codes "acquire") then Some Acquire else None))

-- a controller, behind those before it
abbrev pub controller_of : List CtlKind → Data → Result CtlKind MachineRefusal
controller_of before d = formed Controllers (length before) (option_and_then (kind_at (length before)) (as_str d))

-- the controllers
abbrev pub controllers_of : Data → Result (List CtlKind) MachineRefusal
controllers_of table = do
  ds ← needed Controllers (list_in 1 16) table
  in_order controller_of [] ds

-- ---- ports

-- the number of a qubit that the port with this number reaches, other than those before it
abbrev pub qubit_of : ℕ → List ℕ → Data → Result ℕ MachineRefusal
qubit_of number before d = formed Ports number (passing (λ q. not (list_any (λ p. nat_eq p q) before)) (whole_in 0 (2 ^ 64 - 1) d))

-- the numbers of the qubits that the port with this number reaches
abbrev pub reached_of : ℕ → Data → Result (List ℕ) MachineRefusal
reached_of number d = do
  ds ← formed Ports number (list_in 1 32 d)
  in_order (qubit_of number) [] ds

-- the numbers, where the machine has all of these qubits
abbrev pub known_qubits : ℕ → ℕ → List ℕ → Result (List ℕ) MachineRefusal
known_qubits number qubits reached = if list_all (λ q. nat_lt q qubits) reached then Ok reached else Err (QubitUnknown number)

-- a port, behind those before it
abbrev pub port_of : ℕ → ℕ → List Port → Data → Result Port MachineRefusal
port_of qubits controllers before entry = do
  let number = length before
  name_there ← at_key Ports number (codes "name") entry
  controller_there ← at_key Ports number (codes "controller") entry
  qubits_there ← at_key Ports number (codes "qubits") entry
  name ← formed Ports number (name_in name_there)
  controller ← formed Ports number (whole_in 1 (2 ^ 64 - 1) controller_there)
  reached ← reached_of number qubits_there
  _ ← refuse_if (is_among name (map (λ p. p.name) before)) (NameDoubled Ports number)
  _ ← refuse_if (not (nat_lt controller controllers)) (ControllerUnknown number)
  known ← known_qubits number qubits reached
  Ok (record { name = name; controller = controller; qubits = known })

-- the ports
abbrev pub ports_of : ℕ → ℕ → Data → Result (List Port) MachineRefusal
ports_of qubits controllers table = do
  ds ← needed Ports (list_in 0 96) table
  in_order (port_of qubits controllers) [] ds

-- ---- frames

-- a frame on a port of one of these names, behind those before it
abbrev pub frame_of : List (List ℕ) → List FrameStart → Data → Result FrameStart MachineRefusal
frame_of ports before entry = do
  let number = length before
  name_there ← at_key Frames number (codes "name") entry
  port_there ← at_key Frames number (codes "port") entry
  hz_there ← at_key Frames number (codes "frequency") entry
  phase_there ← at_key Frames number (codes "phase") entry
  name ← formed Frames number (name_in name_there)
  port_name ← formed Frames number (as_str port_there)
  hz ← formed Frames number (whole_in 0 (2 ^ 40 - 1) hz_there)
  phase ← formed Frames number (whole_in 0 (2 ^ 32 - 1) phase_there)
  _ ← refuse_if (is_among name (map (λ f. f.name) before)) (NameDoubled Frames number)
  port ← ok_or (place_of port_name ports) (FrameWrong number)
  Ok (record { name = name; port = port; phase = phase; hz = hz })

-- the frames
abbrev pub frames_of : List (List ℕ) → Data → Result (List FrameStart) MachineRefusal
frames_of ports table = do
  ds ← needed Frames (list_in 0 256) table
  in_order (frame_of ports) [] ds

-- ---- waveforms

-- a sample of the waveform with this number
abbrev pub sample_of : ℕ → List Sample → Data → Result Sample MachineRefusal
sample_of number before d = formed Waveforms number (sample_in d)

-- the samples of the waveform with this number
abbrev pub samples_of : ℕ → Data → Result (List Sample) MachineRefusal
samples_of number d = do
  ds ← formed Waveforms number (list_in 1 4096 d)
  in_order (sample_of number) [] ds

-- a waveform, behind those before it
abbrev pub wave_of : List Wave → Data → Result Wave MachineRefusal
wave_of before entry = do
  let number = length before
  name_there ← at_key Waveforms number (codes "name") entry
  samples_there ← at_key Waveforms number (codes "samples") entry
  name ← formed Waveforms number (name_in name_there)
  samples ← samples_of number samples_there
  _ ← refuse_if (is_among name (map (λ w. w.name) before)) (NameDoubled Waveforms number)
  Ok (record { name = name; samples = samples })

-- the waveforms
abbrev pub waveforms_of : Data → Result (List Wave) MachineRefusal
waveforms_of table = do
  ds ← needed Waveforms (list_in 0 256) table
  in_order wave_of [] ds

-- ---- families

-- whether the port of the frame with this number reaches this qubit and no other
abbrev pub reaches_alone : List Port → List FrameStart → ℕ → ℕ → Bool
reaches_alone ports frames qubit frame =
    option_map_or (λ f. option_map_or (λ p. (length p.qubits == 1) && (slice_index p.qubits 0 == qubit)) (slice_get ports f.port) false) (slice_get frames frame) false

-- a text of the family with this name
abbrev pub text_of : List ℕ → List (List ℕ) → Data → Result (List ℕ) MachineRefusal
text_of family before d = ok_or (as_str d) (FieldWrong Families (Family family))

-- the texts of the family with this name
abbrev pub texts_of : List ℕ → Data → Result (List (List ℕ)) MachineRefusal
texts_of family d = do
  ds ← ok_or (array_in d) (FieldWrong Families (Family family))
  in_order (text_of family) [] ds

-- the frame with this name, for the qubit whose number is how many frames are before it
abbrev pub member_of : List Port → List FrameStart → List ℕ → List ℕ → List ℕ → Result ℕ MachineRefusal
member_of ports frames family before text =
    ok_or (passing (reaches_alone ports frames (length before)) (place_of text (map (λ f. f.name) frames))) (FamilyWrong family)

-- the frames of these names, for the qubits in order
abbrev pub members_of : List Port → List FrameStart → List ℕ → List (List ℕ) → Result (List ℕ) MachineRefusal
members_of ports frames family texts = in_order (member_of ports frames family) [] texts

-- a family by its key and value
abbrev pub family_of : ℕ → List Port → List FrameStart → List Family- → List ℕ × Data → Result Family- MachineRefusal
family_of qubits ports frames before entry = do
  let family = entry.0
  _ ← refuse_if (not (is_short_name family)) (FieldWrong Families (Family family))
  texts ← texts_of family entry.1
  _ ← refuse_if (not (length texts == qubits)) (FamilyWrong family)
  members ← members_of ports frames family texts
  Ok (record { name = family; frames = members })

-- the families
abbrev pub families_of : ℕ → List Port → List FrameStart → Data → Result (List Family-) MachineRefusal
families_of qubits ports frames table = do
  entries ← optional Families [] entries_in table
  in_order (family_of qubits ports frames) [] entries

-- ---- the table

-- a text of at most 1,048,576 bytes
abbrev pub cal_in : Data → Option (List ℕ)
cal_in d = passing (λ text. nat_le (length text) 1048576) (as_str d)

-- the text of calibrations
abbrev pub cal_of : Data → Result (List ℕ) MachineRefusal
cal_of table = optional Cal [] cal_in table

-- the parts of a machine of so many qubits
abbrev pub parts_of : ℕ → Data → Result Parts MachineRefusal
parts_of qubits table = do
  controllers ← controllers_of table
  ports ← ports_of qubits (length controllers) table
  frames ← frames_of (map (λ p. p.name) ports) table
  waveforms ← waveforms_of table
  families ← families_of qubits ports frames table
  Ok (record { controllers = controllers; ports = ports; frames = frames; waveforms = waveforms; families = families })

-- the machine of a table
abbrev pub machine_of : Data → Result Machine MachineRefusal
machine_of table = do
  version ← needed Version (whole_in 1 1) table
  dt ← needed Dt (whole_in 1 1000000) table
  qubits ← needed Qubits (whole_in 1 32) table
  parts ← parts_of qubits table
  gap ← needed Gap (whole_in 0 1048576) table
  budget ← needed Budget (whole_in 1 100000) table
  mail ← needed Mail (whole_in 1 64) table
  cal ← cal_of table
  Ok (record {
    version = version;
    dt = dt;
    qubits = qubits;
    controllers = parts.controllers;
    ports = parts.ports;
    frames = parts.frames;
    waveforms = parts.waveforms;
    families = parts.families;
    gap = gap;
    budget = budget;
    mail = mail;
    cal = cal;
  })

-- Bytes are the JSON text of an object.
pub record IsObject (bytes : List ℕ) (d : Data) : Type 0 where
  pub utf8 : IsUtf8 bytes
  pub reads : read bytes ≡ Some d
  pub is_object : IsTrue (is_some (as_object d))

-- What the bytes of a table are read as: the machine of their object or its first fault, and where they are no object that alone.
abbrev pub ReadsTable : List ℕ → Result Machine MachineRefusal → Type 0
ReadsTable bytes answer =
    ((d : Data) × IsObject bytes d × (answer ≡ machine_of d)) ⊎ (((d : Data) → ¬ (IsObject bytes d)) × (answer ≡ Err MachineNotJson))
