-- The refusals of tables and tapes: their codes, and the words that are told of them. This project's own.
use Rattle.std.specs.Prelude.{ℕ, List, [], ◌∷◌, codes, decimal, option_to_list}
use Rattle.qs_machine.specs.declared.refusal.Field.{Field}
use Rattle.qs_machine.specs.declared.refusal.Field.TheVariants.{Version, Dt, Qubits, Controllers, Ports, Frames, Waveforms, Families, Gap, Budget, Mail, Cal}
use Rattle.qs_machine.specs.declared.refusal.Part.{Part}
use Rattle.qs_machine.specs.declared.refusal.Part.TheVariants.{Whole, Entry, Family}
use Rattle.qs_machine.specs.declared.refusal.MachineRefusal.{MachineRefusal}
use Rattle.qs_machine.specs.declared.refusal.MachineRefusal.TheVariants.{MachineNotJson, FieldMissing, FieldWrong, NameDoubled, ControllerUnknown, QubitUnknown, FrameWrong, FamilyWrong, Memory}
use Rattle.qs_machine.specs.declared.refusal.TapeField.{TapeField}
use Rattle.qs_machine.specs.declared.refusal.TapeField.TheVariants.{Bits, Inputs}
use Rattle.qs_machine.specs.declared.refusal.TapeRefusal.{TapeRefusal}
use Rattle.qs_machine.specs.declared.refusal.TapeRefusal.TheVariants.{TapeNotJson, TapeFieldWrong, TapeQubit, InputWrong, Memory as TapeMemory}

-- a field's key in a table
abbrev pub key_of : Field → List ℕ
key_of Version = codes "version"
key_of Dt = codes "dt"
key_of Qubits = codes "qubits"
key_of Controllers = codes "controllers"
key_of Ports = codes "ports"
key_of Frames = codes "frames"
key_of Waveforms = codes "waveforms"
key_of Families = codes "families"
key_of Gap = codes "gap"
key_of Budget = codes "budget"
key_of Mail = codes "mail"
key_of Cal = codes "cal"

-- the number of a table's refusal
abbrev pub code_of : MachineRefusal → ℕ
code_of MachineNotJson = 11
code_of (FieldMissing field part) = 12
code_of (FieldWrong field part) = 13
code_of (NameDoubled field number) = 14
code_of (ControllerUnknown number) = 15
code_of (QubitUnknown number) = 16
code_of (FrameWrong number) = 17
code_of (FamilyWrong family) = 18
code_of Memory = 0

-- what is told of a field's part: nothing, an entry's number, or a family's name
abbrev pub part_words : Part → List (List ℕ)
part_words Whole = []
part_words (Entry number) = decimal number ∷ []
part_words (Family name) = name ∷ []

-- the words behind a refusal's name
abbrev pub words_of : MachineRefusal → List (List ℕ)
words_of MachineNotJson = []
words_of (FieldMissing field part) = key_of field ∷ part_words part
words_of (FieldWrong field part) = key_of field ∷ part_words part
words_of (NameDoubled field number) = key_of field ∷ decimal number ∷ []
words_of (ControllerUnknown number) = key_of Ports ∷ decimal number ∷ []
words_of (QubitUnknown number) = key_of Ports ∷ decimal number ∷ []
words_of (FrameWrong number) = key_of Frames ∷ decimal number ∷ []
words_of (FamilyWrong family) = key_of Families ∷ family ∷ []
words_of Memory = []

-- a field's key in a tape
abbrev pub tape_key_of : TapeField → List ℕ
tape_key_of Bits = codes "bits"
tape_key_of Inputs = codes "inputs"

-- the number of a tape's refusal
abbrev pub tape_code_of : TapeRefusal → ℕ
tape_code_of TapeNotJson = 21
tape_code_of (TapeFieldWrong field key) = 22
tape_code_of (TapeQubit key) = 23
tape_code_of (InputWrong input) = 24
tape_code_of TapeMemory = 0

-- the words behind a refusal's name
abbrev pub tape_words_of : TapeRefusal → List (List ℕ)
tape_words_of TapeNotJson = []
tape_words_of (TapeFieldWrong field key) = tape_key_of field ∷ option_to_list key
tape_words_of (TapeQubit key) = key ∷ []
tape_words_of (InputWrong input) = input ∷ []
tape_words_of TapeMemory = []
