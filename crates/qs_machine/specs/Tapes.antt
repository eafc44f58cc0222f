-- What a tape is read as, beside the inputs and the qubits that it is for: its lists and values, or its first fault. This project's own.
use Rattle.std.specs.Prelude.{◌≡◌, ◌⊎◌, ℕ, suc, ◌-◌, ◌^◌, ℤ, pos, negsuc, List, [], not, map, decimal, Option, Some, None, option_map, option_and_then, ok_or, unwrap_or, is_none, ⊤, Result, Ok, Err}
use Rattle.std.specs.List.{range_with_len}
use Rattle.std.specs.Option.{option_map_or}
use Rattle.serde_json.specs.Data.{Data}
use Rattle.serde_json.specs.Find.{get}
use Rattle.qs_values.specs.declared.kind.Kind.{Kind}
use Rattle.qs_values.specs.declared.kind.Kind.TheVariants.{Bit, Bool as Truth, Bits, Int, Uint, Angle}
use Rattle.qs_values.specs.declared.kind.Input.{Input}
use Rattle.qs_values.specs.declared.tape.Tape.{Tape}
use Rattle.qs_machine.specs.declared.refusal.TapeField.{TapeField}
use Rattle.qs_machine.specs.declared.refusal.TapeField.TheVariants.{Bits as BitsField, Inputs as InputsField}
use Rattle.qs_machine.specs.declared.refusal.TapeRefusal.{TapeRefusal}
use Rattle.qs_machine.specs.declared.refusal.TapeRefusal.TheVariants.{TapeNotJson, TapeFieldWrong, TapeQubit, InputWrong}
use Rattle.qs_machine.specs.Refused.{tape_key_of}
use Rattle.qs_machine.specs.Steps.{◌>>=◌, refuse_if, in_order, judged}
use Rattle.qs_machine.specs.Values.{whole_in, signed_in, bits_in, entries_in}
use Rattle.qs_machine.specs.Table.{IsObject, is_among}

-- the keys of the qubits: their numbers, from 0
abbrev pub qubit_keys : ℕ → List (List ℕ)
qubit_keys qubits = map decimal (range_with_len 0 qubits)

-- a field that may be missing, and else is an object; its keys and values
abbrev pub object_at : TapeField → Data → Result (List (List ℕ × Data)) TapeRefusal
object_at field tape = option_map_or (λ d. ok_or (entries_in d) (TapeFieldWrong field None)) (get (tape_key_of field) tape) (Ok [])

-- an entry of `bits` is a text of bits at one of these keys
abbrev pub judge : List (List ℕ) → List ℕ × Data → Result ⊤ TapeRefusal
judge keys entry = do
  _ ← refuse_if (is_none (bits_in entry.1)) (TapeFieldWrong BitsField (Some entry.0))
  refuse_if (not (is_among entry.0 keys)) (TapeQubit entry.0)

-- the value at a key of a field, if both are there
abbrev pub found : TapeField → List ℕ → Data → Option Data
found field key tape = option_and_then (get key) (get (tape_key_of field) tape)

-- the bits of the qubit with this key: none where the tape has no list for it
abbrev pub list_of : Data → List ℕ → List ℕ
list_of tape key = unwrap_or (option_and_then bits_in (found BitsField key tape)) []

-- a whole number as it stands in so many bits: below 0 it is 2^width less
abbrev pub number_in : ℕ → ℤ → ℕ
number_in width (pos n) = n
number_in width (negsuc n) = 2 ^ width - suc n

-- a value of a type: a whole number in the type's range
abbrev pub value_in : Kind → ℕ → Data → Option ℕ
value_in Bit width d = whole_in 0 1 d
value_in Truth width d = whole_in 0 1 d
value_in Bits width d = whole_in 0 (2 ^ width - 1) d
value_in Int width d = option_map (number_in width) (signed_in (negsuc (2 ^ (width - 1) - 1)) (pos (2 ^ (width - 1) - 1)) d)
value_in Uint width d = whole_in 0 (2 ^ width - 1) d
value_in Angle width d = whole_in 0 (2 ^ width - 1) d

-- the value of an input
abbrev pub input_of : Data → List ℕ → Input → Result ℕ TapeRefusal
input_of tape before input = ok_or (option_and_then (value_in input.ty.kind input.ty.width) (found InputsField input.name tape)) (InputWrong input.name)

-- the values of the inputs, in order of declaration
abbrev pub inputs_of : Data → List Input → Result (List ℕ) TapeRefusal
inputs_of tape inputs = in_order (input_of tape) [] inputs

-- the lists of bits of the qubits, in order
abbrev pub lists_of : Data → ℕ → List (List ℕ)
lists_of tape qubits = map (list_of tape) (qubit_keys qubits)

-- the tape of an object
abbrev pub tape_of : List Input → ℕ → Data → Result Tape TapeRefusal
tape_of inputs qubits tape = do
  entries ← object_at BitsField tape
  _ ← judged (judge (qubit_keys qubits)) entries
  _ ← object_at InputsField tape
  values ← inputs_of tape inputs
  Ok (record { bits = lists_of tape qubits; inputs = values })

-- What the bytes of a tape are read as: the tape of their object or its first fault, and where they are no object that alone.
abbrev pub ReadsTape : List Input → ℕ → List ℕ → Result Tape TapeRefusal → Type 0
ReadsTape inputs qubits bytes answer =
    ((d : Data) × IsObject bytes d × (answer ≡ tape_of inputs qubits d)) ⊎ (((d : Data) → ¬ (IsObject bytes d)) × (answer ≡ Err TapeNotJson))
