-- The forms of values in tables and tapes, over what a JSON text is read as. This project's own.
use Rattle.std.specs.Prelude.{ℕ, ℤ, pos, negsuc, List, [], ◌∷◌, Bool, ◌&&◌, ◌||◌, length, map, nat_eq, nat_le, int_le, Option, Some, None, if◌then◌else◌, option_map, option_and_then, slice_get}
use Rattle.std.specs.List.{list_all}
use Rattle.serde_json.specs.Data.{Data, Items, no_items, item, Members, no_members, member}
use Rattle.serde_json.specs.Find.{as_number, as_str, as_array, as_object, as_u64, as_i64}
use Rattle.qs_values.specs.Names.{is_name}
use Rattle.qs_machine.specs.declared.machine.Sample.{Sample}

-- the value, where it passes the test
abbrev pub passing : {A : Type 0} → (A → Bool) → Option A → Option A
passing test None = None
passing test (Some a) = if test a then Some a else None

-- a whole number from one limit to another, written in digits alone: `1.0`, `1e0` and `-0` are read as floats, and so are numbers from 2^64 on
abbrev pub whole_in : ℕ → ℕ → Data → Option ℕ
whole_in least most d = passing (λ n. nat_le least n && nat_le n most) (option_and_then as_u64 (as_number d))

-- the same of numbers that may have a sign
abbrev pub signed_in : ℤ → ℤ → Data → Option ℤ
signed_in least most d = passing (λ z. int_le least z && int_le z most) (option_and_then as_i64 (as_number d))

-- how many bytes a name has at most
abbrev pub longest_name : ℕ
longest_name = 64

-- whether a text is a name that isn't too long
abbrev pub is_short_name : List ℕ → Bool
is_short_name text = nat_le (length text) longest_name && is_name text

-- a name
abbrev pub name_in : Data → Option (List ℕ)
name_in d = passing is_short_name (as_str d)

-- the values of an array
abbrev pub values_of : Items → List Data
values_of no_items = []
values_of (item d ds) = d ∷ values_of ds

-- an array's values
abbrev pub array_in : Data → Option (List Data)
array_in d = option_map values_of (as_array d)

-- an array's values, of which there are from one limit to another
abbrev pub list_in : ℕ → ℕ → Data → Option (List Data)
list_in least most d = passing (λ ds. nat_le least (length ds) && nat_le (length ds) most) (array_in d)

-- the keys of an object with their values, in the order of the keys' bytes
abbrev pub entries_of : Members → List (List ℕ × Data)
entries_of no_members = []
entries_of (member key d ms) = (key, d) ∷ entries_of ms

-- an object's keys with their values
abbrev pub entries_in : Data → Option (List (List ℕ × Data))
entries_in d = option_map entries_of (as_object d)

-- whether a byte is `0` or `1`
abbrev pub is_bit : ℕ → Bool
is_bit c = nat_eq c 48 || nat_eq c 49

-- the bit of `0` or `1`
abbrev pub bit_of : ℕ → ℕ
bit_of c = if nat_eq c 49 then 1 else 0

-- a text of `0` and `1`, as bits
abbrev pub bits_in : Data → Option (List ℕ)
bits_in d = option_map (map bit_of) (passing (list_all is_bit) (as_str d))

-- the part of a sample at this place
abbrev pub amplitude_at : ℕ → List Data → Option ℤ
amplitude_at place ds = option_and_then (signed_in (negsuc 32767) (pos 32767)) (slice_get ds place)

-- a sample: two whole numbers of 16 bits, with signs
abbrev pub sample_in : Data → Option Sample
sample_in d = option_and_then (λ ds. option_and_then (λ i. option_map (λ q. record { i = i; q = q }) (amplitude_at 1 ds)) (amplitude_at 0 ds)) (list_in 2 2 d)
