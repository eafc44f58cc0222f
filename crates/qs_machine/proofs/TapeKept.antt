-- The tape that is read beside inputs and qubits keeps all forms and limits.
use Rattle.std.proofs.Common.{◌≡◌, ℕ, zero, suc, ◌+◌, ◌^◌, ◌<◌, List, [], ◌∷◌, ◌++◌, Bool, true, false, map, length, Option, Some, None, refl, ap, ◌∙◌, arith}
use Rattle.std.specs.Prelude.{All, decimal, nat_eq, option_map, option_and_then, unwrap_or, if◌then◌else◌}
use Rattle.std.specs.List.{range_with_len, list_all}
use Rattle.std.proofs.lemmas.List.Elements.{All-nil, All-map}
use Rattle.serde_json.specs.Data.{Data}
use Rattle.serde_json.specs.Find.{as_str}
use Rattle.qs_values.specs.declared.kind.Input.{Input}
use Rattle.qs_machine.specs.declared.refusal.TapeField.TheVariants.{Bits as BitsField}
use Rattle.qs_machine.specs.Limits.{AreValues, IsTape}
use Rattle.qs_machine.specs.Tapes.{qubit_keys, found, list_of, lists_of}
use Rattle.qs_machine.specs.Values.{passing, bit_of, is_bit, bits_in}
use Rattle.qs_machine.proofs.NameLemmas.{length-map}

-- values so far, with one more in its type
pub values_push : (inputs : List Input) (values : List ℕ) (input : Input) (value : ℕ) → AreValues inputs values → value < 2 ^ input.ty.width → AreValues (inputs ++ input ∷ []) (values ++ value ∷ [])
values_push [] [] input value so_far fits = (fits, tt)
values_push [] (v ∷ vs) input value so_far fits = absurd so_far
values_push (i ∷ is) [] input value so_far fits = absurd so_far
values_push (i ∷ is) (v ∷ vs) input value so_far fits = (so_far.0, values_push is vs input value so_far.1 fits)

bit_below_2 : (c : ℕ) → bit_of c < 2
bit_below_2 c = by_test (nat_eq c 49)
  where
    by_test : (b : Bool) → (if b then 1 else 0) < 2
    by_test true = omega arith
    by_test false = omega arith

abbrev AreBits : List ℕ → Type 0
AreBits bits = All (λ bit. bit < 2) bits

bits_kept : (o : Option (List ℕ)) → AreBits (unwrap_or (option_map (map bit_of) o) [])
bits_kept None = All-nil (λ bit. bit < 2)
bits_kept (Some text) = All-map (λ bit. bit < 2) bit_of text (λ k d within. bit_below_2 _)

list_kept : (tape : Data) (key : List ℕ) → AreBits (list_of tape key)
list_kept tape key = by_field (found BitsField key tape)
  where
    by_field : (o : Option Data) → AreBits (unwrap_or (option_and_then bits_in o) [])
    by_field None = All-nil (λ bit. bit < 2)
    by_field (Some d) = bits_kept (passing (list_all is_bit) (as_str d))

range_count : (a n : ℕ) → length (range_with_len a n) ≡ n
range_count a zero = refl
range_count a (suc n) = ap suc (range_count (a + 1) n)

-- a tape that is read keeps all forms and limits, if its values are in their types
pub tape_kept : (inputs : List Input) (qubits : ℕ) (tape : Data) (values : List ℕ) → AreValues inputs values → IsTape inputs qubits (record { bits = lists_of tape qubits; inputs = values })
tape_kept inputs qubits tape values fit =
    record {
      lists = length-map (list_of tape) (qubit_keys qubits) ∙ length-map decimal (range_with_len 0 qubits) ∙ range_count 0 qubits;
      bits = All-map AreBits (list_of tape) (qubit_keys qubits) (λ k d within. list_kept tape _);
      values = fit;
    }
