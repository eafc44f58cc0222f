-- Bytes have one reading.
use Rattle.std.proofs.Common.{◌≡◌, ◌⊎◌, inl, inr, ℕ, List, Err, ap, sym, ◌∙◌}
use Rattle.std.proofs.lemmas.Option.{same_Some}
use Rattle.serde_json.specs.Data.{Data}
use Rattle.qs_machine.specs.declared.refusal.MachineRefusal.TheVariants.{MachineNotJson}
use Rattle.qs_machine.specs.declared.refusal.TapeRefusal.TheVariants.{TapeNotJson}
use Rattle.qs_machine.specs.Once.{TablesOnce, TapesOnce}
use Rattle.qs_machine.specs.Table.{IsObject, machine_of}
use Rattle.qs_machine.specs.Tapes.{tape_of}

-- what an object is read as, or what is told of bytes that are none
abbrev Reads : {A : Type 0} → List ℕ → (Data → A) → A → A → Type 0
Reads bytes of none answer = ((d : Data) × IsObject bytes d × (answer ≡ of d)) ⊎ (((d : Data) → ¬ (IsObject bytes d)) × (answer ≡ none))

one_reading : {A : Type 0} (bytes : List ℕ) (of : Data → A) (none one other : A) → Reads bytes of none one → Reads bytes of none other → one ≡ other
one_reading bytes of none one other (inl a) (inl b) = a.2 ∙ ap of (same_Some a.0 b.0 (sym a.1.reads ∙ b.1.reads)) ∙ sym b.2
one_reading bytes of none one other (inl a) (inr b) = absurd (b.0 a.0 a.1)
one_reading bytes of none one other (inr a) (inl b) = absurd (a.0 b.0 b.1)
one_reading bytes of none one other (inr a) (inr b) = a.1 ∙ sym b.1

pub tables_once : TablesOnce
unfolding TablesOnce
tables_once bytes one other = one_reading bytes machine_of (Err MachineNotJson) one other

pub tapes_once : TapesOnce
unfolding TapesOnce
tapes_once inputs qubits bytes one other = one_reading bytes (tape_of inputs qubits) (Err TapeNotJson) one other
