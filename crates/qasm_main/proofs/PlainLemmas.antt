-- What the built-in machine plays for the gates: pulses on the port and the frame of each qubit's own number.
use Rattle.std.proofs.Common.{◌≡◌, ◌<◌, ◌++◌, ◌∷◌, [], List, ℕ, zero, suc, refl, ap, ap₂, arith}
use Rattle.std.proofs.lemmas.List.Elements.{All-head, All-tail}
use Rattle.plan_tree.specs.declared.plan.Event.{Event}
use Rattle.plan_tree.specs.declared.plan.Deed.TheVariants.{Pulse}
use Rattle.qs_machine.specs.BuiltIn.{built_in}
use Rattle.qasm_main.specs.declared.front.gates.Drive.{Drive}
use Rattle.qasm_main.specs.declared.front.gates.Gates.{Gates}
use Rattle.qasm_main.specs.declared.front.statement.Statement.{Statement}
use Rattle.qasm_main.specs.declared.front.statement.Statement.TheVariants.{X, Cx, Delay, Barrier}
use Rattle.qasm_main.specs.declared.front.statement.LocatedStatement.{LocatedStatement}
use Rattle.qasm_main.specs.front.Gates.{drive_of, gates_of}
use Rattle.qasm_main.specs.front.Planned.{pulse_at, pulses_by, pulses_from}
use Rattle.qasm_main.specs.front.Statement.{AreWellFormed, IsWellFormed, IsWellFormedAt}

-- what the built-in machine plays
abbrev pub known : Gates
known = record {
  x = record { wave = 0; ticks = 4 };
  cx = record { wave = 1; ticks = 8 };
  drives = record { frame = 0; port = 0 } ∷ record { frame = 1; port = 1 } ∷ record { frame = 2; port = 2 } ∷ [];
}

pub gates-known : gates_of built_in ≡ known
gates-known = refl

-- a pulse on the port and frame of a qubit's number
abbrev pub plain_at : ℕ → ℕ → ℕ → Event
plain_at start qubit wave = record { offset = start; port = qubit; act = Pulse qubit wave }

abbrev pub plain_by : ℕ → Statement → List Event
plain_by start (X q) = plain_at start q 0 ∷ []
plain_by start (Cx a b) = plain_at start a 1 ∷ plain_at start b 1 ∷ []
plain_by start (Delay ticks q) = []
plain_by start (Barrier qubits) = []

abbrev pub plain_from : List LocatedStatement → List ℕ → List Event
plain_from [] starts = []
plain_from (s ∷ ss) [] = []
plain_from (s ∷ ss) (start ∷ starts) = plain_by start s.statement ++ plain_from ss starts

drive-plain : (q : ℕ) → q < 3 → drive_of known q ≡ record { frame = q; port = q }
drive-plain zero h = refl
drive-plain (suc zero) h = refl
drive-plain (suc (suc zero)) h = refl
drive-plain (suc (suc (suc n))) h = absurd (omega arith)

pulse-plain : (start q wave : ℕ) → q < 3 → pulse_at known start q wave ≡ plain_at start q wave
pulse-plain start q wave h = ap (λ (d : Drive). let e : Event = record { offset = start; port = d.port; act = Pulse d.frame wave } in e) (drive-plain q h)

statement-plain : (start : ℕ) (x : Statement) → IsWellFormed x → pulses_by known start x ≡ plain_by start x
statement-plain start (X q) formed = ap (λ e. e ∷ []) (pulse-plain start q 0 formed)
statement-plain start (Cx a b) formed = ap₂ (λ d e. d ∷ e ∷ []) (pulse-plain start a 1 formed.0) (pulse-plain start b 1 formed.1)
statement-plain start (Delay ticks q) formed = refl
statement-plain start (Barrier qubits) formed = refl

-- The pulses of well-formed statements on the built-in machine.
pub pulses-plain : (ss : List LocatedStatement) (starts : List ℕ) → AreWellFormed ss → pulses_from known ss starts ≡ plain_from ss starts
pulses-plain [] starts formed = refl
pulses-plain (s ∷ ss) [] formed = refl
pulses-plain (s ∷ ss) (start ∷ starts) formed =
    ap₂ (λ here rest. here ++ rest) (statement-plain start s.statement (All-head IsWellFormedAt s ss formed)) (pulses-plain ss starts (All-tail IsWellFormedAt s ss formed))
