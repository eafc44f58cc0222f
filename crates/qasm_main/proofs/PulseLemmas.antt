-- The pulses of statements: their bounds, and that no two on a port begin together.
use Rattle.std.proofs.Common.{◌≡◌, ◌<◌, ◌≤◌, ◌+◌, ◌*◌, ◌++◌, ◌∷◌, [], List, ℕ, All, true, false, suc, ◌⊎◌, inl, inr, Some, length, nat_eq, refl, subst, arith, append-nil, length-append}
use Rattle.std.proofs.Math.Bool.{or-true}
use Rattle.std.specs.Prelude.{slice_get, slice_index}
use Rattle.std.specs.List.{IsDistinct, list_any}
use Rattle.std.proofs.lemmas.Bool.{or_cases, eqb-true}
use Rattle.std.proofs.lemmas.Bool.Decides.{nat_tests}
use Rattle.std.proofs.lemmas.List.Elements.{All-nil, All-cons, All-append, All-head, All-tail, All-weaker, recursion_from_All}
use Rattle.std.proofs.lemmas.Map.Keys.{IsDistinct-cons}
use Rattle.plan_tree.specs.declared.plan.Event.{Event}
use Rattle.plan_tree.specs.declared.plan.Deed.TheVariants.{Pulse}
use Rattle.plan_tree.specs.Sound.{same_start}
use Rattle.box_schedule.specs.declared.block.TOp.{TOp}
use Rattle.box_schedule.specs.Placement.{AreApart, end_from, is_among, latest_end, opened, shares}
use Rattle.qasm_main.specs.declared.front.statement.Statement.{Statement}
use Rattle.qasm_main.specs.declared.front.statement.Statement.TheVariants.{X, Cx, Delay, Barrier}
use Rattle.qasm_main.specs.declared.front.statement.LocatedStatement.{LocatedStatement}
use Rattle.qasm_main.specs.front.Statement.{AreWellFormed, IsWellFormed, IsWellFormedAt}
use Rattle.qasm_main.proofs.OperationLemmas.{end-op, qubits_by, qubits-op, ticks_by}
use Rattle.qasm_main.specs.declared.front.gates.Gates.{Gates}
use Rattle.qasm_main.specs.front.Planned.{op_by, ops_of, pulses_from}
use Rattle.qasm_main.proofs.PlainLemmas.{known, plain_at, plain_by, plain_from}

-- ---- a fact of the pulses of each statement is one of all

-- What holds of the pulses of each statement holds of all; the fact may use the statement and its start.
each_pulse : (P : Event → Type 0) (s : LocatedStatement) (ss : List LocatedStatement) (start : ℕ) (starts : List ℕ)
    → All P (plain_by start s.statement) → All P (plain_from ss starts) → All P (plain_from (s ∷ ss) (start ∷ starts))
each_pulse P s ss start starts here rest = All-append P _ _ here rest

one_event : (P : Event → Type 0) (e : Event) → P e → All P (e ∷ [])
one_event P e h = All-cons P e [] h (All-nil P)

two_events : (P : Event → Type 0) (d e : Event) → P d → P e → All P (d ∷ e ∷ [])
two_events P d e g h = All-cons P d (e ∷ []) g (one_event P e h)

-- ---- all are made

no_pulses : (gates : Gates) (ss : List LocatedStatement) (starts : List ℕ) → (length ss ≡ 0) ⊎ (length starts ≡ 0) → pulses_from gates ss starts ≡ []
no_pulses gates [] starts none = refl
no_pulses gates (s ∷ ss) [] none = refl
no_pulses gates (s ∷ ss) (start ∷ starts) none = elim none [ inl h ↦ absurd (omega arith) | inr h ↦ absurd (omega arith) ]

-- Where either list is at its end, every pulse is made.
pub pulses_made : (gates : Gates) (done all : List Event) (ss : List LocatedStatement) (starts : List ℕ) → done ++ pulses_from gates ss starts ≡ all
    → (length ss ≡ 0) ⊎ (length starts ≡ 0) → done ≡ all
pulses_made gates done all ss starts made none = rw (no_pulses gates ss starts none, append-nil) at made

-- ---- bounds

-- a pulse on a qubit's own port and frame
pub record IsQubitPulse (e : Event) : Type 0 where
  pub port : e.port < 3
  pub wave : ℕ
  pub act : e.act ≡ Pulse e.port wave
  pub wave_known : wave < 3

qubit_pulses_by : (start : ℕ) (x : Statement) → IsWellFormed x → All IsQubitPulse (plain_by start x)
qubit_pulses_by start (X q) formed = one_event IsQubitPulse _ (record { port = formed; wave = 0; act = refl; wave_known = omega arith })
qubit_pulses_by start (Cx a b) formed =
    two_events IsQubitPulse _ _ (record { port = formed.0; wave = 1; act = refl; wave_known = omega arith }) (record { port = formed.1; wave = 1; act = refl; wave_known = omega arith })
qubit_pulses_by start (Delay ticks q) formed = All-nil IsQubitPulse
qubit_pulses_by start (Barrier qubits) formed = All-nil IsQubitPulse

pub qubit_pulses : (ss : List LocatedStatement) (starts : List ℕ) → AreWellFormed ss → All IsQubitPulse (plain_from ss starts)
qubit_pulses [] starts formed = All-nil IsQubitPulse
qubit_pulses (s ∷ ss) [] formed = All-nil IsQubitPulse
qubit_pulses (s ∷ ss) (start ∷ starts) formed =
    each_pulse IsQubitPulse s ss start starts (qubit_pulses_by start s.statement (All-head IsWellFormedAt s ss formed)) (qubit_pulses ss starts (All-tail IsWellFormedAt s ss formed))

length-plain_by : (start : ℕ) (x : Statement) → length (plain_by start x) ≤ 2
length-plain_by start (X q) = omega arith
length-plain_by start (Cx a b) = omega arith
length-plain_by start (Delay ticks q) = omega arith
length-plain_by start (Barrier qubits) = omega arith

pub length-plain_from : (ss : List LocatedStatement) (starts : List ℕ) → length (plain_from ss starts) ≤ 2 * length ss
length-plain_from [] starts = omega arith
length-plain_from (s ∷ ss) [] = omega arith
length-plain_from (s ∷ ss) (start ∷ starts) =
    omega (arith, length-plain_by start s.statement, length-plain_from ss starts, length-append (plain_by start s.statement) (plain_from ss starts))

-- ---- each begins before the block's end

before_by : (start : ℕ) (x : Statement) → All (λ e. e.offset < start + ticks_by x) (plain_by start x)
before_by start (X q) = one_event (λ e. e.offset < start + 4) _ (omega arith)
before_by start (Cx a b) = two_events (λ e. e.offset < start + 8) _ _ (omega arith) (omega arith)
before_by start (Delay ticks q) = All-nil (λ e. e.offset < start + ticks)
before_by start (Barrier qubits) = All-nil (λ e. e.offset < start + 0)

pub begin_before_end : (ss : List LocatedStatement) (starts : List ℕ) → All (λ e. e.offset < latest_end (ops_of known ss) starts) (plain_from ss starts)
begin_before_end [] starts = All-nil (λ e. e.offset < 0)
begin_before_end (s ∷ ss) [] = All-nil (λ e. e.offset < 0)
begin_before_end (s ∷ ss) (start ∷ starts) =
    let here : ℕ = start + ticks_by s.statement in
    let rest : ℕ = latest_end (ops_of known ss) starts in
    let last : ℕ = latest_end (ops_of known (s ∷ ss)) (start ∷ starts) in
    let ends : end_from start (op_by known s.span s.statement) ≡ here = end-op start s.span s.statement in
    each_pulse (λ e. e.offset < last) s ss start starts
    (All-weaker (λ e. e.offset < here) (λ e. e.offset < last) (λ e h. omega arith) _ (before_by start s.statement))
    (All-weaker (λ e. e.offset < rest) (λ e. e.offset < last) (λ e h. omega arith) _ (begin_before_end ss starts))

-- ---- no two pulses on a port begin together

shared : (first second : List ℕ) (q : ℕ) → is_among first q ≡ true → is_among second q ≡ true → list_any (is_among second) first ≡ true
shared [] second q in_first in_second = absurd (cc)
shared (p ∷ first) second q in_first in_second = elim (or_cases (nat_eq q p) (is_among first q) in_first) [
  | inl same ↦
      let there : is_among second p ≡ true = subst (λ r. is_among second r ≡ true) (eqb-true q p same) in_second in
      rw there refl
  | inr later ↦ rw (shared first second q later in_second) (or-true (is_among second p))
]

same_is_among : (p q : ℕ) (qs : List ℕ) → p ≡ q → is_among (p ∷ qs) q ≡ true
same_is_among p q qs same = grind (arith, nat_tests)

-- The pulses on a qubit begin no earlier than its operations.
late_by : (q bound start : ℕ) (x : Statement) → (is_among (qubits_by x) q ≡ true → bound ≤ start)
    → All (λ e. e.port ≡ q → bound ≤ e.offset) (plain_by start x)
late_by q bound start (X p) late = one_event (λ e. e.port ≡ q → bound ≤ e.offset) _ (λ same. late (same_is_among p q [] same))
late_by q bound start (Cx a b) late =
    two_events (λ e. e.port ≡ q → bound ≤ e.offset) _ _ (λ same. late (same_is_among a q (b ∷ []) same))
    (λ same. late (rw (same_is_among b q [] same) (or-true (nat_eq q a))))
late_by q bound start (Delay ticks p) late = All-nil (λ e. e.port ≡ q → bound ≤ e.offset)
late_by q bound start (Barrier qubits) late = All-nil (λ e. e.port ≡ q → bound ≤ e.offset)

late_from : (q bound : ℕ) (ss : List LocatedStatement) (starts : List ℕ)
    → ((j : ℕ) (b : TOp) → slice_get (ops_of known ss) j ≡ Some b → is_among (opened b).qubits q ≡ true → bound ≤ slice_index starts j)
    → All (λ e. e.port ≡ q → bound ≤ e.offset) (plain_from ss starts)
late_from q bound [] starts late = All-nil (λ e. e.port ≡ q → bound ≤ e.offset)
late_from q bound (s ∷ ss) [] late = All-nil (λ e. e.port ≡ q → bound ≤ e.offset)
late_from q bound (s ∷ ss) (start ∷ starts) late =
    each_pulse (λ e. e.port ≡ q → bound ≤ e.offset) s ss start starts
    (late_by q bound start s.statement (λ among. late 0 (op_by known s.span s.statement) refl (rw (qubits-op s.span s.statement) among)))
    (late_from q bound ss starts (λ j b is among. late (suc j) b is among))

begin_apart : (start q wave bound : ℕ) (e : Event) → start < bound → (e.port ≡ q → bound ≤ e.offset) → same_start (plain_at start q wave) e ≡ false
begin_apart start q wave bound e below late = grind (arith, nat_tests)

-- a pulse in front of others, which begin later on its port
apart_in_front : (start q wave bound : ℕ) (rest : List Event) → start < bound → All (λ e. e.port ≡ q → bound ≤ e.offset) rest
    → IsDistinct same_start rest → IsDistinct same_start (plain_at start q wave ∷ rest)
apart_in_front start q wave bound rest below late apart =
    IsDistinct-cons same_start (plain_at start q wave) rest
    (recursion_from_All (λ e. same_start (plain_at start q wave) e ≡ false) rest
    (All-weaker (λ e. e.port ≡ q → bound ≤ e.offset) (λ e. same_start (plain_at start q wave) e ≡ false) (λ e h. begin_apart start q wave bound e below h) rest late))
    apart

apart_by : (start : ℕ) (x : Statement) (rest : List Event) → IsWellFormed x
    → ((q : ℕ) → is_among (qubits_by x) q ≡ true → All (λ e. e.port ≡ q → start + ticks_by x ≤ e.offset) rest)
    → IsDistinct same_start rest → IsDistinct same_start (plain_by start x ++ rest)
apart_by start (X q) rest formed late apart = apart_in_front start q 0 (start + 4) rest (omega arith) (late q (same_is_among q q [] refl)) apart
apart_by start (Cx a b) rest formed late apart =
    apart_in_front start a 1 (start + 8) (plain_at start b 1 ∷ rest) (omega arith)
    (All-cons (λ e. e.port ≡ a → start + 8 ≤ e.offset) (plain_at start b 1) rest (λ same. absurd (omega (arith, formed.2))) (late a (same_is_among a a (b ∷ []) refl)))
    (apart_in_front start b 1 (start + 8) rest (omega arith) (late b (rw (same_is_among b b [] refl) (or-true (nat_eq b a)))) apart)
apart_by start (Delay ticks q) rest formed late apart = apart
apart_by start (Barrier qubits) rest formed late apart = apart

pub pulses_apart : (ss : List LocatedStatement) (starts : List ℕ) → AreWellFormed ss → AreApart (ops_of known ss) starts → IsDistinct same_start (plain_from ss starts)
unfolding IsDistinct
pulses_apart [] starts formed apart = tt
pulses_apart (s ∷ ss) [] formed apart = tt
pulses_apart (s ∷ ss) (start ∷ starts) formed apart =
    let first : TOp = op_by known s.span s.statement in
    let own : (opened first).qubits ≡ qubits_by s.statement = qubits-op s.span s.statement in
    let ends : end_from start first ≡ start + ticks_by s.statement = end-op start s.span s.statement in
    apart_by start s.statement (plain_from ss starts) (All-head IsWellFormedAt s ss formed)
    (λ q among. late_from q (start + ticks_by s.statement) ss starts (λ j b is among_b.
    let meets : shares first b ≡ true = shared (opened first).qubits (opened b).qubits q (rw own among) among_b in
    omega (arith, apart 0 (suc j) first b (omega arith) refl is meets)))
    (pulses_apart ss starts (All-tail IsWellFormedAt s ss formed) (λ i j a b before is_a is_b both. apart (suc i) (suc j) a b (omega arith) is_a is_b both))

pub same_start_flips : (d e : Event) → same_start d e ≡ same_start e d
same_start_flips d e = grind (arith, nat_tests)
