-- The qubits of operands, one after another.
use Rattle.std.proofs.Common.{◌≡◌, ℕ, ◌+◌, ◌<◌, List, [], ◌∷◌, ◌++◌, All, length, ap, sym, ◌∙◌, refl, subst, arith, append_assoc}
use Rattle.std.specs.Prelude.{Option, Some, None}
use Rattle.std.proofs.lemmas.List.{append-nil, length-append}
use Rattle.std.proofs.lemmas.List.Elements.{All-push}
use Rattle.qs_tree.specs.declared.operand.Operand.{Operand}
use Rattle.qasm_main.specs.front.Source.{qubit_of, qubits_of}

-- qubits before those of what is left
abbrev pub qubits_after : List ℕ → Option (List ℕ) → Option (List ℕ)
qubits_after before None = None
qubits_after before (Some qs) = Some (before ++ qs)

-- these qubits were gathered, and this is left
pub record Gathered (operands : List Operand) (qubits : List ℕ) (rest : List Operand) : Type 0 where
  pub same : qubits_after qubits (qubits_of rest) ≡ qubits_of operands
  pub three : All (λ q. q < 3) qubits
  pub count : length qubits + length rest ≡ length operands

after-none : (before : List ℕ) (q : ℕ) (others : Option (List ℕ)) → qubits_after (before ++ q ∷ []) others ≡ qubits_after before (elim others [ None ↦ None | Some qs ↦ Some (q ∷ qs) ])
after-none before q None = refl
after-none before q (Some qs) = ap Some (append_assoc before (q ∷ []) qs)

step-some : (first : Operand) (others : List Operand) (q : ℕ) → Some q ≡ qubit_of first → qubits_of (first ∷ others) ≡ elim (qubits_of others) [ None ↦ None | Some qs ↦ Some (q ∷ qs) ]
step-some first others q h = rw (← h, qubits_of) refl

step-none : (first : Operand) (others : List Operand) → None ≡ qubit_of first → qubits_of (first ∷ others) ≡ None
step-none first others h = rw (← h, qubits_of) refl

-- nothing is left
pub gathered-all : {operands : List Operand} {qubits : List ℕ} {rest : List Operand} → Gathered operands qubits rest → rest ≡ [] → Some qubits ≡ qubits_of operands
gathered-all {operands} {qubits} {rest} so_far none = ap Some (sym (append-nil qubits)) ∙ ap (λ r. qubits_after qubits (qubits_of r)) (sym none) ∙ so_far.same

-- an operand that is no qubit
pub gathered-none : {operands : List Operand} {qubits : List ℕ} {rest : List Operand} → Gathered operands qubits rest → (first : Operand) (others : List Operand) → rest ≡ first ∷ others
    → None ≡ qubit_of first → None ≡ qubits_of operands
gathered-none {operands} {qubits} {rest} so_far first others is none =
    ap (qubits_after qubits) (sym (step-none first others none)) ∙ ap (λ r. qubits_after qubits (qubits_of r)) (sym is) ∙ so_far.same

-- one that is
pub gathered-more : {operands : List Operand} {qubits : List ℕ} {rest : List Operand} → Gathered operands qubits rest → (first : Operand) (others : List Operand) → rest ≡ first ∷ others
    → (q : ℕ) → Some q ≡ qubit_of first → q < 3 → (longer : List ℕ) → longer ≡ qubits ++ q ∷ [] → Gathered operands longer others
gathered-more {operands} {qubits} {rest} so_far first others is q some three longer pushed = record {
  same = ap (λ qs. qubits_after qs (qubits_of others)) pushed ∙ after-none qubits q (qubits_of others)
      ∙ ap (qubits_after qubits) (sym (step-some first others q some)) ∙ ap (λ r. qubits_after qubits (qubits_of r)) (sym is) ∙ so_far.same;
  three = subst (All (λ k. k < 3)) (sym pushed) (All-push (λ k. k < 3) qubits q so_far.three three);
  count = omega (arith, so_far.count, ap length pushed ∙ length-append qubits (q ∷ []), ap length is);
}
