-- The operations of statements: what their placement takes, and where the first of them stands.
use Rattle.std.proofs.Common.{◌≡◌, ◌≤◌, ◌+◌, ◌^◌, ◌∷◌, [], List, ℕ, zero, suc, All, Bool, false, true, true≢false, pos, ◌+ℤ◌, ◌≤ℤ◌, sym, subst, ap, ◌∙◌, lit≤, arith}
use Rattle.std.specs.Prelude.{Some, IsSomeAnd, int_lt, neg_ℤ, slice_get}
use Rattle.std.proofs.lemmas.Int.{ints}
use Rattle.std.proofs.lemmas.List.Elements.{All-map, All-weaker}
use Rattle.qs_values.specs.declared.span.Span.{Span}
use Rattle.qs_values.specs.declared.refusal.Refusal.{Refusal}
use Rattle.box_schedule.specs.declared.block.TOp.{TOp}
use Rattle.box_schedule.specs.declared.block.TOp.TheOpen.{TOp-F}
use Rattle.box_schedule.specs.declared.block.TOp.TheViews.{out-roll-TOp}
use Rattle.box_schedule.specs.declared.refusal.BoxRefusal.TheVariants.{TickOut}
use Rattle.box_schedule.specs.Codes.{code_of}
use Rattle.box_schedule.specs.Placement.{IsFirstNegative, IsPlain, end_from, is_negative, natural, opened}
use Rattle.qasm_main.specs.declared.front.statement.Statement.{Statement}
use Rattle.qasm_main.specs.declared.front.statement.Statement.TheVariants.{X, Cx, Delay, Barrier}
use Rattle.qasm_main.specs.declared.front.statement.LocatedStatement.{LocatedStatement}
use Rattle.qasm_main.specs.front.Statement.{AreWellFormed, IsWellFormed, IsWellFormedAt}
use Rattle.qasm_main.specs.front.Planned.{op_by, op_of, ops_of}
use Rattle.qasm_main.specs.front.Refused.{refusal_at}
use Rattle.qasm_main.proofs.PlainLemmas.{known}

-- ---- the fields of an operation of a statement

qubits-op_of : (span : Span) (qubits : List ℕ) (ticks : ℕ) (barrier : Bool) → (opened (op_of span qubits ticks barrier)).qubits ≡ qubits
qubits-op_of span qubits ticks barrier = ap (λ (op : TOp-F TOp). op.qubits) (out-roll-TOp _)

ticks-op_of : (span : Span) (qubits : List ℕ) (ticks : ℕ) (barrier : Bool) → (opened (op_of span qubits ticks barrier)).length.ticks ≡ pos ticks
ticks-op_of span qubits ticks barrier = ap (λ (op : TOp-F TOp). op.length.ticks) (out-roll-TOp _)

span-op_of : (span : Span) (qubits : List ℕ) (ticks : ℕ) (barrier : Bool) → (opened (op_of span qubits ticks barrier)).span ≡ span
span-op_of span qubits ticks barrier = ap (λ (op : TOp-F TOp). op.span) (out-roll-TOp _)

-- the qubits of a statement
abbrev pub qubits_by : Statement → List ℕ
qubits_by (X q) = q ∷ []
qubits_by (Cx a b) = a ∷ b ∷ []
qubits_by (Delay ticks q) = q ∷ []
qubits_by (Barrier qubits) = qubits

-- how many ticks a statement lasts
abbrev pub ticks_by : Statement → ℕ
ticks_by (X q) = 4
ticks_by (Cx a b) = 8
ticks_by (Delay ticks q) = ticks
ticks_by (Barrier qubits) = 0

pub qubits-op : (span : Span) (x : Statement) → (opened (op_by known span x)).qubits ≡ qubits_by x
qubits-op span (X q) = qubits-op_of span (q ∷ []) 4 false
qubits-op span (Cx a b) = qubits-op_of span (a ∷ b ∷ []) 8 false
qubits-op span (Delay ticks q) = qubits-op_of span (q ∷ []) ticks false
qubits-op span (Barrier qubits) = qubits-op_of span qubits 0 true

-- where an operation of a statement ends that begins at a tick
end-op_of : (start : ℕ) (span : Span) (qubits : List ℕ) (ticks : ℕ) (barrier : Bool) → end_from start (op_of span qubits ticks barrier) ≡ start + ticks
end-op_of start span qubits ticks barrier = ap (λ lasts. natural (pos start +ℤ lasts)) (ticks-op_of span qubits ticks barrier)

pub end-op : (start : ℕ) (span : Span) (x : Statement) → end_from start (op_by known span x) ≡ start + ticks_by x
end-op start span (X q) = end-op_of start span (q ∷ []) 4 false
end-op start span (Cx a b) = end-op_of start span (a ∷ b ∷ []) 8 false
end-op start span (Delay ticks q) = end-op_of start span (q ∷ []) ticks false
end-op start span (Barrier qubits) = end-op_of start span qubits 0 true

span-op : (span : Span) (x : Statement) → (opened (op_by known span x)).span ≡ span
span-op span (X q) = span-op_of span (q ∷ []) 4 false
span-op span (Cx a b) = span-op_of span (a ∷ b ∷ []) 8 false
span-op span (Delay ticks q) = span-op_of span (q ∷ []) ticks false
span-op span (Barrier qubits) = span-op_of span qubits 0 true

-- ---- what their placement takes

plain_op_of : (span : Span) (qubits : List ℕ) (ticks : ℕ) (barrier : Bool) → ticks ≤ 2 ^ 32 → IsPlain (op_of span qubits ticks barrier)
plain_op_of span qubits ticks barrier short =
    let has_ticks = ticks-op_of span qubits ticks barrier in
    record {
      parts = ap (λ (op : TOp-F TOp). op.length.parts) (out-roll-TOp _);
      low = subst (λ lasts. neg_ℤ (pos (2 ^ 32)) ≤ℤ lasts) (sym has_ticks) (omega (arith, ints));
      high = subst (λ lasts. lasts ≤ℤ pos (2 ^ 32)) (sym has_ticks) (omega (arith, ints, short));
      inner = ap (λ (op : TOp-F TOp). op.inner) (out-roll-TOp _);
    }

plain_by : (span : Span) (x : Statement) → IsWellFormed x → IsPlain (op_by known span x)
plain_by span (X q) formed = plain_op_of span (q ∷ []) 4 false (lit≤ tt)
plain_by span (Cx a b) formed = plain_op_of span (a ∷ b ∷ []) 8 false (lit≤ tt)
plain_by span (Delay ticks q) formed = plain_op_of span (q ∷ []) ticks false formed.0
plain_by span (Barrier qubits) formed = plain_op_of span qubits 0 true (lit≤ tt)

-- Well-formed statements are what the placement takes.
pub plain_ops : (statements : List LocatedStatement) → AreWellFormed statements → All IsPlain (ops_of known statements)
plain_ops statements formed =
    All-map IsPlain (λ s. op_by known s.span s.statement) statements
    (All-weaker IsWellFormedAt (λ s. IsPlain (op_by known s.span s.statement)) (λ s h. plain_by s.span s.statement h) statements formed)

-- ---- none lasts less than 0 ticks

not_below_zero : (n : ℕ) → int_lt (pos n) (pos 0) ≡ false
not_below_zero n = grind (arith, ints)

zero_or_more_op_of : (span : Span) (qubits : List ℕ) (ticks : ℕ) (barrier : Bool) → is_negative (op_of span qubits ticks barrier) ≡ false
zero_or_more_op_of span qubits ticks barrier = ap (λ lasts. int_lt lasts (pos 0)) (ticks-op_of span qubits ticks barrier) ∙ not_below_zero ticks

zero_or_more : (span : Span) (x : Statement) → is_negative (op_by known span x) ≡ false
zero_or_more span (X q) = zero_or_more_op_of span (q ∷ []) 4 false
zero_or_more span (Cx a b) = zero_or_more_op_of span (a ∷ b ∷ []) 8 false
zero_or_more span (Delay ticks q) = zero_or_more_op_of span (q ∷ []) ticks false
zero_or_more span (Barrier qubits) = zero_or_more_op_of span qubits 0 true

none_negative_at : (statements : List LocatedStatement) (index : ℕ) (span : Span) → ¬ IsSomeAnd (slice_get (ops_of known statements) index) (λ op. (is_negative op ≡ true) × ((opened op).span ≡ span))
none_negative_at [] index span negative = negative
none_negative_at (s ∷ ss) zero span negative = true≢false (sym negative.0 ∙ zero_or_more s.span s.statement)
none_negative_at (s ∷ ss) (suc n) span negative = none_negative_at ss n span negative

-- Statements have no first operation that lasts less than 0 ticks.
pub none_negative : (statements : List LocatedStatement) (span : Span) → ¬ IsFirstNegative (ops_of known statements) span
none_negative statements span first = none_negative_at statements first.index span first.negative

-- ---- the place of a refusal

-- The first operation stands where the first statement does.
pub first_place : (statements : List LocatedStatement) (span : Span) (refusal : Refusal) → IsSomeAnd (slice_get (ops_of known statements) 0) (λ op. (opened op).span ≡ span)
    → refusal ≡ refusal_at (code_of (TickOut span)) (Some span) → IsSomeAnd (slice_get statements 0) (λ s. refusal ≡ refusal_at (code_of (TickOut s.span)) (Some s.span))
first_place [] span refusal first is = first
first_place (s ∷ ss) span refusal first is =
    let same : s.span ≡ span = sym (span-op s.span s.statement) ∙ first in
    cc
