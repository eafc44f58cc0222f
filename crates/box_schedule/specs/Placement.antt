-- Least placement: each operation of a block begins as soon as the earlier ones on its qubits have ended. This project's own.
-- It compares pairs of operations. So far lengths are constant and there are no boxes.
use Rattle.std.specs.Prelude.{◌≡◌, ℕ, ◌<◌, ◌≤◌, ◌^◌, ℤ, pos, negsuc, ◌+ℤ◌, ◌≤ℤ◌, neg_ℤ, int_lt, List, [], ◌∷◌, ◌++◌, length, take, max, Bool, true, false, nat_eq, if◌then◌else◌, slice_get, slice_index, Result, Ok, Err, Some, None, IsSomeAnd, All}
use Rattle.std.specs.List.{list_any}
use Rattle.qs_values.specs.declared.span.Span.{Span}
use Rattle.box_schedule.specs.declared.block.TOp.{TOp, out-TOp}
use Rattle.box_schedule.specs.declared.block.TOp.TheOpen.{TOp-F}
use Rattle.box_schedule.specs.declared.block.Placed.{Placed}
use Rattle.box_schedule.specs.declared.refusal.BoxRefusal.{BoxRefusal}
use Rattle.box_schedule.specs.declared.refusal.BoxRefusal.TheVariants.{TickOut, DelayNegative, Memory}

-- a whole number, and 0 in place of one below 0
abbrev pub natural : ℤ → ℕ
natural (pos n) = n
natural (negsuc n) = 0

-- the fields of an operation, which holds operations itself
abbrev pub opened : TOp → TOp-F TOp
opened op = out-TOp op

-- the tick at which an operation ends that begins at a tick, never before 0
abbrev pub end_from : ℕ → TOp → ℕ
end_from start op = natural (pos start +ℤ (opened op).length.ticks)

-- whether an operation lasts less than 0 ticks
abbrev pub is_negative : TOp → Bool
is_negative op = int_lt (opened op).length.ticks (pos 0)

-- whether a qubit is among these
abbrev pub is_among : List ℕ → ℕ → Bool
is_among qubits q = list_any (nat_eq q) qubits

-- whether two operations share a qubit
abbrev pub shares : TOp → TOp → Bool
shares a b = list_any (is_among (opened b).qubits) (opened a).qubits

-- an operation with the tick at which it begins
pub record PlacedOp : Type 0 where
  pub op : TOp
  pub start : ℕ

-- where an earlier operation lets this one begin: at its end, where they share a qubit
abbrev pub earliest_after : TOp → PlacedOp → ℕ
earliest_after op earlier = if shares earlier.op op then end_from earlier.start earlier.op else 0

-- the greatest of 0 and these ends
abbrev pub start_after : List PlacedOp → TOp → ℕ
start_after [] op = 0
start_after (earlier ∷ rest) op = max (earliest_after op earlier) (start_after rest op)

-- the starts of operations after earlier ones
abbrev pub starts_after : List PlacedOp → List TOp → List ℕ
starts_after earlier [] = []
starts_after earlier (op ∷ ops) =
    start_after earlier op ∷ starts_after (earlier ++ record { op = op; start = start_after earlier op } ∷ []) ops

-- the starts of a block's operations
abbrev pub starts_of : List TOp → List ℕ
starts_of ops = starts_after [] ops

-- the greatest end
abbrev pub latest_end : List TOp → List ℕ → ℕ
latest_end [] starts = 0
latest_end (op ∷ ops) [] = 0
latest_end (op ∷ ops) (start ∷ starts) = max (end_from start op) (latest_end ops starts)

-- how many ticks a block lasts
abbrev pub length_of : List TOp → ℕ
length_of ops = latest_end ops (starts_of ops)

-- how many ticks a block lasts at most
abbrev pub longest : ℕ
longest = 2 ^ 40

-- No operation begins before an earlier one on its qubits has ended.
abbrev pub AreApart : List TOp → List ℕ → Type 0
AreApart ops starts = (i j : ℕ) (a b : TOp) → i < j → slice_get ops i ≡ Some a → slice_get ops j ≡ Some b → shares a b ≡ true
    → end_from (slice_index starts i) a ≤ slice_index starts j

-- These are starts of the operations, one for each, that keep them apart.
pub record IsAdmissible (ops : List TOp) (starts : List ℕ) : Type 0 where
  pub count : length starts ≡ length ops
  pub apart : AreApart ops starts

-- No operation lasts less than 0 ticks.
abbrev pub NoneIsNegative : List TOp → Type 0
NoneIsNegative ops = All (λ op. is_negative op ≡ false) ops

-- The first operation that lasts less than 0 ticks stands at this place.
pub record IsFirstNegative (ops : List TOp) (span : Span) : Type 0 where
  pub index : ℕ
  pub negative : IsSomeAnd (slice_get ops index) (λ op. (is_negative op ≡ true) × ((opened op).span ≡ span))
  pub earlier : NoneIsNegative (take index ops)

-- The placement of a block: the least starts, or that it is too long, at its first operation, or else its first negative one.
abbrev pub Places : List TOp → Result Placed BoxRefusal → Type 0
Places ops (Ok placed) = (placed.starts ≡ starts_of ops) × (placed.length ≡ length_of ops) × (length_of ops ≤ longest) × NoneIsNegative ops
Places ops (Err (TickOut span)) = (longest < length_of ops) × IsSomeAnd (slice_get ops 0) (λ op. (opened op).span ≡ span)
Places ops (Err (DelayNegative span)) = (length_of ops ≤ longest) × IsFirstNegative ops span
Places ops (Err Memory) = Unit {0}

-- These starts are admissible, and none is later than the one at its place in any admissible ones.
abbrev pub IsEarliest : List TOp → List ℕ → Type 0
IsEarliest ops starts = IsAdmissible ops starts × ((others : List ℕ) → IsAdmissible ops others → (i : ℕ) → slice_index starts i ≤ slice_index others i)

-- An operation of constant length that isn't a box, which lasts from -2^32 to 2^32 ticks.
pub record IsPlain (op : TOp) : Type 0 where
  pub parts : (opened op).length.parts ≡ []
  pub low : neg_ℤ (pos (2 ^ 32)) ≤ℤ (opened op).length.ticks
  pub high : (opened op).length.ticks ≤ℤ pos (2 ^ 32)
  pub inner : (opened op).inner ≡ None
