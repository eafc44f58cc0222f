-- What holds between two operations while a block is placed, with one clock per qubit.
use Rattle.std.proofs.Common.{◌≡◌, ℕ, ◌+◌, ◌*◌, ◌^◌, ◌<◌, ◌≤◌, max, pos, ◌+ℤ◌, w64, List, [], ◌∷◌, ◌++◌, length, take, get_or, All, if◌then◌else◌, slice_index, inl, inr, refl, ap, sym, subst, ◌∙◌, arith, length-append}
use Rattle.std.proofs.lemmas.List.{take_more, length-take-le}
use Rattle.std.proofs.lemmas.Bool.{cond-true, cond-false, cases_Bool}
use Rattle.std.specs.Int.{saturate_unsigned}
use Rattle.box_schedule.specs.declared.block.TOp.{TOp}
use Rattle.box_schedule.specs.steps.Clocks.{greatest}
use Rattle.box_schedule.specs.Placement.{IsPlain, end_from, is_among, opened, start_after, starts_of, length_of}
use Rattle.box_schedule.proofs.PlacementLemmas.{placed_after, placed_after-push, starts_after-push, length_of-push}
use Rattle.box_schedule.proofs.EndLemmas.{end_from-plain, saturate_natural}
use Rattle.box_schedule.proofs.ClockLemmas.{clock_of, clock_of-placed_at, start_after-greatest, greatest-same, greatest-le}

-- These operations are placed, and each qubit's clock is the greatest end on it.
pub record HasPlaced (done : List TOp) (clocks : List ℕ) (latest : ℕ) (starts : List ℕ) : Type 0 where
  pub starts_are : starts ≡ starts_of done
  pub latest_is : latest ≡ length_of done
  pub clocks_are : (q : ℕ) → q < 256 → slice_index clocks q ≡ clock_of (placed_after [] done) q
  pub below : (q : ℕ) → q < 256 → slice_index clocks q ≤ length done * 2 ^ 32

-- Each of these qubits has a clock.
abbrev pub HaveClocks : List ℕ → Type 0
HaveClocks qubits = (i : ℕ) → i < length qubits → slice_index qubits i < 256

-- Where the next operation begins, by the clocks.
pub start_from_clocks : (done : List TOp) (op : TOp) (clocks : List ℕ) (latest : ℕ) (starts : List ℕ) → HaveClocks (opened op).qubits → HasPlaced done clocks latest starts
    → greatest (slice_index clocks) (opened op).qubits ≡ start_after (placed_after [] done) op
start_from_clocks done op clocks latest starts known placed =
    greatest-same (slice_index clocks) (clock_of (placed_after [] done)) (opened op).qubits (λ i h. placed.clocks_are _ (known i h))
    ∙ sym (start_after-greatest (placed_after [] done) op)

pub start_from_clocks-le : (done : List TOp) (op : TOp) (clocks : List ℕ) (latest : ℕ) (starts : List ℕ) → HaveClocks (opened op).qubits → HasPlaced done clocks latest starts
    → greatest (slice_index clocks) (opened op).qubits ≤ length done * 2 ^ 32
start_from_clocks-le done op clocks latest starts known placed =
    greatest-le (slice_index clocks) (opened op).qubits (length done * 2 ^ 32) (λ i h. placed.below _ (known i h))

HasPlaced-push : (done : List TOp) (op : TOp) (clocks moved : List ℕ) (latest : ℕ) (starts : List ℕ) (start end : ℕ)
    → IsPlain op → HaveClocks (opened op).qubits → HasPlaced done clocks latest starts
    → start ≡ greatest (slice_index clocks) (opened op).qubits → end ≡ end_from start op
    → ((q : ℕ) → q < 256 → slice_index moved q ≡ (if is_among (opened op).qubits q then max end (slice_index clocks q) else slice_index clocks q))
    → HasPlaced (done ++ op ∷ []) moved (max end latest) (starts ++ start ∷ [])
HasPlaced-push done op clocks moved latest starts start end plain known placed begins ends moves =
    let begins_after : start ≡ start_after (placed_after [] done) op = begins ∙ start_from_clocks done op clocks latest starts known placed in
    record {
      starts_are = rw (starts_after-push [] done op, placed.starts_are, begins_after) refl;
      latest_is = rw (length_of-push done op, placed.latest_is, ends, begins_after) refl;
      clocks_are = λ q small. rw (placed_after-push [] done op, moves q small, clock_of-placed_at (placed_after [] done) op q, ends, begins_after, placed.clocks_are q small) refl;
      below = λ q small. elim (cases_Bool (is_among (opened op).qubits q)) [
        | inl among ↦
            let own : slice_index moved q ≡ max end (slice_index clocks q) = moves q small ∙ cond-true _ _ _ among in
            omega (arith, start_from_clocks-le done op clocks latest starts known placed, end_from-plain op start plain, placed.below q small, length-append done (op ∷ []))
        | inr absent ↦
            let old : slice_index moved q ≡ slice_index clocks q = moves q small ∙ cond-false _ _ _ absent in
            omega (arith, placed.below q small, length-append done (op ∷ []))
      ];
    }

-- An element that is read from a list of plain operations is plain.
plain_read : (ops : List TOp) (i : ℕ) (op : TOp) → All IsPlain ops → i < length ops → op ≡ get_or ops i op → IsPlain op
plain_read ops i op plain within read = subst IsPlain (sym read) (plain i op within)

pub HasPlaced-more : (ops : List TOp) (i : ℕ) (op : TOp) (qubits : List ℕ) (clocks moved : List ℕ) (latest : ℕ) (starts : List ℕ) (start end : ℕ)
    → All IsPlain ops → i < length ops → op ≡ get_or ops i op → qubits ≡ (opened op).qubits → HaveClocks qubits
    → HasPlaced (take i ops) clocks latest starts
    → start ≡ greatest (slice_index clocks) qubits → end ≡ end_from start op
    → ((q : ℕ) → q < 256 → slice_index moved q ≡ (if is_among qubits q then max end (slice_index clocks q) else slice_index clocks q))
    → HasPlaced (take (i + 1) ops) moved (max end latest) (starts ++ start ∷ [])
HasPlaced-more ops i op qubits clocks moved latest starts start end plain within read own known placed begins ends moves =
    let grown : take (i + 1) ops ≡ take i ops ++ op ∷ [] = take_more ops i op within ∙ ap (λ last. take i ops ++ last ∷ []) (sym read) in
    rw grown (HasPlaced-push (take i ops) op clocks moved latest starts start end (plain_read ops i op plain within read) (rw own at known) placed
    (rw own at begins) ends (rw own at moves))

-- No end passes what a `u64` holds.
pub end_is : (ops : List TOp) (i : ℕ) (op : TOp) (qubits : List ℕ) (clocks : List ℕ) (latest : ℕ) (starts : List ℕ) (start : ℕ)
    → All IsPlain ops → length ops ≤ 2 ^ 24 → i < length ops → op ≡ get_or ops i op → qubits ≡ (opened op).qubits → HaveClocks qubits
    → HasPlaced (take i ops) clocks latest starts
    → start ≡ greatest (slice_index clocks) qubits → saturate_unsigned w64 (pos start +ℤ (opened op).length.ticks) ≡ end_from start op
end_is ops i op qubits clocks latest starts start plain few within read own known placed begins =
    let plain_here : IsPlain op = plain_read ops i op plain within read in
    let low : greatest (slice_index clocks) (opened op).qubits ≤ length (take i ops) * 2 ^ 32 = start_from_clocks-le (take i ops) op clocks latest starts (rw own at known) placed in
    let low_start : start ≤ length (take i ops) * 2 ^ 32 = rw (begins, own) low in
    saturate_natural (pos start +ℤ (opened op).length.ticks) (omega (arith, end_from-plain op start plain_here, length-take-le i ops))
