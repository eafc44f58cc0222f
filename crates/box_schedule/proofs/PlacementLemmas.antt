-- What one more operation at the end of a block changes.
use Rattle.std.proofs.Common.{◌≡◌, ℕ, suc, max, List, [], ◌∷◌, ◌++◌, length, refl, ap, arith}
use Rattle.box_schedule.specs.declared.block.TOp.{TOp}
use Rattle.box_schedule.specs.Placement.{PlacedOp, start_after, starts_after, starts_of, latest_end, length_of, end_from}

-- the operation, placed after these
abbrev pub placed_at : List PlacedOp → TOp → PlacedOp
placed_at earlier op = record { op = op; start = start_after earlier op }

-- the earlier operations, and then these, each at its start
abbrev pub placed_after : List PlacedOp → List TOp → List PlacedOp
placed_after earlier [] = earlier
placed_after earlier (op ∷ ops) = placed_after (earlier ++ placed_at earlier op ∷ []) ops

pub placed_after-push : (earlier : List PlacedOp) (ops : List TOp) (op : TOp)
    → placed_after earlier (ops ++ op ∷ []) ≡ placed_after earlier ops ++ placed_at (placed_after earlier ops) op ∷ []
placed_after-push earlier [] op = refl
placed_after-push earlier (first ∷ ops) op = placed_after-push (earlier ++ placed_at earlier first ∷ []) ops op

pub starts_after-push : (earlier : List PlacedOp) (ops : List TOp) (op : TOp)
    → starts_after earlier (ops ++ op ∷ []) ≡ starts_after earlier ops ++ start_after (placed_after earlier ops) op ∷ []
starts_after-push earlier [] op = refl
starts_after-push earlier (first ∷ ops) op =
    ap (λ starts. start_after earlier first ∷ starts) (starts_after-push (earlier ++ placed_at earlier first ∷ []) ops op)

pub length-starts_after : (earlier : List PlacedOp) (ops : List TOp) → length (starts_after earlier ops) ≡ length ops
length-starts_after earlier [] = refl
length-starts_after earlier (op ∷ ops) = ap suc (length-starts_after (earlier ++ placed_at earlier op ∷ []) ops)

pub latest_end-push : (ops : List TOp) (starts : List ℕ) (op : TOp) (start : ℕ) → length starts ≡ length ops
    → latest_end (ops ++ op ∷ []) (starts ++ start ∷ []) ≡ max (end_from start op) (latest_end ops starts)
latest_end-push [] [] op start same = refl
latest_end-push [] (first ∷ starts) op start same = absurd (omega arith)
latest_end-push (first ∷ ops) [] op start same = absurd (omega arith)
latest_end-push (first ∷ ops) (at ∷ starts) op start same =
    let shorter : length starts ≡ length ops = omega arith in omega (arith, latest_end-push ops starts op start shorter)

pub length_of-push : (ops : List TOp) (op : TOp)
    → length_of (ops ++ op ∷ []) ≡ max (end_from (start_after (placed_after [] ops) op) op) (length_of ops)
length_of-push ops op =
    rw (starts_after-push [] ops op) (latest_end-push ops (starts_of ops) op (start_after (placed_after [] ops) op) (length-starts_after [] ops))
