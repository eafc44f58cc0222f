-- The end of an operation grows with its start, and passes it by 2^32 at most.
use Rattle.std.proofs.Common.{◌≡◌, ℕ, ◌+◌, ◌^◌, ◌<◌, ◌≤◌, ℤ, pos, negsuc, ◌+ℤ◌, ◌≤ℤ◌, w64, arith}
use Rattle.std.proofs.lemmas.Int.{ints}
use Rattle.std.specs.Int.{saturate_unsigned}
use Rattle.box_schedule.specs.declared.block.TOp.{TOp}
use Rattle.box_schedule.specs.Placement.{IsPlain, end_from, natural, opened}

natural-le : (y z : ℤ) → y ≤ℤ z → natural y ≤ natural z
natural-le (pos m) (pos n) h = omega (arith, ints)
natural-le (pos m) (negsuc n) h = absurd (omega (arith, ints))
natural-le (negsuc m) z h = omega arith

pub end_from-le : (op : TOp) (start later : ℕ) → start ≤ later → end_from start op ≤ end_from later op
end_from-le op start later h = natural-le (pos start +ℤ (opened op).length.ticks) (pos later +ℤ (opened op).length.ticks) (omega (arith, ints))

pub end_from-plain : (op : TOp) (start : ℕ) → IsPlain op → end_from start op ≤ start + 2 ^ 32
end_from-plain op start plain = natural-le (pos start +ℤ (opened op).length.ticks) (pos (start + 2 ^ 32)) (omega (arith, ints, plain.high))

-- A sum that fits isn't cut short.
pub saturate_natural : (z : ℤ) → natural z < 2 ^ 64 → saturate_unsigned w64 z ≡ natural z
saturate_natural (pos n) h = omega arith
saturate_natural (negsuc n) h = omega arith
