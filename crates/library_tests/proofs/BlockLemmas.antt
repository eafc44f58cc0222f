-- An operation of given fields is plain.
use Rattle.std.proofs.Common.{◌≡◌, ◌^◌, [], ℤ, pos, subst, sym, ap, ◌∙◌}
use Rattle.std.specs.Prelude.{None, ◌≤ℤ◌, neg_ℤ}
use Rattle.box_schedule.specs.declared.block.TOp.{TOp}
use Rattle.box_schedule.specs.declared.block.TOp.TheOpen.{TOp-F}
use Rattle.box_schedule.specs.declared.block.TOp.TheViews.{out-roll-TOp, roll-TOp}
use Rattle.box_schedule.specs.Placement.{IsPlain, opened}

pub plain_of : (fields : TOp-F TOp) (z : ℤ) → fields.length.parts ≡ []
    → fields.length.ticks ≡ z → neg_ℤ (pos (2 ^ 32)) ≤ℤ z → z ≤ℤ pos (2 ^ 32) → fields.inner ≡ None → IsPlain (roll-TOp fields)
plain_of fields z parts ticks low high inner =
    let rolled : opened (roll-TOp fields) ≡ fields = out-roll-TOp fields in
    let lasts : (opened (roll-TOp fields)).length.ticks ≡ z = ap (λ (op : TOp-F TOp). op.length.ticks) rolled ∙ ticks in
    record {
      parts = ap (λ (op : TOp-F TOp). op.length.parts) rolled ∙ parts;
      low = subst (λ y. neg_ℤ (pos (2 ^ 32)) ≤ℤ y) (sym lasts) low;
      high = subst (λ y. y ≤ℤ pos (2 ^ 32)) (sym lasts) high;
      inner = ap (λ (op : TOp-F TOp). op.inner) rolled ∙ inner;
    }
