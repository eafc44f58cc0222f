use Rattle.std.proofs.Common.{◌≡◌, ◌-◌, ◌*◌, ◌%◌, ◌^◌, ◌≤◌, ◌++◌, ap, subst, ◌∙◌, arith}
use Rattle.std.specs.Prelude.{codes, decimal}
use Rattle.outside.proofs.Texts.{goes-as, goes-then}
use Rattle.timeline_board.proofs.ValueLemmas.{half-fits, signed-below}
use Rattle.timeline_board.proofs.lines.put_signed.Goals as goal

pub returns : goal.returns
returns g c =
    let value = c.args.value in
    let half : (1 * 2 ^ (c.args.width - 1)) % 2 ^ 64 ≡ 2 ^ (c.args.width - 1) = half-fits (c.args.width - 1) (omega arith) in
    goes-as (goes-then c.text.ensures c.number-2.ensures)
    (ap (λ h. codes "-" ++ decimal (h - (value - h))) half ∙ signed-below c.args.width value c.requires.some (subst (λ h. h ≤ value) half c.if-value-half.false))
