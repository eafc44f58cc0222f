use Rattle.std.proofs.Common.{◌∙◌}
use Rattle.outside.proofs.Texts.{goes-as, goes-then}
use Rattle.timeline_board.proofs.lines.put_out.Goals as goal

pub returns : goal.returns
returns g c =
    let to_name = goes-then c.text.ensures (goes-as c.text-2.ensures (c.as_bytes.ensures.value ∙ c.as_str.ensures)) in
    goes-then (goes-then (goes-then to_name c.text-3.ensures) c.put_value.ensures) c.text-4.ensures
