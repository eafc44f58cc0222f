use Rattle.std.proofs.Common.{◌∙◌}
use Rattle.outside.proofs.Texts.{goes-as, goes-then}
use Rattle.qasm_dump.proofs.tokens.put_token.Goals as goal

pub returns : goal.returns
returns g c =
    let to_kind = goes-then (goes-then c.put_span.ensures c.text.ensures) c.put_kind.ensures in
    let to_text = goes-then (goes-then to_kind c.text-2.ensures) (goes-as c.text-3.ensures (c.as_bytes.ensures.value ∙ c.as_str.ensures)) in
    goes-then to_text c.text-4.ensures
