use Rattle.std.proofs.Common.{◌∙◌}
use Rattle.outside.proofs.Texts.{goes-as}
use Rattle.outside.proofs.text.TextBuffer.number.Goals as goal

pub returns : goal.returns
returns g c = goes-as c.text.ensures (c.as_bytes.ensures.value ∙ c.format.ensures.text)
