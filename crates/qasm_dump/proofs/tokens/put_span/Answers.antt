use Rattle.outside.proofs.Texts.{goes-then}
use Rattle.qasm_dump.proofs.tokens.put_span.Goals as goal

pub returns : goal.returns
returns g c = goes-then (goes-then c.number.ensures c.text.ensures) c.number-2.ensures
