use Rattle.std.proofs.Common.{ap, sym}
use Rattle.outside.proofs.Texts.{goes-as, goes-then}
use Rattle.timeline_board.specs.Report.{bit_text}
use Rattle.timeline_board.proofs.lines.put_bit.Goals as goal

pub returns-in-Some : goal.returns-in-Some
returns-in-Some g c = goes-as (goes-then c.text.ensures c.number.ensures) (ap bit_text (sym c.in-Some.is))
