use Rattle.std.proofs.Common.{ap, sym}
use Rattle.outside.proofs.Texts.{goes-as, goes-then}
use Rattle.timeline_board.specs.Refused.{place_text}
use Rattle.timeline_board.proofs.refusals.put_place.Goals as goal

pub returns : goal.returns
returns g c =
    let to_line = goes-then c.text.ensures c.number.ensures in
    goes-as (goes-then (goes-then to_line c.text-2.ensures) c.number-2.ensures) (ap place_text (sym c.in-Some.is))
