use Rattle.outside.proofs.Texts.{goes-as, goes-then}
use Rattle.timeline_board.proofs.lines.put_end.Goals as goal

pub returns : goal.returns
returns g c =
    let word = goes-as c.text-3.ensures c.ending_word.ensures in
    goes-then (goes-then (goes-then (goes-then c.text.ensures c.number.ensures) c.text-2.ensures) word) c.text-4.ensures
