use Rattle.timeline_board.proofs.Merges.{merge-orders}
use Rattle.timeline_board.proofs.laws.merge_orders.Goals as goal

pub returns : goal.returns
returns c = merge-orders
