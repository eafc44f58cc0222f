use Rattle.timeline_board.proofs.TimeOrder.{time-order-orders}
use Rattle.timeline_board.proofs.laws.time_order_orders.Goals as goal

pub returns : goal.returns
returns c = time-order-orders
