use Rattle.class_order.proofs.ClassOrders.{right_order}
use Rattle.class_order.proofs.laws.class_order_is_right.Goals as goal

pub returns : goal.returns
returns c = right_order
