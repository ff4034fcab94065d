use Rattle.mar_gen.proofs.Heights.{is_order}
use Rattle.mar_gen.proofs.steps.order_has_each_height.Goals as goal

pub returns : goal.returns
returns c = is_order
