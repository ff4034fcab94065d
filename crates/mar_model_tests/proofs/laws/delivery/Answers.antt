-- The two literals are the lines of the instance.
use Rattle.std.proofs.Common.{refl}
use Rattle.mar_model_tests.proofs.laws.delivery.Goals as goal
use Rattle.mar_model_tests.proofs.DeliveryRun.{line, output}
use Rattle.mar_model_tests.proofs.DeliveryHeadline.{delivery_is, input}

pub returns : goal.returns
unfolding input output line
returns c = delivery_is _ _ refl refl
