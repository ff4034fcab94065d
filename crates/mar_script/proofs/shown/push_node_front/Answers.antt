use Rattle.mar_script.proofs.Pushed.{in_four}
use Rattle.mar_script.proofs.shown.push_node_front.Goals as goal

pub returns : goal.returns
returns c = in_four _ _ _ _ _ _ _ _ _ c.in_ok-push_str.ensures.bytes c.in_ok-push_processed.ensures c.in_ok-push_str-2.ensures.bytes c.in_ok-push_acks.ensures
