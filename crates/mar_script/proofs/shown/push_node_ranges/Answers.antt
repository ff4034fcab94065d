use Rattle.mar_script.proofs.Pushed.{in_four}
use Rattle.mar_script.proofs.shown.push_node_ranges.Goals as goal

pub returns : goal.returns
returns c = in_four _ _ _ _ _ _ _ _ _ c.in_ok-push_field.ensures c.in_ok-push_field-2.ensures c.in_ok-push_field-3.ensures c.in_ok-push_field-4.ensures
