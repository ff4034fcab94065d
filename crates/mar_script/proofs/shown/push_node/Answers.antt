use Rattle.mar_script.proofs.Pushed.{in_seven, node_line}
use Rattle.mar_script.proofs.shown.push_node.Goals as goal

pub returns : goal.returns
returns c = in_seven _ _ _ _ _ _ _ _ _ _ _ _ _ _ _ _ c.in_ok-push_node_front.ensures c.in_ok-push_str.ensures.bytes c.in_ok-push_cutoff.ensures c.in_ok-push_str-2.ensures.bytes c.in_ok-push_node_ranges.ensures c.in_ok-push_writes.ensures c.in_ok-push_tickets.ensures (node_line _ _ _ _ _ _ _ _ _ _)
