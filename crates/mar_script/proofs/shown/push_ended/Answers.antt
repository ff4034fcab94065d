use Rattle.mar_script.proofs.Pushed.{ended_line, in_three}
use Rattle.mar_script.proofs.shown.push_ended.Goals as goal

pub returns : goal.returns
returns c = in_three _ _ _ _ _ _ _ _ c.in_ok-push_ended_front.ensures c.in_ok-push_ended_ranges.ensures c.in_ok-push_str.ensures.bytes (ended_line _ _ _ _ _ _)
