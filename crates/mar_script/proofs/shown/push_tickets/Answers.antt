use Rattle.std.proofs.Common.{refl}
use Rattle.mar_script.proofs.Pushed.{in_three}
use Rattle.mar_script.proofs.shown.push_tickets.Goals as goal

pub returns : goal.returns
returns c = in_three _ _ _ _ _ _ _ _ c.in_ok-push_str.ensures.bytes c.in_ok-push_numbers.ensures c.in_ok-push_str-2.ensures.bytes refl
