use Rattle.mar_script.proofs.Pushed.{in_four}
use Rattle.mar_script.proofs.shown.push_writes.Goals as goal

pub returns : goal.returns
returns c =
    rw (← c.uncovered.ensures, ← c.syncs.ensures)
    (in_four _ _ _ _ _ _ _ _ _ c.in_ok-push_str.ensures.bytes c.in_ok-push_heights.ensures c.in_ok-push_str-2.ensures.bytes c.in_ok-push_syncs.ensures)
