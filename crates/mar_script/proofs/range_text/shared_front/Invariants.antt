use Rattle.std.proofs.Common.{take, ◌-◌, ◌≡◌, ◌≤◌}
use Rattle.mar_script.proofs.range_text.shared_front.Given as goal

abbrev pub invariant-loop-place : goal.invariant-loop-place
invariant-loop-place l = (l.place ≤ l.end) × (take l.place l.these ≡ take l.place l.those)

abbrev pub decreases-loop-place : goal.decreases-loop-place
decreases-loop-place l = l.end - l.place
