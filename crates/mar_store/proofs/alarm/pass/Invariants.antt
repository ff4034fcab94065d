use Rattle.std.proofs.Common.{◌≡◌, ◌-◌, ◌≤◌, ◌++◌, ◌||◌, length, take, drop}
use Rattle.mar_store.specs.Watch.{is_due, after_call}
use Rattle.mar_store.proofs.alarm.pass.Given as goal

abbrev pub invariant-loop-place : goal.invariant-loop-place
invariant-loop-place l = record {
  within : l.place ≤ length l.due.items;
  rings : is_due l.initial.due.items ≡ (l.rings || is_due (drop l.place l.due.items));
  due : after_call l.initial.due.items ≡ take l.place l.due.items ++ after_call (drop l.place l.due.items);
}

abbrev pub decreases-loop-place : goal.decreases-loop-place
decreases-loop-place l = length l.due.items - l.place
