use Rattle.std.proofs.Common.{ap, ◌∙◌}
use Rattle.mar_cache.proofs.losses.lost_epochs.Goals as goal

pub invariant_of-wreck : goal.invariant_of-wreck
invariant_of-wreck g c = record {
  quiet = ap (λ w. w.due) c.wreck.ensures.watch ∙ c.requires.quiet;
  within = rw (c.parts_of-failed.ensures.wreck, c.wreck.ensures.left) c.requires.within;
}

pub returns : goal.returns
returns g c = rw c.lost_by.ensures.wreck (record {
  ways = c.parts_of-failed.ensures.wreck;
  bounds = c.wreck.ensures.left;
  fault = c.lost_by.ensures.fault ∙ c.parts_of-failed.ensures.fault;
  watch = c.wreck.ensures.watch;
  due = c.alarm_after.ensures.due;
  faults = rw (← c.parts_of-failed.ensures.fault) c.alarm_after.ensures.faults;
})
