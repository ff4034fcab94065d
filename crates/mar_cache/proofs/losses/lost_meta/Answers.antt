use Rattle.std.proofs.Common.{map, ◌∙◌}
use Rattle.mar_cache.specs.Bounds.{bounds_of}
use Rattle.mar_store.specs.Lost.{wreck_of}
use Rattle.mar_cache.proofs.Within.{left_within}
use Rattle.mar_cache.proofs.losses.lost_meta.Goals as goal

pub invariant_of-wreck : goal.invariant_of-wreck
invariant_of-wreck g c = rw c.parts_of-failed.ensures.wreck (record {
  quiet = c.requires.quiet;
  within = left_within (g.S.Epochs.states c.args.epochs) _ (map bounds_of (g.M.Wreck.MetaRuin.left (wreck_of c.args.lost))) _ c.requires.within c.wreck.ensures.left (λ b has. has);
})

pub returns : goal.returns
returns g c = rw c.lost_by.ensures.wreck (record {
  ways = c.wreck.ensures.left;
  meta = c.parts_of-failed.ensures.wreck;
  fault = c.lost_by.ensures.fault ∙ c.parts_of-failed.ensures.fault;
  calm = c.wreck.ensures.calm;
  due = c.alarm_after.ensures.due;
  faults = rw (← c.parts_of-failed.ensures.fault) c.alarm_after.ensures.faults;
})
