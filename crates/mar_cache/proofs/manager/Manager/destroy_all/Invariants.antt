use Rattle.std.proofs.Common.{◌≡◌, ◌≤◌, ◌<◌, ◌-◌, ℕ, get_or, length, ◌&&◌}
use Rattle.mar_epochs.specs.EpochStates.{IsBare}
use Rattle.mar_cache.specs.Shelved.{DropsOlder, shelf_watch}
use Rattle.mar_cache.proofs.manager.Manager.destroy_all.Given as goal

abbrev pub invariant-loop-place : goal.invariant-loop-place
invariant-loop-place g l = record {
  within : l.place ≤ length l.listed;
  drops : DropsOlder l.below (g.S.Epochs.states l.initial.manager.epochs) (g.S.Epochs.states l.manager.epochs);
  bare : (j : ℕ) → j < l.place → get_or l.listed j 0 < l.below → IsBare (g.S.Epochs.states l.manager.epochs (get_or l.listed j 0));
  meta : l.manager.meta ≡ l.initial.manager.meta;
  watch : shelf_watch g.S.Epochs.keeps l.manager.alarm (g.S.Epochs.calm l.manager.epochs && (g.M.Meta.watch l.manager.meta).only_armed) ≡ shelf_watch g.S.Epochs.keeps l.initial.manager.alarm (g.S.Epochs.calm l.initial.manager.epochs && (g.M.Meta.watch l.initial.manager.meta).only_armed);
}

abbrev pub decreases-loop-place : goal.decreases-loop-place
decreases-loop-place g l = length l.listed - l.place
