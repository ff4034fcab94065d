use Rattle.std.proofs.Common.{◌≡◌, ◌≤◌, ◌<◌, ◌-◌, ℕ, get_or, length, ◌&&◌}
use Rattle.mar_model.specs.Cache.{is_certified_below}
use Rattle.mar_cache.specs.Shelved.{IsClear, ThinsEpoch, shelf_watch}
use Rattle.mar_cache.proofs.manager.Manager.prune_all.Given as goal

abbrev pub invariant-loop-place : goal.invariant-loop-place
invariant-loop-place g l = record {
  within : l.place ≤ length l.listed;
  thins : (k : ℕ) → ThinsEpoch (is_certified_below l.height) (g.S.Epochs.states l.initial.manager.epochs k) (g.S.Epochs.states l.manager.epochs k);
  clear : (j : ℕ) → j < l.place → IsClear (is_certified_below l.height) (g.S.Epochs.states l.manager.epochs (get_or l.listed j 0));
  meta : l.manager.meta ≡ l.initial.manager.meta;
  watch : shelf_watch g.S.Epochs.keeps l.manager.alarm (g.S.Epochs.calm l.manager.epochs && (g.M.Meta.watch l.manager.meta).only_armed) ≡ shelf_watch g.S.Epochs.keeps l.initial.manager.alarm (g.S.Epochs.calm l.initial.manager.epochs && (g.M.Meta.watch l.initial.manager.meta).only_armed);
}

abbrev pub decreases-loop-place : goal.decreases-loop-place
decreases-loop-place g l = length l.listed - l.place
