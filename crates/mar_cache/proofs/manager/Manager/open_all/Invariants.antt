use Rattle.std.proofs.Common.{◌≡◌, ◌≤◌, ◌<◌, ◌-◌, ℕ, true, false, Contains, get_or, length, ◌&&◌}
use Rattle.mar_cache.specs.Bounds.{bounds_of, includes}
use Rattle.mar_epochs.specs.EpochStates.{is_opened}
use Rattle.mar_epochs.specs.Picks.{PicksEpoch}
use Rattle.mar_cache.specs.Shelved.{OpensOrStays, shelf_watch}
use Rattle.mar_cache.proofs.manager.Manager.open_all.Given as goal

abbrev pub invariant-loop-place : goal.invariant-loop-place
invariant-loop-place g l = record {
  within : l.place ≤ length l.listed;
  stays : (k : ℕ) → OpensOrStays (g.S.Epochs.states l.initial.manager.epochs k) (g.S.Epochs.states l.manager.epochs k);
  opened : (j : ℕ) → j < l.place → includes (bounds_of (g.M.Meta.current l.initial.manager.meta)) (get_or l.listed j 0) ≡ true → is_opened (g.S.Epochs.states l.manager.epochs (get_or l.listed j 0)) ≡ true;
  outside : (k : ℕ) → includes (bounds_of (g.M.Meta.current l.initial.manager.meta)) k ≡ false → g.S.Epochs.states l.manager.epochs k ≡ g.S.Epochs.states l.initial.manager.epochs k;
  others : (k : ℕ) → (Contains l.listed k → ⊥) → g.S.Epochs.states l.manager.epochs k ≡ g.S.Epochs.states l.initial.manager.epochs k;
  picked : (k : ℕ) → PicksEpoch (g.S.Epochs.picks l.initial.manager.epochs) (g.S.Epochs.states l.initial.manager.epochs k) (g.S.Epochs.states l.manager.epochs k);
  picks : g.S.Epochs.picks l.manager.epochs ≡ g.S.Epochs.picks l.initial.manager.epochs;
  meta : l.manager.meta ≡ l.initial.manager.meta;
  watch : shelf_watch g.S.Epochs.keeps l.manager.alarm (g.S.Epochs.calm l.manager.epochs && (g.M.Meta.watch l.manager.meta).only_armed) ≡ shelf_watch g.S.Epochs.keeps l.initial.manager.alarm (g.S.Epochs.calm l.initial.manager.epochs && (g.M.Meta.watch l.initial.manager.meta).only_armed);
}

abbrev pub decreases-loop-place : goal.decreases-loop-place
decreases-loop-place g l = length l.listed - l.place
