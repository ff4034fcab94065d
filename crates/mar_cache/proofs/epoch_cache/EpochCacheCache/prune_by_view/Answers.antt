use Rattle.std.proofs.Common.{[], ap, map, refl, ◌∙◌}
use Rattle.mar_store.specs.Lost.{wreck_of}
use Rattle.mar_model.specs.Cache.{is_below}
use Rattle.mar_epochs.specs.EpochStates.{some_ways}
use Rattle.mar_cache.specs.Bounds.{bounds_of}
use Rattle.mar_cache.specs.Laws.{PrunesByView}
use Rattle.mar_cache.specs.Shelved.{is_pruned_by}
use Rattle.mar_cache.proofs.AllEpochs.{pruned_lowest, pruned_lowests}
use Rattle.mar_cache.proofs.CacheSteps.{prunes_view, view_goes_on, view_lets, view_staged}
use Rattle.mar_cache.proofs.Plainly.{prune_plain}
use Rattle.mar_cache.proofs.StateLosses.{leaves_flat}
use Rattle.mar_cache.proofs.epoch_cache.EpochCacheCache.prune_by_view.Goals as goal

pub invariant_of-result : goal.invariant_of-result
invariant_of-result g c =
    let states = g.S.Epochs.states in
    let old = c.args.self.manager in
    let new = c.in-Ok.manager in
    let b = bounds_of (g.M.Meta.current old.meta) in
    let d = bounds_of (g.M.Meta.current new.meta) in
    record { staged = view_staged c.args.round (states old.epochs) (states new.epochs) b d old.within new.within (g.met.S.Epochs.nested old.epochs) (g.met.S.Epochs.nested new.epochs) (record { own = prune_plain g.S.Entry.AsEntry.plain c.args.round _ _ c.in-Ok.ensures.own; newer = c.in-Ok.ensures.newer; older = c.in-Ok.ensures.older }) c.in-Ok.ensures.raises c.args.self.stage c.args.self.staged }

pub returns-in-Ok : goal.returns-in-Ok
returns-in-Ok g c =
    let states = g.S.Epochs.states in
    let old = c.args.self.manager in
    let new = c.in-Ok.manager in
    let b = bounds_of (g.M.Meta.current old.meta) in
    let d = bounds_of (g.M.Meta.current new.meta) in
    let prunes : PrunesByView c.args.round (states old.epochs) (states new.epochs) = record { own = prune_plain g.S.Entry.AsEntry.plain c.args.round _ _ c.in-Ok.ensures.own; newer = c.in-Ok.ensures.newer; older = c.in-Ok.ensures.older } in
    record {
      done = prunes_view c.args.round (states old.epochs) (states new.epochs) b d old.within new.within (g.met.S.Epochs.nested old.epochs) (g.met.S.Epochs.nested new.epochs) prunes c.in-Ok.ensures.raises c.args.self.stage c.args.self.staged;
      goes_on = view_goes_on c.args.round (states old.epochs) (states new.epochs) b d old.within new.within (g.met.S.Epochs.nested old.epochs) (g.met.S.Epochs.nested new.epochs) prunes c.in-Ok.ensures.raises;
      stays = (ap (λ e. e.lowest) c.in-Ok.ensures.raises ∙ pruned_lowest c.args.round b, refl, refl);
      lost = tt;
      watched = c.in-Ok.ensures.watched;
    }

pub returns-in-Err : goal.returns-in-Err
returns-in-Err g c =
    let states = g.S.Epochs.states in
    let old = c.args.self.manager in
    let left = wreck_of c.in-Err.lost in
    let some = g.met.S.Epochs.some_left left.epochs in
    let some_bounds = some_ways bounds_of (g.M.Wreck.MetaRuin.left left.meta) (g.met.M.Wreck.MetaRuin.some left.meta) in
    let b = bounds_of (g.M.Meta.current old.meta) in
    record {
      done = λ is. tt;
      goes_on = tt;
      stays = tt;
      lost = record {
        leaves = leaves_flat (λ k. []) (is_pruned_by c.args.round) [] (is_below c.args.round) (states old.epochs) b old.within (g.S.Wreck.EpochsRuin.left left.epochs) (map bounds_of (g.M.Wreck.MetaRuin.left left.meta)) left.within some some_bounds (λ k y has. has) (view_lets c.args.round) c.in-Err.ensures.ways;
        lowests = pruned_lowests c.args.round b (map bounds_of (g.M.Meta.left old.meta)) (map bounds_of (g.M.Wreck.MetaRuin.left left.meta)) old.durable c.in-Err.ensures.bounds;
      };
      watched = c.in-Err.ensures.watched;
    }
