use Rattle.std.proofs.Common.{[], ap, map, refl, ◌∙◌}
use Rattle.mar_store.specs.Lost.{wreck_of}
use Rattle.mar_model.specs.Cache.{is_certified_below}
use Rattle.mar_epochs.specs.EpochStates.{some_ways}
use Rattle.mar_cache.specs.Bounds.{bounds_of}
use Rattle.mar_cache.proofs.AllEpochs.{loses_as}
use Rattle.mar_cache.proofs.CacheSteps.{height_done, height_staged}
use Rattle.mar_cache.proofs.epoch_cache.EpochCacheCache.prune_by_height.Goals as goal

pub invariant_of-result : goal.invariant_of-result
invariant_of-result g c = record { staged = height_staged c.args.self.stage c.args.height (g.S.Epochs.states c.args.self.manager.epochs) (g.S.Epochs.states c.in-Ok.manager.epochs) c.args.self.staged c.in-Ok.ensures.done }

pub returns-in-Ok : goal.returns-in-Ok
returns-in-Ok g c =
    let states = g.S.Epochs.states in
    let old = c.args.self.manager in
    let new = c.in-Ok.manager in
    let b = bounds_of (g.M.Meta.current old.meta) in
    let d = bounds_of (g.M.Meta.current new.meta) in
    let bounds = ap (λ m. bounds_of (g.M.Meta.current m)) c.in-Ok.ensures.meta in
    let both = height_done (states old.epochs) (states new.epochs) b d old.within new.within (g.met.S.Epochs.nested old.epochs) (g.met.S.Epochs.nested new.epochs) bounds c.args.height c.in-Ok.ensures.done c.in-Ok.ensures.clear in
    record { done = λ is. both.0; goes_on = both.1; stays = (ap (λ e. e.lowest) bounds, refl, refl); lost = tt; watched = c.in-Ok.ensures.watched }

pub returns-in-Err : goal.returns-in-Err
returns-in-Err g c =
    let states = g.S.Epochs.states in
    let old = c.args.self.manager in
    let left = wreck_of c.in-Err.lost in
    let some = g.met.S.Epochs.some_left left.epochs in
    let some_bounds = some_ways bounds_of (g.M.Wreck.MetaRuin.left left.meta) (g.met.M.Wreck.MetaRuin.some left.meta) in
    record { done = λ is. tt; goes_on = tt; stays = tt; lost = loses_as (λ k. is_certified_below c.args.height) (is_certified_below c.args.height) (λ k. []) (states old.epochs) (bounds_of (g.M.Meta.current old.meta)) (g.S.Wreck.EpochsRuin.left left.epochs) (map bounds_of (g.M.Wreck.MetaRuin.left left.meta)) old.within left.within some some_bounds (λ k y has. has) (λ k y own stays. stays) c.in-Err.ensures.ways (ap (map bounds_of) c.in-Err.ensures.bounds ∙ old.durable); watched = c.in-Err.ensures.watched }
