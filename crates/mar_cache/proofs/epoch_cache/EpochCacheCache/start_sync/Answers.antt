use Rattle.std.proofs.Common.{[], ◌≡◌, ap, not, map, refl, subst, sym, ◌∙◌}
use Rattle.mar_store.specs.Lost.{wreck_of}
use Rattle.mar_model.specs.CacheCalls.{is_ready, none_goes}
use Rattle.mar_epochs.specs.EpochStates.{is_opened, some_ways}
use Rattle.mar_cache.specs.Bounds.{bounds_of}
use Rattle.mar_cache.specs.Shelved.{IsStarted, at_epoch, nothing_gone}
use Rattle.mar_cache.specs.Stages.{IsAtStage}
use Rattle.mar_cache.proofs.AllEpochs.{goes_as, loses_as}
use Rattle.mar_cache.proofs.CacheSteps.{at_epoch_within, start_all}
use Rattle.mar_cache.proofs.Ticketing.{ready_as}
use Rattle.mar_cache.proofs.epoch_cache.EpochCacheCache.start_sync.Goals as goal

pub invariant_of-cache : goal.invariant_of-cache
invariant_of-cache g c = record { staged = subst (IsAtStage c.args.self.stage) (sym (ap g.S.Epochs.states c.in-Ok.ensures.same.0)) c.args.self.staged }

pub returns-in-Ok : goal.returns-in-Ok
returns-in-Ok g c =
    let states = g.S.Epochs.states in
    let old = c.args.self.manager in
    let new = c.in-Ok.manager in
    let b = bounds_of (g.M.Meta.current old.meta) in
    let d = bounds_of (g.M.Meta.current new.meta) in
    let same = ap states c.in-Ok.ensures.same.0 in
    let bounds = ap (λ m. bounds_of (g.M.Meta.current m)) c.in-Ok.ensures.same.1 in
    let both = start_all c.args.epoch c.args.section (states old.epochs) (states new.epochs) b d old.within same bounds c.in-Ok.started (subst (λ k. IsStarted (states old.epochs k) k c.args.section c.in-Ok.started) c.get.ensures.value c.in-Ok.ensures.started) in
    record {
      same = both.0;
      started = both.1;
      ready = subst (λ k. is_ready c.in-Ok.started ≡ not (is_opened (states old.epochs k))) c.get.ensures.value (ready_as (states old.epochs c.get.result) c.get.result c.args.section c.in-Ok.started c.in-Ok.ensures.started);
      goes_on = goes_as [] none_goes (states old.epochs) (states new.epochs) b d old.within (g.met.S.Epochs.nested old.epochs) same bounds;
      stays = (ap (λ e. e.lowest) bounds, refl, refl);
      lost = tt;
      watched = c.in-Ok.ensures.watched;
    }

pub returns-in-Err : goal.returns-in-Err
returns-in-Err g c =
    let states = g.S.Epochs.states in
    let old = c.args.self.manager in
    let left = wreck_of c.in-Err.lost in
    let some = g.met.S.Epochs.some_left left.epochs in
    let some_bounds = some_ways bounds_of (g.M.Wreck.MetaRuin.left left.meta) (g.met.M.Wreck.MetaRuin.some left.meta) in
    record { same = tt; started = tt; ready = tt; goes_on = tt; stays = tt; lost = loses_as nothing_gone none_goes (at_epoch c.get.result []) (states old.epochs) (bounds_of (g.M.Meta.current old.meta)) (g.S.Wreck.EpochsRuin.left left.epochs) (map bounds_of (g.M.Wreck.MetaRuin.left left.meta)) old.within left.within some some_bounds (at_epoch_within c.get.result []) (λ k y own stays. stays) c.in-Err.ensures.ways (ap (map bounds_of) c.in-Err.ensures.bounds ∙ old.durable); watched = c.in-Err.ensures.watched }
