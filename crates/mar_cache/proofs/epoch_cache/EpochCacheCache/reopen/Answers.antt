use Rattle.std.proofs.Common.{map, refl}
use Rattle.mar_store.specs.Lost.{wreck_of}
use Rattle.mar_epochs.specs.EpochStates.{some_ways}
use Rattle.mar_cache.specs.Bounds.{bounds_of}
use Rattle.mar_cache.proofs.BoundsKept.{contains_map, within_map}
use Rattle.mar_cache.proofs.CacheSteps.{fresh_cache, reopens, unopens}
use Rattle.mar_cache.proofs.LuckyLoads.{reopen_finds}
use Rattle.mar_cache.proofs.epoch_cache.EpochCacheCache.reopen.Goals as goal

pub invariant_of-result : goal.invariant_of-result
invariant_of-result g c = record { staged = fresh_cache (g.S.Epochs.states c.in-Ok.manager.epochs) c.in-Ok.ensures.shut }

pub returns-in-Ok : goal.returns-in-Ok
returns-in-Ok g c =
    let new = c.in-Ok.manager in
    let one = contains_map bounds_of (g.M.Wreck.MetaRuin.left c.args.wreck.meta) (g.M.Meta.current new.meta) c.in-Ok.ensures.bounds.0 in
    record {
      done = reopens (g.S.Wreck.EpochsRuin.left c.args.wreck.epochs) (map bounds_of (g.M.Wreck.MetaRuin.left c.args.wreck.meta)) (g.S.Epochs.states new.epochs) (bounds_of (g.M.Meta.current new.meta)) c.args.wreck.within c.in-Ok.ensures.states c.in-Ok.ensures.shut one;
      lowest = contains_map (λ b. b.lowest) (map bounds_of (g.M.Wreck.MetaRuin.left c.args.wreck.meta)) (bounds_of (g.M.Meta.current new.meta)) one;
      fresh = (refl, refl);
      picked = reopen_finds g.S.Epochs.keeps (g.S.Epochs.picks new.epochs) c.args.luck (g.S.Wreck.EpochsRuin.left c.args.wreck.epochs) (map bounds_of (g.M.Wreck.MetaRuin.left c.args.wreck.meta)) (g.S.Epochs.states new.epochs) (bounds_of (g.M.Meta.current new.meta)) c.in-Ok.ensures.picks (g.met.S.Epochs.one_left c.args.wreck.epochs) c.args.wreck.within c.in-Ok.ensures.states one;
      lost = tt;
      watched = c.in-Ok.ensures.watched;
    }

pub returns-in-Err : goal.returns-in-Err
returns-in-Err g c =
    let left = wreck_of c.in-Err.lost in
    record {
      done = tt;
      lowest = tt;
      fresh = tt;
      picked = tt;
      lost = unopens (g.S.Wreck.EpochsRuin.left c.args.wreck.epochs) (map bounds_of (g.M.Wreck.MetaRuin.left c.args.wreck.meta)) (g.S.Wreck.EpochsRuin.left left.epochs) (map bounds_of (g.M.Wreck.MetaRuin.left left.meta)) c.args.wreck.within (g.met.S.Epochs.some_left left.epochs) (some_ways bounds_of (g.M.Wreck.MetaRuin.left left.meta) (g.met.M.Wreck.MetaRuin.some left.meta)) c.in-Err.ensures.ways (within_map bounds_of _ _ c.in-Err.ensures.left);
      watched = c.in-Err.ensures.watched;
    }
