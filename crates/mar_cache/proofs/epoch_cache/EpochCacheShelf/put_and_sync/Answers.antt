use Rattle.std.proofs.Common.{◌<◌, ◌≡◌, ◌≤◌, ◌&&◌, [], ◌∷◌, ap, map, refl, subst, sym, ◌∙◌}
use Rattle.mar_store.specs.Lost.{wreck_of}
use Rattle.mar_model.specs.CacheCalls.{GoesOn, LeavesFailedPut, LosesCache, PutsAndSyncs, none_goes}
use Rattle.mar_epochs.specs.EpochStates.{some_ways}
use Rattle.mar_cache.specs.Bounds.{bounds_of}
use Rattle.mar_model.specs.Cached.{epoch_of}
use Rattle.mar_model.specs.Sections.{section_of}
use Rattle.mar_epochs.specs.declared.Change.TheVariants.{Put, Sync}
use Rattle.mar_cache.specs.AsOne.{covers_of, kept_of, left_of_ways, lowests_of}
use Rattle.mar_cache.specs.Calls.{IsPutAndSynced}
use Rattle.mar_cache.specs.Shelved.{at_epoch, nothing_gone, raised, shelf_watch}
use Rattle.mar_cache.specs.Stages.{IsAtStage, is_loaded}
use Rattle.mar_cache.proofs.AllEpochs.{raised_lowests}
use Rattle.mar_cache.proofs.CacheSteps.{at_epoch_within, loaded_all, put_and_sync, put_goes_on, put_lowest, puts_and_syncs, staged_synced, still_loaded}
use Rattle.mar_cache.proofs.Plainly.{sync_plain}
use Rattle.mar_cache.proofs.PutsInPart.{left_of_failed}
use Rattle.mar_cache.proofs.StateLosses.{leaves_flat}
use Rattle.mar_cache.proofs.epoch_cache.EpochCacheShelf.put_and_sync.Goals as goal

pub invariant_of-result : goal.invariant_of-result
invariant_of-result g c =
    let states = g.S.Epochs.states in
    let plain = g.S.Entry.AsEntry.plain in
    let old = c.args.self.manager in
    let new = c.in-Ok.manager in
    let b = bounds_of (g.M.Meta.current old.meta) in
    let d = bounds_of (g.M.Meta.current new.meta) in
    let x = plain c.of.result in
    record { staged = subst (λ s. IsAtStage s (states new.epochs)) (sym c.after_put.ensures) (staged_synced x (states old.epochs) (states new.epochs) b d old.within new.within (g.met.S.Epochs.nested old.epochs) (g.met.S.Epochs.nested new.epochs) c.args.self.stage c.args.self.staged (λ less. ap states (c.in-Ok.ensures.ready less).0) (λ low. sync_plain plain c.of.result _ _ (c.in-Ok.ensures.done low))) }

pub returns-in-Ok : goal.returns-in-Ok
returns-in-Ok g c =
    let states = g.S.Epochs.states in
    let plain = g.S.Entry.AsEntry.plain in
    let old = c.args.self.manager in
    let new = c.in-Ok.manager in
    let b = bounds_of (g.M.Meta.current old.meta) in
    let d = bounds_of (g.M.Meta.current new.meta) in
    let x = plain c.of.result in
    let stage = c.args.self.stage in
    let ready : epoch_of x < b.lowest → (states new.epochs ≡ states old.epochs) × (d ≡ b) = λ less. let r = c.in-Ok.ensures.ready less in (ap states r.0, ap (λ m. bounds_of (g.M.Meta.current m)) r.1) in
    let done : b.lowest ≤ epoch_of x → IsPutAndSynced x (states old.epochs) (states new.epochs) = λ low. sync_plain plain c.of.result _ _ (c.in-Ok.ensures.done low) in
    let raises : b.lowest ≤ epoch_of x → d ≡ raised (epoch_of x) b = λ low. (c.in-Ok.ensures.raises low).0 in
    record {
      puts = subst (λ y. PutsAndSyncs y b.lowest (is_loaded stage) (kept_of (states old.epochs) b.highest) (kept_of (states new.epochs) d.highest)) c.of.ensures (puts_and_syncs x (states old.epochs) (states new.epochs) b d old.within new.within (g.met.S.Epochs.nested old.epochs) (g.met.S.Epochs.nested new.epochs) stage c.args.self.staged ready done raises);
      goes_on = subst (λ y. GoesOn (y ∷ []) none_goes (kept_of (states old.epochs) b.highest) (kept_of (states new.epochs) d.highest) (covers_of (states old.epochs)) (covers_of (states new.epochs))) c.of.ensures (put_goes_on x (states old.epochs) (states new.epochs) b d old.within new.within (g.met.S.Epochs.nested old.epochs) (g.met.S.Epochs.nested new.epochs) (Put x ∷ Sync (section_of x) ∷ []) (put_and_sync x (states old.epochs) (states new.epochs) b d old.within new.within (g.met.S.Epochs.nested old.epochs) (g.met.S.Epochs.nested new.epochs)) ready done);
      stays = (put_lowest x (states old.epochs) (states new.epochs) b d old.within new.within (g.met.S.Epochs.nested old.epochs) (g.met.S.Epochs.nested new.epochs) (λ less. (ready less).1) raises, ap is_loaded c.after_put.ensures ∙ still_loaded stage);
      lost = tt;
      written = tt;
      watched = c.in-Ok.ensures.watched;
    }

pub returns-in-Err : goal.returns-in-Err
returns-in-Err g c =
    let states = g.S.Epochs.states in
    let old = c.args.self.manager in
    let left = wreck_of c.in-Err.lost in
    let some = g.met.S.Epochs.some_left left.epochs in
    let some_bounds = some_ways bounds_of (g.M.Wreck.MetaRuin.left left.meta) (g.met.M.Wreck.MetaRuin.some left.meta) in
    let b = bounds_of (g.M.Meta.current old.meta) in
    let x = g.S.Entry.AsEntry.plain c.of.result in
    let watch = shelf_watch g.S.Epochs.keeps old.alarm (g.S.Epochs.calm old.epochs && (g.M.Meta.watch old.meta).only_armed) in
    record {
      puts = tt;
      goes_on = tt;
      stays = tt;
      lost = subst (λ y. LosesCache (y ∷ []) none_goes (kept_of (states old.epochs) b.highest) (b.lowest ∷ []) (left_of_ways (g.S.Wreck.EpochsRuin.left left.epochs) (map bounds_of (g.M.Wreck.MetaRuin.left left.meta))) (lowests_of (map bounds_of (g.M.Wreck.MetaRuin.left left.meta)))) c.of.ensures (record {
        leaves = leaves_flat (at_epoch (epoch_of x) (x ∷ [])) nothing_gone (x ∷ []) none_goes (states old.epochs) b old.within (g.S.Wreck.EpochsRuin.left left.epochs) (map bounds_of (g.M.Wreck.MetaRuin.left left.meta)) left.within some some_bounds (at_epoch_within (epoch_of x) (x ∷ [])) (λ k y own stays. stays) c.in-Err.ensures.ways;
        lowests = raised_lowests (epoch_of x) b (map bounds_of (g.M.Meta.left old.meta)) (map bounds_of (g.M.Wreck.MetaRuin.left left.meta)) old.durable c.in-Err.ensures.bounds;
      });
      written = subst (λ y. LeavesFailedPut (λ w. left_of_ways (g.S.Wreck.EpochsRuin.left w.epochs) (map bounds_of (g.M.Wreck.MetaRuin.left w.meta))) (λ w. w.short) y b.lowest (is_loaded c.args.self.stage) watch (kept_of (states old.epochs) b.highest) c.in-Err.lost) c.of.ensures (left_of_failed (λ w. left_of_ways (g.S.Wreck.EpochsRuin.left w.epochs) (map bounds_of (g.M.Wreck.MetaRuin.left w.meta))) (λ w. w.short) g.S.Entry.AsEntry.plain c.of.result g.S.Epochs.keeps b (is_loaded c.args.self.stage) watch (states old.epochs) (λ w. g.S.Wreck.EpochsRuin.left w.epochs) (λ w. map bounds_of (g.M.Wreck.MetaRuin.left w.meta)) (λ w. refl) refl old.within (loaded_all c.args.self.stage (states old.epochs) (g.met.S.Epochs.nested old.epochs) c.args.self.staged) (λ goes. g.met.S.Epochs.whole old.epochs goes) c.in-Err.lost c.in-Err.ensures.written);
      watched = c.in-Err.ensures.watched;
    }
