use Rattle.std.proofs.Common.{[], ◌∷◌, ◌∙◌, ◌≡◌, ◌&&◌, ap, arith, false, map, refl, sym, true}
use Rattle.mar_model.specs.Cached.{epoch_of}
use Rattle.mar_cache.specs.Bounds.{bounds_of}
use Rattle.mar_cache.specs.Shelved.{at_epoch, nothing_gone, raised, shelf_watch}
use Rattle.mar_epochs.specs.declared.Change.TheVariants.{Put}
use Rattle.mar_cache.proofs.PutsInPart.{fails_lost, fails_same, part_done, part_ready}
use Rattle.mar_cache.proofs.Shelving.{at_own, bounds_stay, does_grow, fallen_leaves, grown_leaves, raised_within}
use Rattle.mar_cache.proofs.manager.Manager.put_in_part.Goals as goal

pub returns-then-epoch-lowest : goal.returns-then-epoch-lowest
returns-then-epoch-lowest g c =
    let plain = g.S.Entry.AsEntry.plain in
    let old = c.args.self in
    let states = g.S.Epochs.states old.epochs in
    let b = bounds_of (g.M.Meta.current old.meta) in
    let e = epoch_of (plain c.args.entry) in
    record {
      ways = fallen_leaves (at_epoch e (plain c.args.entry ∷ [])) nothing_gone states (g.met.S.Epochs.nested old.epochs) _ c.wreck.ensures.ways;
      bounds = rw c.wreck.ensures.bounds (bounds_stay (map bounds_of (g.M.Meta.left old.meta)) _);
      written = λ long. part_ready plain c.args.entry g.S.Epochs.keeps b states _ _ (omega (arith, c.if-epoch-lowest.true, c.get-epoch.ensures.value, c.epoch.ensures, c.lowest.ensures)) (λ goes. g.met.S.Epochs.whole old.epochs goes) c.wreck.ensures.ways c.wreck.ensures.one (ap (map bounds_of) c.wreck.ensures.bounds ∙ old.durable);
      watch = fails_same _ _ c.wreck.ensures.watch;
    }

pub returns-in-Ok : goal.returns-in-Ok
returns-in-Ok g c =
    let plain = g.S.Entry.AsEntry.plain in
    let old = c.args.self in
    let new = c.in-Ok.manager in
    let states = g.S.Epochs.states old.epochs in
    let b = bounds_of (g.M.Meta.current old.meta) in
    let e = epoch_of (plain c.args.entry) in
    let put = plain c.args.entry ∷ [] in
    record {
      ways = grown_leaves (at_epoch e put) nothing_gone states (g.S.Epochs.states new.epochs) _ (does_grow plain (Put c.args.entry) (at_epoch e put) nothing_gone e states (g.S.Epochs.states new.epochs) (at_own e put) (λ x stays. refl) c.in-Ok.ensures.done) (fallen_leaves (at_epoch e put) nothing_gone (g.S.Epochs.states new.epochs) (g.met.S.Epochs.nested new.epochs) _ c.wreck-in-Ok.ensures.ways);
      bounds = rw c.wreck-in-Ok.ensures.bounds (raised_within _ (map bounds_of (g.M.Meta.left old.meta)) (raised e b) _ c.in-Ok.ensures.raises.1);
      written = λ long. part_done plain c.args.entry g.S.Epochs.keeps b states _ _ (omega (arith, c.if-epoch-lowest.false, c.get-epoch.ensures.value, c.epoch.ensures, c.lowest.ensures)) (g.S.Epochs.states new.epochs) c.in-Ok.ensures.done (λ goes. g.met.S.Epochs.whole new.epochs goes) c.wreck-in-Ok.ensures.ways c.wreck-in-Ok.ensures.one (ap (map bounds_of) c.wreck-in-Ok.ensures.bounds ∙ new.durable ∙ ap (λ d. d ∷ []) c.in-Ok.ensures.raises.0);
      watch = fails_same _ _ (c.wreck-in-Ok.ensures.watch ∙ c.in-Ok.ensures.watched);
    }

pub returns-in-Err : goal.returns-in-Err
returns-in-Err g c = record {
  ways = rw c.cut_short.ensures.epochs c.in-Err.ensures.ways;
  bounds = rw c.cut_short.ensures.meta c.in-Err.ensures.bounds;
  written = λ long. absurd (let clash : true ≡ false = sym c.cut_short.ensures.short ∙ long in cc);
  watch = rw (c.cut_short.ensures.epochs, c.cut_short.ensures.meta, c.cut_short.ensures.alarm) (fails_lost (λ w. shelf_watch g.S.Epochs.keeps w.alarm (g.S.Wreck.EpochsRuin.calm w.epochs && (g.M.Wreck.MetaRuin.watch w.meta).only_armed)) _ c.in-Err.lost c.in-Err.ensures.watched);
}
