use Rattle.std.proofs.Common.{append-nil, ap, ap₂, Contains, map, refl, subst, ◌∙◌, ◌&&◌}
use Rattle.mar_cache.specs.Bounds.{bounds_of}
use Rattle.mar_store.specs.Watch.{after_call}
use Rattle.mar_cache.specs.Shelved.{shelf_watch}
use Rattle.mar_cache.proofs.BoundsKept.{contains_map, within_map}
use Rattle.mar_cache.proofs.Watched.{lost_calm}
use Rattle.mar_epochs.proofs.Unarmed.{and_right, for_memory, none_due, still_armed}
use Rattle.mar_cache.proofs.manager.with_reopened.Goals as goal

pub invariant_of-result : goal.invariant_of-result
invariant_of-result g c = record {
  unchanged = c.in-Ok.ensures.changes;
  quiet = ap (λ w. w.due) c.in-Ok.ensures.watched.1 ∙ ap after_call c.requires.quiet;
  durable = ap (map bounds_of) c.in-Ok.ensures.synced;
  within = c.requires.within _ (contains_map bounds_of _ _ c.in-Ok.ensures.done);
}

pub returns-in-Ok : goal.returns-in-Ok
returns-in-Ok g c = record {
  epochs = refl;
  bounds = (c.in-Ok.ensures.done, c.in-Ok.ensures.synced);
  ways = tt;
  left = tt;
  watched = ap (λ w. shelf_watch g.S.Epochs.keeps c.args.alarm (g.S.Epochs.calm c.args.epochs && w.only_armed)) c.in-Ok.ensures.watched.1;
}

pub lost_meta-requires : goal.lost_meta-requires
lost_meta-requires g c = record {
  quiet = none_due g.M.Wreck.MetaRuin.watch (g.M.Wreck.MetaRuin.watch c.args.meta) c.in-Err.lost c.requires.quiet c.in-Err.ensures.watched;
  within = λ b has. c.requires.within b (within_map bounds_of _ _ (λ x among. subst (λ ys. Contains ys x) (append-nil _) (c.in-Err.ensures.done.within x among)) b has);
}

pub returns-in-Err : goal.returns-in-Err
returns-in-Err g c =
    let lost = c.lost_meta.ensures in
    let watch = g.M.Wreck.MetaRuin.watch c.args.meta in
    record {
      epochs = tt;
      bounds = tt;
      ways = lost.ways;
      left = rw lost.meta (λ x has. subst (λ ys. Contains ys x) (append-nil _) (c.in-Err.ensures.done.within x has));
      watched = lost_calm g.S.Epochs.keeps (λ w. w.alarm) (λ w. g.S.Wreck.EpochsRuin.calm w.epochs && (g.M.Wreck.MetaRuin.watch w.meta).only_armed) c.args.alarm _ _ c.lost_meta.result lost.fault lost.due lost.faults
          (ap₂ (λ a b. a && b) lost.calm (ap (λ m. (g.M.Wreck.MetaRuin.watch m).only_armed) lost.meta ∙ still_armed g.M.Wreck.MetaRuin.watch watch c.in-Err.lost c.in-Err.ensures.watched)) (λ only. for_memory g.M.Wreck.MetaRuin.watch watch c.in-Err.lost c.requires.quiet c.in-Err.ensures.watched (and_right _ _ only));
    }
