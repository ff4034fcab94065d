use Rattle.std.proofs.Common.{map, ◌∙◌, ◌∷◌, ◌&&◌, [], ap, ap₂, refl, subst, sym}
use Rattle.mar_cache.specs.Bounds.{bounds_of}
use Rattle.mar_cache.specs.Shelved.{LieWithin, shelf_watch}
use Rattle.mar_cache.proofs.Watched.{calm_armed, calm_memory, lost_calm}
use Rattle.mar_epochs.proofs.Unarmed.{and_right}
use Rattle.mar_cache.proofs.Within.{still_quiet, written_within}
use Rattle.mar_cache.proofs.manager.Manager.keep_bounds.Goals as goal

pub write_bounds-requires : goal.write_bounds-requires
write_bounds-requires g c = record { unchanged = c.args.self.unchanged; quiet = c.args.self.quiet }

pub invariant_of-result : goal.invariant_of-result
invariant_of-result g c = record {
  unchanged = c.in-Ok.ensures.changes;
  quiet = ap (λ w. w.due) c.in-Ok.ensures.watched ∙ c.args.self.quiet;
  durable = ap (map bounds_of) c.in-Ok.ensures.done.1;
  within = subst (LieWithin (g.S.Epochs.states c.args.self.epochs)) (sym c.in-Ok.ensures.done.0) c.requires.within;
}

pub returns-in-Ok : goal.returns-in-Ok
returns-in-Ok g c = record {
  epochs = refl;
  done = (c.in-Ok.ensures.done.0, ap (map bounds_of) c.in-Ok.ensures.done.1 ∙ ap (λ b. b ∷ []) c.in-Ok.ensures.done.0);
  ways = tt;
  watched = ap (λ w. shelf_watch g.S.Epochs.keeps c.args.self.alarm (g.S.Epochs.calm c.args.self.epochs && w.only_armed)) c.in-Ok.ensures.watched;
}

pub lost_meta-requires : goal.lost_meta-requires
lost_meta-requires g c =
    let old = c.args.self in
    record {
      quiet = still_quiet g.M.Meta.watch g.M.Wreck.MetaRuin.watch (g.M.Meta.watch old.meta) c.in-Err.lost c.in-Err.ensures.watched ∙ old.quiet;
      within = written_within (g.S.Epochs.states old.epochs) (bounds_of (g.M.Meta.current old.meta)) (record { lowest = c.args.lowest; highest = c.args.highest }) (map bounds_of (g.M.Meta.left old.meta)) _ c.in-Err.ensures.done.within old.durable old.within c.requires.within;
    }

pub returns-in-Err : goal.returns-in-Err
returns-in-Err g c =
    let lost = c.lost_meta.ensures in
    let watch = g.M.Meta.watch c.args.self.meta in
    record {
      epochs = tt;
      done = rw lost.meta c.in-Err.ensures.done;
      ways = lost.ways;
      watched = lost_calm g.S.Epochs.keeps (λ w. w.alarm) (λ w. g.S.Wreck.EpochsRuin.calm w.epochs && (g.M.Wreck.MetaRuin.watch w.meta).only_armed) c.args.self.alarm _ _ c.lost_meta.result lost.fault lost.due lost.faults
          (ap₂ (λ a b. a && b) lost.calm (ap (λ m. (g.M.Wreck.MetaRuin.watch m).only_armed) lost.meta ∙ calm_armed g.M.Meta.watch g.M.Wreck.MetaRuin.watch watch c.in-Err.lost c.in-Err.ensures.watched)) (λ only. calm_memory g.M.Meta.watch g.M.Wreck.MetaRuin.watch watch c.in-Err.lost c.in-Err.ensures.watched (and_right _ _ only));
    }
