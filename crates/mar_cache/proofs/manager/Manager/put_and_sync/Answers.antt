use Rattle.std.proofs.Common.{[], ◌∷◌, ◌∙◌, ap, map, refl, ◌&&◌}
use Rattle.std.proofs.lemmas.Result.{IfErr-weaker, IfOk-weaker}
use Rattle.mar_model.specs.Cached.{epoch_of}
use Rattle.mar_cache.specs.Bounds.{bounds_of}
use Rattle.mar_cache.specs.Shelved.{at_epoch, nothing_gone, raised, shelf_watch}
use Rattle.mar_epochs.specs.declared.Change.TheVariants.{Put}
use Rattle.mar_cache.proofs.Exits.{err_is, no_ok, not_above, not_below}
use Rattle.mar_epochs.proofs.Filtering.{contains_none}
use Rattle.mar_cache.proofs.Shelving.{at_own, does_grow, does_then, end_bounds, end_leaves}
use Rattle.mar_cache.proofs.Watched.{ends_calmly, heeds_exit, heeds_exit_then, heeds_then, never_faults}
use Rattle.mar_cache.proofs.manager.Manager.put_and_sync.Goals as goal

pub returns-in_err-manager : goal.returns-in_err-manager
returns-in_err-manager g c = record {
  ready = λ low. no_ok c.from_residual.result _ _ c.from_residual.ensures.1;
  done = λ above. no_ok c.from_residual.result _ _ c.from_residual.ensures.1;
  raises = λ above. no_ok c.from_residual.result _ _ c.from_residual.ensures.1;
  ways = err_is c.from_residual.result _ _ c.from_residual.ensures.1 c.in_err-manager.ensures.ways;
  bounds = err_is c.from_residual.result _ _ c.from_residual.ensures.1 c.in_err-manager.ensures.bounds;
  written = err_is c.from_residual.result _ _ c.from_residual.ensures.1 (λ fault only long. c.in_err-manager.ensures.written long);
  watched = heeds_exit _ _ _ c.from_residual.result _ c.from_residual.ensures.1 c.in_err-manager.ensures.watched;
}

pub returns-then-epoch-lowest : goal.returns-then-epoch-lowest
returns-then-epoch-lowest g c = record {
  ready = λ low. (c.in_ok-manager.ensures.epochs, c.in_ok-manager.ensures.meta);
  done = λ above. absurd (not_above _ _ _ _ c.if-epoch-lowest.true (c.get-epoch.ensures.value ∙ c.epoch.ensures ∙ ap (λ x. epoch_of (g.S.Entry.AsEntry.plain x)) c.in_ok-manager.ensures.entry) (c.lowest.ensures ∙ ap (λ m. (bounds_of (g.M.Meta.current m)).lowest) c.in_ok-manager.ensures.meta) above);
  raises = λ above. absurd (not_above _ _ _ _ c.if-epoch-lowest.true (c.get-epoch.ensures.value ∙ c.epoch.ensures ∙ ap (λ x. epoch_of (g.S.Entry.AsEntry.plain x)) c.in_ok-manager.ensures.entry) (c.lowest.ensures ∙ ap (λ m. (bounds_of (g.M.Meta.current m)).lowest) c.in_ok-manager.ensures.meta) above);
  ways = tt;
  bounds = tt;
  written = tt;
  watched = c.in_ok-manager.ensures.watched;
}

pub returns-in_err-manager-2 : goal.returns-in_err-manager-2
returns-in_err-manager-2 g c = record {
  ready = λ low. no_ok c.from_residual-in_err-manager-2.result _ _ c.from_residual-in_err-manager-2.ensures.1;
  done = λ above. no_ok c.from_residual-in_err-manager-2.result _ _ c.from_residual-in_err-manager-2.ensures.1;
  raises = λ above. no_ok c.from_residual-in_err-manager-2.result _ _ c.from_residual-in_err-manager-2.ensures.1;
  ways = err_is c.from_residual-in_err-manager-2.result _ _ c.from_residual-in_err-manager-2.ensures.1 (rw (← c.in_ok-manager.ensures.epochs, ← c.in_ok-manager.ensures.entry) c.in_err-manager-2.ensures.ways);
  bounds = err_is c.from_residual-in_err-manager-2.result _ _ c.from_residual-in_err-manager-2.ensures.1 (rw (← c.in_ok-manager.ensures.meta, ← c.in_ok-manager.ensures.entry) c.in_err-manager-2.ensures.bounds);
  written = err_is c.from_residual-in_err-manager-2.result _ _ c.from_residual-in_err-manager-2.ensures.1 (λ fault only. absurd (never_faults (λ w. shelf_watch g.S.Epochs.keeps w.alarm (g.S.Wreck.EpochsRuin.calm w.epochs && (g.M.Wreck.MetaRuin.watch w.meta).only_armed)) (shelf_watch g.S.Epochs.keeps c.args.self.alarm (g.S.Epochs.calm c.args.self.epochs && (g.M.Meta.watch c.args.self.meta).only_armed)) _ _ c.in_ok-manager.ensures.watched.1 c.in_err-manager-2.ensures.watched fault only));
  watched = heeds_exit_then _ _ (shelf_watch g.S.Epochs.keeps c.args.self.alarm (g.S.Epochs.calm c.args.self.epochs && (g.M.Meta.watch c.args.self.meta).only_armed)) _ c.from_residual-in_err-manager-2.result _ c.from_residual-in_err-manager-2.ensures.1 c.in_ok-manager.ensures.watched.0 c.in_ok-manager.ensures.watched.1 c.in_err-manager-2.ensures.watched;
}

pub returns : goal.returns
returns g c = record {
  ready = λ low. absurd (not_below _ _ _ _ c.if-epoch-lowest.false (c.get-epoch.ensures.value ∙ c.epoch.ensures ∙ ap (λ x. epoch_of (g.S.Entry.AsEntry.plain x)) c.in_ok-manager.ensures.entry) (c.lowest.ensures ∙ ap (λ m. (bounds_of (g.M.Meta.current m)).lowest) c.in_ok-manager.ensures.meta) low);
  done = λ above.
      let m = c.in_ok-manager.manager in
      let n = c.in_ok-manager-2.manager in
      rw (← c.in_ok-manager.ensures.epochs, ← c.in_ok-manager.ensures.entry) (does_then g.S.Entry.AsEntry.plain (λ s. g.S.Epochs.states s.epochs) _ (epoch_of (g.S.Entry.AsEntry.plain c.in_ok-manager.entry)) (Put c.in_ok-manager.entry) _ (g.S.Epochs.states m.epochs) (g.S.Epochs.states n.epochs) c.change.result c.in_ok-manager-2.ensures.done (rw (c.get-epoch.ensures.value ∙ c.epoch.ensures, c.section-section.ensures) at c.change.ensures.done));
  raises = λ above. rw (← c.in_ok-manager.ensures.meta, ← c.in_ok-manager.ensures.entry) (IfOk-weaker c.change.result _ _ (λ m same. (ap (λ s. bounds_of (g.M.Meta.current s)) same ∙ c.in_ok-manager-2.ensures.raises.0, ap (λ s. map bounds_of (g.M.Meta.left s)) same ∙ c.in_ok-manager-2.ensures.raises.1)) c.change.ensures.meta);
  ways =
      let e = c.get-epoch.result in
      let m = c.in_ok-manager.manager in
      let n = c.in_ok-manager-2.manager in
      rw (← c.in_ok-manager.ensures.epochs, ← c.in_ok-manager.ensures.entry, ← (c.get-epoch.ensures.value ∙ c.epoch.ensures)) (end_leaves _ (λ w. g.S.Wreck.EpochsRuin.left w.epochs) (at_epoch e (g.S.Entry.AsEntry.plain c.in_ok-manager.entry ∷ [])) nothing_gone e [] _ (g.S.Epochs.states m.epochs) (g.S.Epochs.states n.epochs) c.change.result (g.met.S.Epochs.nested n.epochs) (λ x has. contains_none x has) (λ x stays. refl)
      (does_grow g.S.Entry.AsEntry.plain (Put c.in_ok-manager.entry) (at_epoch e (g.S.Entry.AsEntry.plain c.in_ok-manager.entry ∷ [])) nothing_gone e (g.S.Epochs.states m.epochs) (g.S.Epochs.states n.epochs) (at_own e (g.S.Entry.AsEntry.plain c.in_ok-manager.entry ∷ [])) (λ x stays. refl) (rw (← (c.get-epoch.ensures.value ∙ c.epoch.ensures)) at c.in_ok-manager-2.ensures.done))
      c.change.ensures.done);
  bounds =
      let e = epoch_of (g.S.Entry.AsEntry.plain c.in_ok-manager.entry) in
      let m = c.in_ok-manager.manager in
      let n = c.in_ok-manager-2.manager in
      rw (← c.in_ok-manager.ensures.meta, ← c.in_ok-manager.ensures.entry) (end_bounds (λ w. map bounds_of (g.M.Wreck.MetaRuin.left w.meta)) _ (map bounds_of (g.M.Meta.left m.meta)) (raised e (bounds_of (g.M.Meta.current m.meta))) (map bounds_of (g.M.Meta.left n.meta)) c.change.result c.in_ok-manager-2.ensures.raises.1 (IfErr-weaker c.change.result _ _ (λ l is. ap (map bounds_of) is) c.change.ensures.bounds));
  written = ends_calmly (λ m. shelf_watch g.S.Epochs.keeps m.alarm (g.S.Epochs.calm m.epochs && (g.M.Meta.watch m.meta).only_armed)) (λ w. shelf_watch g.S.Epochs.keeps w.alarm (g.S.Wreck.EpochsRuin.calm w.epochs && (g.M.Wreck.MetaRuin.watch w.meta).only_armed)) (shelf_watch g.S.Epochs.keeps c.args.self.alarm (g.S.Epochs.calm c.args.self.epochs && (g.M.Meta.watch c.args.self.meta).only_armed)) _ c.change.result _ (c.in_ok-manager-2.ensures.watched ∙ c.in_ok-manager.ensures.watched.1) c.change.ensures.watched;
  watched = heeds_then (λ m. shelf_watch g.S.Epochs.keeps m.alarm (g.S.Epochs.calm m.epochs && (g.M.Meta.watch m.meta).only_armed)) (λ w. shelf_watch g.S.Epochs.keeps w.alarm (g.S.Wreck.EpochsRuin.calm w.epochs && (g.M.Wreck.MetaRuin.watch w.meta).only_armed)) (shelf_watch g.S.Epochs.keeps c.args.self.alarm (g.S.Epochs.calm c.args.self.epochs && (g.M.Meta.watch c.args.self.meta).only_armed)) _ c.change.result c.in_ok-manager.ensures.watched.0 (c.in_ok-manager-2.ensures.watched ∙ c.in_ok-manager.ensures.watched.1) c.change.ensures.watched;
}
