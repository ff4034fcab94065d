use Rattle.std.proofs.Common.{◌∙◌, ◌&&◌, ap, refl}
use Rattle.mar_model.specs.Cached.{epoch_of}
use Rattle.mar_cache.specs.Bounds.{bounds_of}
use Rattle.mar_cache.specs.Shelved.{shelf_watch}
use Rattle.mar_cache.proofs.Exits.{err_is, no_ok, not_above, not_below}
use Rattle.mar_cache.proofs.Watched.{heeds_exit, heeds_exit_then, never_faults}
use Rattle.mar_cache.proofs.manager.Manager.put_and_start.Goals as goal

pub returns-in_err-manager : goal.returns-in_err-manager
returns-in_err-manager g c = record {
  ready = λ low. no_ok c.from_residual.result _ _ c.from_residual.ensures.1;
  done = λ above. no_ok c.from_residual.result _ _ c.from_residual.ensures.1;
  raises = λ above. no_ok c.from_residual.result _ _ c.from_residual.ensures.1;
  ways = err_is c.from_residual.result _ _ c.from_residual.ensures.1 c.in_err-manager.ensures.ways;
  bounds = err_is c.from_residual.result _ _ c.from_residual.ensures.1 c.in_err-manager.ensures.bounds;
  written = err_is c.from_residual.result _ _ c.from_residual.ensures.1 (λ fault only long. c.in_err-manager.ensures.written long);
  watched = heeds_exit _ _ _ c.from_residual.result _ c.from_residual.ensures.1 c.in_err-manager.ensures.watched;
}

pub returns-then-epoch-lowest : goal.returns-then-epoch-lowest
returns-then-epoch-lowest g c = record {
  ready = λ low. (refl, c.in_ok-manager.ensures.epochs, c.in_ok-manager.ensures.meta);
  done = λ above. absurd (not_above _ _ _ _ c.if-epoch-lowest.true (c.get-epoch.ensures.value ∙ c.epoch.ensures ∙ ap (λ x. epoch_of (g.S.Entry.AsEntry.plain x)) c.in_ok-manager.ensures.entry) (c.lowest.ensures ∙ ap (λ m. (bounds_of (g.M.Meta.current m)).lowest) c.in_ok-manager.ensures.meta) above);
  raises = λ above. absurd (not_above _ _ _ _ c.if-epoch-lowest.true (c.get-epoch.ensures.value ∙ c.epoch.ensures ∙ ap (λ x. epoch_of (g.S.Entry.AsEntry.plain x)) c.in_ok-manager.ensures.entry) (c.lowest.ensures ∙ ap (λ m. (bounds_of (g.M.Meta.current m)).lowest) c.in_ok-manager.ensures.meta) above);
  ways = tt;
  bounds = tt;
  written = tt;
  watched = c.in_ok-manager.ensures.watched;
}

pub returns-in_err-manager-2 : goal.returns-in_err-manager-2
returns-in_err-manager-2 g c = record {
  ready = λ low. no_ok c.from_residual-in_err-manager-2.result _ _ c.from_residual-in_err-manager-2.ensures.1;
  done = λ above. no_ok c.from_residual-in_err-manager-2.result _ _ c.from_residual-in_err-manager-2.ensures.1;
  raises = λ above. no_ok c.from_residual-in_err-manager-2.result _ _ c.from_residual-in_err-manager-2.ensures.1;
  ways = err_is c.from_residual-in_err-manager-2.result _ _ c.from_residual-in_err-manager-2.ensures.1 (rw (← c.in_ok-manager.ensures.epochs, ← c.in_ok-manager.ensures.entry) c.in_err-manager-2.ensures.ways);
  bounds = err_is c.from_residual-in_err-manager-2.result _ _ c.from_residual-in_err-manager-2.ensures.1 (rw (← c.in_ok-manager.ensures.meta, ← c.in_ok-manager.ensures.entry) c.in_err-manager-2.ensures.bounds);
  written = err_is c.from_residual-in_err-manager-2.result _ _ c.from_residual-in_err-manager-2.ensures.1 (λ fault only. absurd (never_faults (λ w. shelf_watch g.S.Epochs.keeps w.alarm (g.S.Wreck.EpochsRuin.calm w.epochs && (g.M.Wreck.MetaRuin.watch w.meta).only_armed)) (shelf_watch g.S.Epochs.keeps c.args.self.alarm (g.S.Epochs.calm c.args.self.epochs && (g.M.Meta.watch c.args.self.meta).only_armed)) _ _ c.in_ok-manager.ensures.watched.1 c.in_err-manager-2.ensures.watched fault only));
  watched = heeds_exit_then _ _ (shelf_watch g.S.Epochs.keeps c.args.self.alarm (g.S.Epochs.calm c.args.self.epochs && (g.M.Meta.watch c.args.self.meta).only_armed)) _ c.from_residual-in_err-manager-2.result _ c.from_residual-in_err-manager-2.ensures.1 c.in_ok-manager.ensures.watched.0 c.in_ok-manager.ensures.watched.1 c.in_err-manager-2.ensures.watched;
}

pub returns : goal.returns
returns g c = record {
  ready = λ low. absurd (not_below _ _ _ _ c.if-epoch-lowest.false (c.get-epoch.ensures.value ∙ c.epoch.ensures ∙ ap (λ x. epoch_of (g.S.Entry.AsEntry.plain x)) c.in_ok-manager.ensures.entry) (c.lowest.ensures ∙ ap (λ m. (bounds_of (g.M.Meta.current m)).lowest) c.in_ok-manager.ensures.meta) low);
  done = λ above. (rw (← c.in_ok-manager.ensures.epochs, ← c.in_ok-manager.ensures.entry) c.in_ok-manager-2.ensures.done, rw (c.get-epoch.ensures.value ∙ c.epoch.ensures, c.section-section.ensures, c.in_ok-manager.ensures.entry) at c.started-started.ensures);
  raises = λ above. rw (← c.in_ok-manager.ensures.meta, ← c.in_ok-manager.ensures.entry) c.in_ok-manager-2.ensures.raises;
  ways = tt;
  bounds = tt;
  written = tt;
  watched = (c.in_ok-manager.ensures.watched.0, c.in_ok-manager-2.ensures.watched ∙ c.in_ok-manager.ensures.watched.1);
}
