use Rattle.std.proofs.Common.{[], ap, subst, ◌∙◌, ◌&&◌}
use Rattle.std.proofs.lemmas.Result.{IfErr-weaker, IfOk-weaker}
use Rattle.mar_model.specs.Cache.{is_certified_below}
use Rattle.mar_cache.specs.Shelved.{ThinsEpoch, shelf_watch}
use Rattle.mar_cache.proofs.Exits.{err_is, no_ok}
use Rattle.mar_cache.proofs.Shelving.{fallen_leaves, same_leaves}
use Rattle.mar_cache.proofs.Thinning.{clear_if}
use Rattle.mar_cache.proofs.Watched.{heeds_exit, heeds_exit_then, heeds_then}
use Rattle.mar_cache.proofs.manager.Manager.prune_by_height.Goals as goal

pub returns-in_err-manager : goal.returns-in_err-manager
returns-in_err-manager g c = record {
  done = no_ok c.from_residual.result _ _ c.from_residual.ensures.1;
  clear = no_ok c.from_residual.result _ _ c.from_residual.ensures.1;
  meta = no_ok c.from_residual.result _ _ c.from_residual.ensures.1;
  ways = err_is c.from_residual.result _ _ c.from_residual.ensures.1 (fallen_leaves (λ k. []) (λ k. is_certified_below c.args.height) (g.S.Epochs.states c.args.self.epochs) (g.met.S.Epochs.nested c.args.self.epochs) _ c.in_err-manager.ensures.ways);
  bounds = err_is c.from_residual.result _ _ c.from_residual.ensures.1 c.in_err-manager.ensures.bounds;
  watched = heeds_exit _ _ _ c.from_residual.result _ c.from_residual.ensures.1 c.in_err-manager.ensures.watched;
}

pub returns-in_err-manager-2 : goal.returns-in_err-manager-2
returns-in_err-manager-2 g c = record {
  done = no_ok c.from_residual-in_err-manager-2.result _ _ c.from_residual-in_err-manager-2.ensures.1;
  clear = no_ok c.from_residual-in_err-manager-2.result _ _ c.from_residual-in_err-manager-2.ensures.1;
  meta = no_ok c.from_residual-in_err-manager-2.result _ _ c.from_residual-in_err-manager-2.ensures.1;
  ways =
      let m = c.in_ok-manager.manager in
      err_is c.from_residual-in_err-manager-2.result _ _ c.from_residual-in_err-manager-2.ensures.1 (rw (← c.in_ok-manager.ensures.epochs) (fallen_leaves (λ k. []) (λ k. is_certified_below c.args.height) (g.S.Epochs.states m.epochs) (g.met.S.Epochs.nested m.epochs) _ c.in_err-manager-2.ensures.ways));
  bounds = err_is c.from_residual-in_err-manager-2.result _ _ c.from_residual-in_err-manager-2.ensures.1 (c.in_err-manager-2.ensures.bounds ∙ ap g.M.Meta.left c.in_ok-manager.ensures.meta);
  watched = heeds_exit_then _ _ (shelf_watch g.S.Epochs.keeps c.args.self.alarm (g.S.Epochs.calm c.args.self.epochs && (g.M.Meta.watch c.args.self.meta).only_armed)) _ c.from_residual-in_err-manager-2.result _ c.from_residual-in_err-manager-2.ensures.1 c.in_ok-manager.ensures.watched.0 (c.in_ok-manager.ensures.watched.1) c.in_err-manager-2.ensures.watched;
}

pub returns : goal.returns
returns g c = record {
  done = rw (← c.in_ok-manager.ensures.epochs) (IfOk-weaker c.prune_all.result _ _ (λ r thins k. subst (λ t. ThinsEpoch (is_certified_below c.args.height) t (g.S.Epochs.states r.epochs k)) (c.in_ok-manager-2.ensures.same.0 k) (thins k)) c.prune_all.ensures.done);
  clear = clear_if (is_certified_below c.args.height) (λ r. g.S.Epochs.states r.epochs) (g.S.Epochs.states c.in_ok-manager.manager.epochs) (g.S.Epochs.states c.in_ok-manager-2.manager.epochs) c.deref.result.now c.prune_all.result c.in_ok-manager-2.ensures.same.0 c.prune_all.ensures.done c.prune_all.ensures.clear (rw (← c.deref.ensures.value) at c.in_ok-manager-2.ensures.found);
  meta = IfOk-weaker c.prune_all.result _ _ (λ m same. same ∙ c.in_ok-manager-2.ensures.same.1 ∙ c.in_ok-manager.ensures.meta) c.prune_all.ensures.meta;
  ways =
      let m = c.in_ok-manager.manager.epochs in
      let n = c.in_ok-manager-2.manager.epochs in
      rw (← c.in_ok-manager.ensures.epochs) (same_leaves (λ w. g.S.Wreck.EpochsRuin.left w.epochs) (λ k. []) (λ k. is_certified_below c.args.height) (g.S.Epochs.states m) (g.S.Epochs.states n) c.prune_all.result c.in_ok-manager-2.ensures.same.0 c.prune_all.ensures.ways);
  bounds = IfErr-weaker c.prune_all.result _ _ (λ l same. same ∙ ap g.M.Meta.left (c.in_ok-manager-2.ensures.same.1 ∙ c.in_ok-manager.ensures.meta)) c.prune_all.ensures.bounds;
  watched = heeds_then (λ m. shelf_watch g.S.Epochs.keeps m.alarm (g.S.Epochs.calm m.epochs && (g.M.Meta.watch m.meta).only_armed)) (λ w. shelf_watch g.S.Epochs.keeps w.alarm (g.S.Wreck.EpochsRuin.calm w.epochs && (g.M.Wreck.MetaRuin.watch w.meta).only_armed)) (shelf_watch g.S.Epochs.keeps c.args.self.alarm (g.S.Epochs.calm c.args.self.epochs && (g.M.Meta.watch c.args.self.meta).only_armed)) _ c.prune_all.result c.in_ok-manager.ensures.watched.0 (c.in_ok-manager-2.ensures.watched ∙ c.in_ok-manager.ensures.watched.1) c.prune_all.ensures.watched;
}
