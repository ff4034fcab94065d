use Rattle.std.proofs.Common.{◌≡◌, ◌∙◌, ◌&&◌, [], ap, false, subst, sym, true}
use Rattle.std.proofs.lemmas.Result.{IfErr-weaker, IfOk-weaker}
use Rattle.mar_cache.specs.Bounds.{bounds_of, includes}
use Rattle.mar_epochs.specs.EpochStates.{HasSome}
use Rattle.mar_cache.specs.Shelved.{OpensOrStays, nothing_gone, shelf_watch}
use Rattle.mar_cache.proofs.Exits.{err_is, no_ok}
use Rattle.mar_cache.proofs.LuckyLoads.{picks_from}
use Rattle.mar_cache.proofs.Shelving.{fallen_leaves, same_leaves}
use Rattle.mar_cache.proofs.Watched.{heeds_exit, heeds_exit_then, heeds_then}
use Rattle.mar_cache.proofs.manager.Manager.load_persisted_epochs.Goals as goal

pub returns-in_err-manager : goal.returns-in_err-manager
returns-in_err-manager g c = record {
  done = no_ok c.from_residual.result _ _ c.from_residual.ensures.1;
  opened = λ k some. no_ok c.from_residual.result _ _ c.from_residual.ensures.1;
  picked = no_ok c.from_residual.result _ _ c.from_residual.ensures.1;
  stays = λ k outside. no_ok c.from_residual.result _ _ c.from_residual.ensures.1;
  shut = λ k unlisted. no_ok c.from_residual.result _ _ c.from_residual.ensures.1;
  meta = no_ok c.from_residual.result _ _ c.from_residual.ensures.1;
  ways = err_is c.from_residual.result _ _ c.from_residual.ensures.1 (fallen_leaves (λ k. []) nothing_gone (g.S.Epochs.states c.args.self.epochs) (g.met.S.Epochs.nested c.args.self.epochs) _ c.in_err-manager.ensures.ways);
  bounds = err_is c.from_residual.result _ _ c.from_residual.ensures.1 c.in_err-manager.ensures.bounds;
  watched = heeds_exit _ _ _ c.from_residual.result _ c.from_residual.ensures.1 c.in_err-manager.ensures.watched;
}

pub returns-in_err-manager-2 : goal.returns-in_err-manager-2
returns-in_err-manager-2 g c = record {
  done = no_ok c.from_residual-in_err-manager-2.result _ _ c.from_residual-in_err-manager-2.ensures.1;
  opened = λ k some. no_ok c.from_residual-in_err-manager-2.result _ _ c.from_residual-in_err-manager-2.ensures.1;
  picked = no_ok c.from_residual-in_err-manager-2.result _ _ c.from_residual-in_err-manager-2.ensures.1;
  stays = λ k outside. no_ok c.from_residual-in_err-manager-2.result _ _ c.from_residual-in_err-manager-2.ensures.1;
  shut = λ k unlisted. no_ok c.from_residual-in_err-manager-2.result _ _ c.from_residual-in_err-manager-2.ensures.1;
  meta = no_ok c.from_residual-in_err-manager-2.result _ _ c.from_residual-in_err-manager-2.ensures.1;
  ways =
      let m = c.in_ok-manager.manager in
      err_is c.from_residual-in_err-manager-2.result _ _ c.from_residual-in_err-manager-2.ensures.1 (rw (← c.in_ok-manager.ensures.epochs) (fallen_leaves (λ k. []) nothing_gone (g.S.Epochs.states m.epochs) (g.met.S.Epochs.nested m.epochs) _ c.in_err-manager-2.ensures.ways));
  bounds = err_is c.from_residual-in_err-manager-2.result _ _ c.from_residual-in_err-manager-2.ensures.1 (c.in_err-manager-2.ensures.bounds ∙ ap g.M.Meta.left c.in_ok-manager.ensures.meta);
  watched = heeds_exit_then _ _ (shelf_watch g.S.Epochs.keeps c.args.self.alarm (g.S.Epochs.calm c.args.self.epochs && (g.M.Meta.watch c.args.self.meta).only_armed)) _ c.from_residual-in_err-manager-2.result _ c.from_residual-in_err-manager-2.ensures.1 c.in_ok-manager.ensures.watched.0 (c.in_ok-manager.ensures.watched.1) c.in_err-manager-2.ensures.watched;
}

pub returns : goal.returns
returns g c = record {
  done = rw (← c.in_ok-manager.ensures.epochs) (IfOk-weaker c.open_all.result _ _ (λ m stays k. subst (λ t. OpensOrStays t (g.S.Epochs.states m.epochs k)) (c.in_ok-manager-2.ensures.same.0 k) (stays k)) c.open_all.ensures.done);
  opened = λ k some.
      let found = (rw (← c.deref.ensures.value) at c.in_ok-manager-2.ensures.found) in
      let there : HasSome (g.S.Epochs.states c.in_ok-manager.manager.epochs k) = subst (λ s. HasSome (g.S.Epochs.states s k)) (sym c.in_ok-manager.ensures.epochs) some in
      c.open_all.ensures.opened k ((c.in_ok-manager-2.manager.within k).inside (subst HasSome (sym (c.in_ok-manager-2.ensures.same.0 k)) there)) (found k there);
  picked = rw (← c.in_ok-manager.ensures.epochs) (picks_from (λ m. g.S.Epochs.states m.epochs) (g.S.Epochs.picks c.in_ok-manager.manager.epochs) (g.S.Epochs.picks c.in_ok-manager-2.manager.epochs) (g.S.Epochs.states c.in_ok-manager.manager.epochs) (g.S.Epochs.states c.in_ok-manager-2.manager.epochs) c.open_all.result c.in_ok-manager-2.ensures.picks c.in_ok-manager-2.ensures.same.0 c.open_all.ensures.picked);
  stays = λ k outside.
      let meta = c.in_ok-manager-2.ensures.same.1 ∙ c.in_ok-manager.ensures.meta in
      IfOk-weaker c.open_all.result _ _ (λ m same. same ∙ c.in_ok-manager-2.ensures.same.0 k ∙ ap (λ s. g.S.Epochs.states s k) c.in_ok-manager.ensures.epochs) (c.open_all.ensures.stays k (subst (λ t. includes (bounds_of (g.M.Meta.current t)) k ≡ false) (sym meta) outside));
  shut = λ k unlisted.
      let only = (rw (← c.deref.ensures.value) at c.in_ok-manager-2.ensures.only) in
      let none : g.S.Epochs.lists c.in_ok-manager.manager.epochs k ≡ false = ap (λ s. g.S.Epochs.lists s k) c.in_ok-manager.ensures.epochs ∙ unlisted in
      IfOk-weaker c.open_all.result _ _ (λ m same. same ∙ c.in_ok-manager-2.ensures.same.0 k ∙ ap (λ s. g.S.Epochs.states s k) c.in_ok-manager.ensures.epochs) (c.open_all.ensures.others k (λ has. let clash : true ≡ false = sym (only k has) ∙ none in cc));
  meta = IfOk-weaker c.open_all.result _ _ (λ m same. same ∙ c.in_ok-manager-2.ensures.same.1 ∙ c.in_ok-manager.ensures.meta) c.open_all.ensures.meta;
  ways =
      let m = c.in_ok-manager.manager.epochs in
      let n = c.in_ok-manager-2.manager.epochs in
      rw (← c.in_ok-manager.ensures.epochs) (same_leaves (λ w. g.S.Wreck.EpochsRuin.left w.epochs) (λ k. []) nothing_gone (g.S.Epochs.states m) (g.S.Epochs.states n) c.open_all.result c.in_ok-manager-2.ensures.same.0 c.open_all.ensures.ways);
  bounds = IfErr-weaker c.open_all.result _ _ (λ l same. same ∙ ap g.M.Meta.left (c.in_ok-manager-2.ensures.same.1 ∙ c.in_ok-manager.ensures.meta)) c.open_all.ensures.bounds;
  watched = heeds_then (λ m. shelf_watch g.S.Epochs.keeps m.alarm (g.S.Epochs.calm m.epochs && (g.M.Meta.watch m.meta).only_armed)) (λ w. shelf_watch g.S.Epochs.keeps w.alarm (g.S.Wreck.EpochsRuin.calm w.epochs && (g.M.Wreck.MetaRuin.watch w.meta).only_armed)) (shelf_watch g.S.Epochs.keeps c.args.self.alarm (g.S.Epochs.calm c.args.self.epochs && (g.M.Meta.watch c.args.self.meta).only_armed)) _ c.open_all.result c.in_ok-manager.ensures.watched.0 (c.in_ok-manager-2.ensures.watched ∙ c.in_ok-manager.ensures.watched.1) c.open_all.ensures.watched;
}
