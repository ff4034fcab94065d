use Rattle.std.proofs.Common.{[], ◌≡◌, ◌∷◌, ◌∙◌, ◌≤◌, ◌&&◌, true, ap, map, refl, subst, sym}
use Rattle.std.proofs.lemmas.Result.{IfErr-weaker, IfOk-weaker}
use Rattle.mar_cache.specs.Bounds.{bounds_of, includes}
use Rattle.mar_cache.specs.Shelved.{at_epoch, nothing_gone, raised, shelf_watch}
use Rattle.mar_epochs.specs.declared.Change.TheVariants.{Put}
use Rattle.mar_cache.proofs.Exits.{err_is, no_ok}
use Rattle.mar_epochs.proofs.Filtering.{contains_none}
use Rattle.mar_cache.proofs.Shelving.{at_own, does_once, end_bounds, end_leaves, fallen_leaves, grows_at, loses_leaves, opens_grows, raised_within}
use Rattle.mar_cache.proofs.Watched.{calm_exit, calm_exit_then, calm_then}
use Rattle.mar_cache.proofs.Within.{raised_includes}
use Rattle.mar_cache.proofs.manager.Manager.put.Goals as goal

pub open-requires : goal.open-requires
open-requires g c =
    let e = c.get-epoch.result in
    let b = bounds_of (g.M.Meta.current c.args.self.meta) in
    record { inside = subst (λ d. includes d e ≡ true) (sym c.in_ok-manager.ensures.raises.0) (raised_includes b e (subst (λ n. b.lowest ≤ n) (sym (c.get-epoch.ensures.value ∙ c.epoch.ensures)) c.requires.above)) }

pub returns-in_err-manager : goal.returns-in_err-manager
returns-in_err-manager g c = record {
  done = no_ok c.from_residual.result _ _ c.from_residual.ensures.1;
  raises = no_ok c.from_residual.result _ _ c.from_residual.ensures.1;
  ways =
      let e = c.get-epoch.result in
      err_is c.from_residual.result _ _ c.from_residual.ensures.1 (rw (← (c.get-epoch.ensures.value ∙ c.epoch.ensures)) (fallen_leaves (at_epoch e (g.S.Entry.AsEntry.plain c.args.entry ∷ [])) nothing_gone (g.S.Epochs.states c.args.self.epochs) (g.met.S.Epochs.nested c.args.self.epochs) _ c.in_err-manager.ensures.ways));
  bounds = err_is c.from_residual.result _ _ c.from_residual.ensures.1 (rw (← (c.get-epoch.ensures.value ∙ c.epoch.ensures)) c.in_err-manager.ensures.bounds.within);
  watched = calm_exit _ _ _ c.from_residual.result _ c.from_residual.ensures.1 c.in_err-manager.ensures.watched;
}

pub returns-in_err-manager-2 : goal.returns-in_err-manager-2
returns-in_err-manager-2 g c = record {
  done = no_ok c.from_residual-in_err-manager-2.result _ _ c.from_residual-in_err-manager-2.ensures.1;
  raises = no_ok c.from_residual-in_err-manager-2.result _ _ c.from_residual-in_err-manager-2.ensures.1;
  ways =
      let e = c.get-epoch.result in
      let m = c.in_ok-manager.manager in
      err_is c.from_residual-in_err-manager-2.result _ _ c.from_residual-in_err-manager-2.ensures.1 (rw (← c.in_ok-manager.ensures.epochs, ← (c.get-epoch.ensures.value ∙ c.epoch.ensures)) (loses_leaves (at_epoch e (g.S.Entry.AsEntry.plain c.args.entry ∷ [])) nothing_gone (g.S.Epochs.states m.epochs) (g.met.S.Epochs.nested m.epochs) e [] _ _ (λ x has. contains_none x has) (λ x stays. refl) c.in_err-manager-2.ensures.done));
  bounds =
      let e = c.get-epoch.result in
      err_is c.from_residual-in_err-manager-2.result _ _ c.from_residual-in_err-manager-2.ensures.1 (rw (c.in_err-manager-2.ensures.bounds, ← (c.get-epoch.ensures.value ∙ c.epoch.ensures)) (raised_within _ (map bounds_of (g.M.Meta.left c.args.self.meta)) (raised e (bounds_of (g.M.Meta.current c.args.self.meta))) _ c.in_ok-manager.ensures.raises.1));
  watched = calm_exit_then _ _ (shelf_watch g.S.Epochs.keeps c.args.self.alarm (g.S.Epochs.calm c.args.self.epochs && (g.M.Meta.watch c.args.self.meta).only_armed)) _ c.from_residual-in_err-manager-2.result _ c.from_residual-in_err-manager-2.ensures.1 c.in_ok-manager.ensures.watched c.in_err-manager-2.ensures.watched;
}

pub returns : goal.returns
returns g c = record {
  done =
      let m = c.in_ok-manager.manager in
      let n = c.in_ok-manager-2.manager in
      rw (← c.in_ok-manager.ensures.epochs, ← (c.get-epoch.ensures.value ∙ c.epoch.ensures)) (does_once g.S.Entry.AsEntry.plain (λ s. g.S.Epochs.states s.epochs) _ c.get-epoch.result (Put c.args.entry) (g.S.Epochs.states m.epochs) (g.S.Epochs.states n.epochs) c.change.result c.in_ok-manager-2.ensures.done c.change.ensures.done);
  raises =
      let raises = c.in_ok-manager.ensures.raises in
      rw (← (c.get-epoch.ensures.value ∙ c.epoch.ensures)) (IfOk-weaker c.change.result _ _ (λ s same. let is = same ∙ c.in_ok-manager-2.ensures.meta in (ap (λ t. bounds_of (g.M.Meta.current t)) is ∙ raises.0, ap (λ t. map bounds_of (g.M.Meta.left t)) is ∙ raises.1)) c.change.ensures.meta);
  ways =
      let e = c.get-epoch.result in
      let m = c.in_ok-manager.manager in
      let n = c.in_ok-manager-2.manager in
      rw (← c.in_ok-manager.ensures.epochs, ← (c.get-epoch.ensures.value ∙ c.epoch.ensures)) (end_leaves _ (λ w. g.S.Wreck.EpochsRuin.left w.epochs) (at_epoch e (g.S.Entry.AsEntry.plain c.args.entry ∷ [])) nothing_gone e (g.S.Entry.AsEntry.plain c.args.entry ∷ []) _ (g.S.Epochs.states m.epochs) (g.S.Epochs.states n.epochs) c.change.result (g.met.S.Epochs.nested n.epochs) (at_own e (g.S.Entry.AsEntry.plain c.args.entry ∷ [])) (λ x stays. refl)
      (grows_at (at_epoch e (g.S.Entry.AsEntry.plain c.args.entry ∷ [])) nothing_gone e (g.S.Epochs.states m.epochs) (g.S.Epochs.states n.epochs) (opens_grows ((at_epoch e (g.S.Entry.AsEntry.plain c.args.entry ∷ [])) e) (nothing_gone e) _ _ c.in_ok-manager-2.ensures.done.0) c.in_ok-manager-2.ensures.done.1)
      c.change.ensures.done);
  bounds =
      let e = c.get-epoch.result in
      rw (← (c.get-epoch.ensures.value ∙ c.epoch.ensures)) (end_bounds (λ w. map bounds_of (g.M.Wreck.MetaRuin.left w.meta)) _ (map bounds_of (g.M.Meta.left c.args.self.meta)) (raised e (bounds_of (g.M.Meta.current c.args.self.meta))) (map bounds_of (g.M.Meta.left c.in_ok-manager.manager.meta)) c.change.result c.in_ok-manager.ensures.raises.1 (IfErr-weaker c.change.result _ _ (λ l is. ap (map bounds_of) (is ∙ ap g.M.Meta.left c.in_ok-manager-2.ensures.meta)) c.change.ensures.bounds));
  watched = calm_then (λ m. shelf_watch g.S.Epochs.keeps m.alarm (g.S.Epochs.calm m.epochs && (g.M.Meta.watch m.meta).only_armed)) (λ w. shelf_watch g.S.Epochs.keeps w.alarm (g.S.Wreck.EpochsRuin.calm w.epochs && (g.M.Wreck.MetaRuin.watch w.meta).only_armed)) (shelf_watch g.S.Epochs.keeps c.args.self.alarm (g.S.Epochs.calm c.args.self.epochs && (g.M.Meta.watch c.args.self.meta).only_armed)) _ c.change.result (c.in_ok-manager-2.ensures.watched ∙ c.in_ok-manager.ensures.watched) c.change.ensures.watched;
}

pub change-requires : goal.change-requires
change-requires g c = record { own = (sym (c.get-epoch.ensures.value ∙ c.epoch.ensures), tt) }
