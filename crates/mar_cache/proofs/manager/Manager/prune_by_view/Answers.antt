use Rattle.std.proofs.Common.{◌∙◌, ap, map, subst, sym, ◌&&◌}
use Rattle.std.proofs.lemmas.Result.{IfErr-weaker, IfOk-weaker}
use Rattle.mar_cache.specs.Bounds.{bounds_of}
use Rattle.mar_epochs.specs.EpochStates.{IsBare}
use Rattle.mar_cache.specs.Shelved.{DropsOlder, shelf_watch}
use Rattle.mar_cache.proofs.Exits.{err_is, no_ok}
use Rattle.mar_cache.proofs.Shelving.{bounds_stay}
use Rattle.mar_cache.proofs.Views.{drops_more, fallen_drops, pruned_left, view_dropped, view_drops, view_leaves, view_newer, view_older, view_own, view_ways}
use Rattle.mar_cache.proofs.Watched.{heeds_exit, heeds_exit_then, heeds_then}
use Rattle.mar_cache.proofs.manager.Manager.prune_by_view.Goals as goal

pub returns-in_err-manager : goal.returns-in_err-manager
returns-in_err-manager g c =
    let old = g.S.Epochs.states c.args.self.epochs in
    let left = fallen_drops c.args.round.epoch old _ c.in_err-manager.ensures.ways in
    record {
      own = no_ok c.from_residual.result _ _ c.from_residual.ensures.1;
      newer = no_ok c.from_residual.result _ _ c.from_residual.ensures.1;
      older = no_ok c.from_residual.result _ _ c.from_residual.ensures.1;
      raises = no_ok c.from_residual.result _ _ c.from_residual.ensures.1;
      ways = err_is c.from_residual.result _ _ c.from_residual.ensures.1 (view_leaves c.args.round old (g.met.S.Epochs.nested c.args.self.epochs) _ left);
      dropped = err_is c.from_residual.result _ _ c.from_residual.ensures.1 (view_drops c.args.round old (g.met.S.Epochs.nested c.args.self.epochs) _ left);
      bounds = err_is c.from_residual.result _ _ c.from_residual.ensures.1 (rw c.in_err-manager.ensures.bounds (bounds_stay (map bounds_of (g.M.Meta.left c.args.self.meta)) _));
      watched = heeds_exit _ _ _ c.from_residual.result _ c.from_residual.ensures.1 c.in_err-manager.ensures.watched;
    }

pub returns-in_err-manager-2 : goal.returns-in_err-manager-2
returns-in_err-manager-2 g c =
    let old = g.S.Epochs.states c.args.self.epochs in
    let left = (rw (c.get-epoch.ensures.value ∙ c.epoch.ensures, c.in_ok-manager.ensures.epochs) at c.in_err-manager-2.ensures.done) in
    record {
      own = no_ok c.from_residual-in_err-manager-2.result _ _ c.from_residual-in_err-manager-2.ensures.1;
      newer = no_ok c.from_residual-in_err-manager-2.result _ _ c.from_residual-in_err-manager-2.ensures.1;
      older = no_ok c.from_residual-in_err-manager-2.result _ _ c.from_residual-in_err-manager-2.ensures.1;
      raises = no_ok c.from_residual-in_err-manager-2.result _ _ c.from_residual-in_err-manager-2.ensures.1;
      ways = err_is c.from_residual-in_err-manager-2.result _ _ c.from_residual-in_err-manager-2.ensures.1 (view_leaves c.args.round old (g.met.S.Epochs.nested c.args.self.epochs) _ left);
      dropped = err_is c.from_residual-in_err-manager-2.result _ _ c.from_residual-in_err-manager-2.ensures.1 (view_drops c.args.round old (g.met.S.Epochs.nested c.args.self.epochs) _ left);
      bounds = err_is c.from_residual-in_err-manager-2.result _ _ c.from_residual-in_err-manager-2.ensures.1 (rw (c.in_err-manager-2.ensures.bounds, ← c.in_ok-manager.ensures.meta) (bounds_stay (map bounds_of (g.M.Meta.left c.in_ok-manager.manager.meta)) _));
      watched = heeds_exit_then _ _ (shelf_watch g.S.Epochs.keeps c.args.self.alarm (g.S.Epochs.calm c.args.self.epochs && (g.M.Meta.watch c.args.self.meta).only_armed)) _ c.from_residual-in_err-manager-2.result _ c.from_residual-in_err-manager-2.ensures.1 c.in_ok-manager.ensures.watched.0 c.in_ok-manager.ensures.watched.1 c.in_err-manager-2.ensures.watched;
    }

pub returns-in_err-manager-3 : goal.returns-in_err-manager-3
returns-in_err-manager-3 g c =
    let e = c.args.round.epoch in
    let old = g.S.Epochs.states c.args.self.epochs in
    let mid = g.S.Epochs.states c.in_ok-manager-2.manager.epochs in
    let drops = (rw (c.get-epoch.ensures.value ∙ c.epoch.ensures, c.in_ok-manager.ensures.epochs) at c.in_ok-manager-2.ensures.done) in
    let left = drops_more e old mid _ drops (fallen_drops e mid _ c.in_err-manager-3.ensures.ways) in
    record {
      own = no_ok c.from_residual-in_err-manager-3.result _ _ c.from_residual-in_err-manager-3.ensures.1;
      newer = no_ok c.from_residual-in_err-manager-3.result _ _ c.from_residual-in_err-manager-3.ensures.1;
      older = no_ok c.from_residual-in_err-manager-3.result _ _ c.from_residual-in_err-manager-3.ensures.1;
      raises = no_ok c.from_residual-in_err-manager-3.result _ _ c.from_residual-in_err-manager-3.ensures.1;
      ways = err_is c.from_residual-in_err-manager-3.result _ _ c.from_residual-in_err-manager-3.ensures.1 (view_leaves c.args.round old (g.met.S.Epochs.nested c.args.self.epochs) _ left);
      dropped = err_is c.from_residual-in_err-manager-3.result _ _ c.from_residual-in_err-manager-3.ensures.1 (view_drops c.args.round old (g.met.S.Epochs.nested c.args.self.epochs) _ left);
      bounds = err_is c.from_residual-in_err-manager-3.result _ _ c.from_residual-in_err-manager-3.ensures.1 (rw (← c.in_ok-manager.ensures.meta, ← c.in_ok-manager-2.ensures.meta) c.in_err-manager-3.ensures.bounds);
      watched = heeds_exit_then _ _ (shelf_watch g.S.Epochs.keeps c.args.self.alarm (g.S.Epochs.calm c.args.self.epochs && (g.M.Meta.watch c.args.self.meta).only_armed)) _ c.from_residual-in_err-manager-3.result _ c.from_residual-in_err-manager-3.ensures.1 c.in_ok-manager.ensures.watched.0 (c.in_ok-manager-2.ensures.watched ∙ c.in_ok-manager.ensures.watched.1) c.in_err-manager-3.ensures.watched;
    }

pub raise_lowest-requires : goal.raise_lowest-requires
raise_lowest-requires g c = record { older = (rw (c.get-epoch.ensures.value ∙ c.epoch.ensures) at c.in_ok-manager-2.ensures.bare) }

pub returns : goal.returns
returns g c =
    let d = c.in_ok-manager-2.manager in
    let f = c.in_ok-manager-3.manager in
    let e = c.args.round.epoch in
    let old = g.S.Epochs.states c.args.self.epochs in
    let mid = g.S.Epochs.states f.epochs in
    let is = c.get-epoch.ensures.value ∙ c.epoch.ensures in
    let same = c.in_ok-manager-3.ensures.epochs in
    let drops : DropsOlder e old mid = subst (λ s. DropsOlder e old (g.S.Epochs.states s)) (sym same) (rw (is, c.in_ok-manager.ensures.epochs) at c.in_ok-manager-2.ensures.done) in
    let bare = (rw is at c.in_ok-manager-2.ensures.bare) in
    let done = (rw is at c.change.ensures.done) in
    let plain = g.S.Entry.AsEntry.plain in
    let nested = g.met.S.Epochs.nested c.args.self.epochs in
    record {
      own = view_own plain c.args.round old mid nested drops (λ s. g.S.Epochs.states s.epochs) (λ w. g.S.Wreck.EpochsRuin.left w.epochs) c.change.result done;
      newer = view_newer plain c.args.round old mid nested drops (λ s. g.S.Epochs.states s.epochs) (λ w. g.S.Wreck.EpochsRuin.left w.epochs) c.change.result done;
      older = view_older plain c.args.round old mid nested drops (λ s. g.S.Epochs.states s.epochs) (λ w. g.S.Wreck.EpochsRuin.left w.epochs) c.change.result done (λ k under. subst (λ s. IsBare (g.S.Epochs.states s k)) (sym same) (bare k under));
      raises = rw (← c.in_ok-manager.ensures.meta, ← c.in_ok-manager-2.ensures.meta) (IfOk-weaker c.change.result _ _ (λ s stays. ap (λ t. bounds_of (g.M.Meta.current t)) stays ∙ c.in_ok-manager-3.ensures.raises) c.change.ensures.meta);
      ways = view_ways plain c.args.round old mid nested drops (λ s. g.S.Epochs.states s.epochs) (λ w. g.S.Wreck.EpochsRuin.left w.epochs) c.change.result done;
      dropped = view_dropped plain c.args.round old mid nested drops (λ s. g.S.Epochs.states s.epochs) (λ w. g.S.Wreck.EpochsRuin.left w.epochs) c.change.result done;
      bounds = rw (← c.in_ok-manager.ensures.meta, ← c.in_ok-manager-2.ensures.meta) (IfErr-weaker c.change.result _ _ (λ l stays. pruned_left (map bounds_of (g.M.Meta.left d.meta)) (bounds_of (g.M.Meta.current f.meta)) _ _ (ap (map bounds_of) stays ∙ f.durable) c.in_ok-manager-3.ensures.raises) c.change.ensures.bounds);
      watched = heeds_then (λ s. shelf_watch g.S.Epochs.keeps s.alarm (g.S.Epochs.calm s.epochs && (g.M.Meta.watch s.meta).only_armed)) (λ w. shelf_watch g.S.Epochs.keeps w.alarm (g.S.Wreck.EpochsRuin.calm w.epochs && (g.M.Wreck.MetaRuin.watch w.meta).only_armed)) (shelf_watch g.S.Epochs.keeps c.args.self.alarm (g.S.Epochs.calm c.args.self.epochs && (g.M.Meta.watch c.args.self.meta).only_armed)) _ c.change.result c.in_ok-manager.ensures.watched.0 (c.in_ok-manager-3.ensures.watched ∙ c.in_ok-manager-2.ensures.watched ∙ c.in_ok-manager.ensures.watched.1) c.change.ensures.watched;
    }
