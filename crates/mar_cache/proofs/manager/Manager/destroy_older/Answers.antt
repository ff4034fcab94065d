use Rattle.std.proofs.Common.{ap, arith, ◌∙◌, ◌&&◌}
use Rattle.std.proofs.lemmas.Result.{IfErr-weaker, IfOk-weaker}
use Rattle.mar_cache.specs.Bounds.{bounds_of}
use Rattle.mar_cache.specs.Shelved.{shelf_watch}
use Rattle.mar_cache.proofs.Exits.{err_is, err_match, no_ok}
use Rattle.mar_cache.proofs.Views.{bare_if, drops_from, fallen_drops}
use Rattle.mar_cache.proofs.Watched.{calm_exit, calm_then}
use Rattle.mar_cache.proofs.Within.{none_below}
use Rattle.mar_cache.proofs.manager.Manager.destroy_older.Goals as goal

pub returns-then-below-lowest-clause-bare : goal.returns-then-below-lowest-clause-bare
returns-then-below-lowest-clause-bare g c = none_below (g.S.Epochs.states c.args.self.epochs) (bounds_of (g.M.Meta.current c.args.self.meta)) c.args.below (omega (arith, c.lowest.ensures, c.if-below-lowest.true)) c.args.self.within

pub returns-in_err-manager : goal.returns-in_err-manager
returns-in_err-manager g c = record {
  done = err_match c.from_residual.result _ _ _ c.from_residual.ensures.1 (fallen_drops c.args.below (g.S.Epochs.states c.args.self.epochs) _ c.in_err-manager.ensures.ways);
  bare = no_ok c.from_residual.result _ _ c.from_residual.ensures.1;
  meta = no_ok c.from_residual.result _ _ c.from_residual.ensures.1;
  bounds = err_is c.from_residual.result _ _ c.from_residual.ensures.1 c.in_err-manager.ensures.bounds;
  watched = calm_exit _ _ _ c.from_residual.result _ c.from_residual.ensures.1 c.in_err-manager.ensures.watched;
}

pub returns : goal.returns
returns g c =
    let old = g.S.Epochs.states c.args.self.epochs in
    let mid = g.S.Epochs.states c.in_ok-manager.manager.epochs in
    let same = c.in_ok-manager.ensures.same in
    let found = (rw (← c.deref.ensures.value) at c.in_ok-manager.ensures.found) in
    record {
      done = drops_from (λ m. g.S.Epochs.states m.epochs) (λ w. g.S.Wreck.EpochsRuin.left w.epochs) c.args.below old mid c.destroy_all.result same.0 c.destroy_all.ensures.done;
      bare = bare_if (λ m. g.S.Epochs.states m.epochs) _ c.args.below old mid c.deref.result.now c.destroy_all.result same.0 c.destroy_all.ensures.done c.destroy_all.ensures.bare found;
      meta = IfOk-weaker c.destroy_all.result _ _ (λ m is. is ∙ same.1) c.destroy_all.ensures.meta;
      bounds = IfErr-weaker c.destroy_all.result _ _ (λ l is. is ∙ ap g.M.Meta.left same.1) c.destroy_all.ensures.bounds;
      watched = calm_then (λ m. shelf_watch g.S.Epochs.keeps m.alarm (g.S.Epochs.calm m.epochs && (g.M.Meta.watch m.meta).only_armed)) (λ w. shelf_watch g.S.Epochs.keeps w.alarm (g.S.Wreck.EpochsRuin.calm w.epochs && (g.M.Wreck.MetaRuin.watch w.meta).only_armed)) (shelf_watch g.S.Epochs.keeps c.args.self.alarm (g.S.Epochs.calm c.args.self.epochs && (g.M.Meta.watch c.args.self.meta).only_armed)) _ c.destroy_all.result c.in_ok-manager.ensures.watched c.destroy_all.ensures.watched;
    }
