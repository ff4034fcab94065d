use Rattle.std.proofs.Common.{[], refl, arith, ◌∙◌}
use Rattle.std.proofs.lemmas.Result.{err_from_is_err_and}
use Rattle.mar_model.specs.Cache.{is_certified_below}
use Rattle.mar_epochs.specs.declared.Change.TheVariants.{PruneCertified}
use Rattle.mar_epochs.proofs.Filtering.{contains_none}
use Rattle.mar_cache.proofs.Shelving.{grown_leaves, loses_leaves}
use Rattle.mar_cache.proofs.Thinning.{clear_all, clear_here, clear_more, clear_stays, thins_change, thins_itself, thins_step, test_from_kept}
use Rattle.mar_cache.proofs.manager.Manager.prune_all.Goals as goal

pub loop-place-init : goal.loop-place-init
loop-place-init g c = record { within = omega arith; thins = λ k. thins_itself (is_certified_below c.args.height) (g.S.Epochs.states c.args.self.epochs k); clear = λ j less. absurd (omega (arith, less)); meta = refl; watch = refl }

pub returns-in_err-manager-clause-ways : goal.returns-in_err-manager-clause-ways
returns-in_err-manager-clause-ways g c =
    let now = c.loop-place.manager.epochs in
    let p = err_from_is_err_and c.from_residual.result c.from_residual.ensures.1 in
    rw (p.1, p.2) (grown_leaves (λ k. []) (λ k. is_certified_below c.args.height) (g.S.Epochs.states c.args.self.epochs) (g.S.Epochs.states now) _ (λ k. (c.loop-place.invariant.thins k).grows) (loses_leaves (λ k. []) (λ k. is_certified_below c.args.height) (g.S.Epochs.states now) (g.met.S.Epochs.nested now) _ [] _ _ (λ x has. contains_none x has) (λ x stays. test_from_kept (is_certified_below c.args.height x) stays) c.in_err-manager.ensures.done))

pub loop-place-preserved : goal.loop-place-preserved
loop-place-preserved g c =
    let now = c.loop-place.manager.epochs in
    let next = c.in_ok-manager.manager.epochs in
    let done = c.in_ok-manager.ensures.done in
    let one = thins_change g.S.Entry.AsEntry.plain (PruneCertified c.args.height) (is_certified_below c.args.height) _ _ refl (λ x. refl) (λ held. refl) done.0 in
    record {
      within = omega arith;
      thins = thins_step (is_certified_below c.args.height) _ (g.S.Epochs.states c.args.self.epochs) (g.S.Epochs.states now) (g.S.Epochs.states next) c.loop-place.invariant.thins one done.1;
      clear = clear_more (is_certified_below c.args.height) (g.S.Epochs.states next) c.args.listed.now c.loop-place.place (λ j less. clear_stays (is_certified_below c.args.height) _ (g.S.Epochs.states now) (g.S.Epochs.states next) one done.1 _ (c.loop-place.invariant.clear j less)) (clear_here g.S.Entry.AsEntry.plain c.args.height _ _ done.0);
      meta = c.in_ok-manager.ensures.meta ∙ c.loop-place.invariant.meta;
      watch = c.in_ok-manager.ensures.watched ∙ c.loop-place.invariant.watch;
    }

pub returns-clause-clear : goal.returns-clause-clear
returns-clause-clear g c = λ k has. clear_all (is_certified_below c.args.height) (g.S.Epochs.states c.loop-place.manager.epochs) c.args.listed.now c.loop-place.place c.loop-place-test.false c.loop-place.invariant.clear k has
