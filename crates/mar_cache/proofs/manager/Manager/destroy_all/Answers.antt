use Rattle.std.proofs.Common.{refl, arith, ◌∙◌}
use Rattle.std.proofs.lemmas.Result.{err_from_is_err_and}
use Rattle.mar_cache.proofs.Views.{bare_all, bare_more, drops_more, drops_same, drops_then, still_bare}
use Rattle.mar_cache.proofs.manager.Manager.destroy_all.Goals as goal

pub loop-place-init : goal.loop-place-init
loop-place-init g c = record { within = omega arith; drops = drops_same c.args.below _ _ (λ k. refl); bare = λ j less. absurd (omega (arith, less)); meta = refl; watch = refl }

pub returns-in_err-manager-clause-done : goal.returns-in_err-manager-clause-done
returns-in_err-manager-clause-done g c =
    let p = err_from_is_err_and c.from_residual.result c.from_residual.ensures.1 in
    rw (p.1, p.2) (drops_more c.args.below (g.S.Epochs.states c.args.self.epochs) (g.S.Epochs.states c.loop-place.manager.epochs) _ c.loop-place.invariant.drops c.in_err-manager.ensures.done)

pub loop-place-preserved : goal.loop-place-preserved
loop-place-preserved g c =
    let first = g.S.Epochs.states c.args.self.epochs in
    let now = g.S.Epochs.states c.loop-place.manager.epochs in
    let next = g.S.Epochs.states c.in_ok-manager.manager.epochs in
    let step = c.in_ok-manager.ensures in
    record {
      within = omega arith;
      drops = drops_then c.args.below first now next c.loop-place.invariant.drops step.done;
      bare = bare_more next c.args.listed.now c.loop-place.place c.args.below (λ j less under. still_bare c.args.below now next step.done _ (c.loop-place.invariant.bare j less under)) step.bare;
      meta = step.meta ∙ c.loop-place.invariant.meta;
      watch = step.watched ∙ c.loop-place.invariant.watch;
    }

pub returns-clause-bare : goal.returns-clause-bare
returns-clause-bare g c = λ k has under. bare_all (g.S.Epochs.states c.loop-place.manager.epochs) c.args.listed.now c.loop-place.place c.args.below c.loop-place-test.false c.loop-place.invariant.bare k has under
