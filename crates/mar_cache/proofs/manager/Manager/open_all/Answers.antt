use Rattle.std.proofs.Common.{[], ap, arith, sym, ◌∙◌}
use Rattle.std.proofs.lemmas.Result.{err_from_is_err_and}
use Rattle.mar_cache.specs.Bounds.{bounds_of, includes}
use Rattle.mar_cache.specs.Shelved.{nothing_gone}
use Rattle.mar_cache.proofs.LuckyLoads.{step_picks}
use Rattle.mar_cache.proofs.Shelving.{get_contains, grown_leaves, opened_all, opened_more, opened_stays, outside_stays, stays_grow, step_stays}
use Rattle.mar_cache.proofs.manager.Manager.open_all.Goals as goal

pub returns-in_err-manager-clause-ways : goal.returns-in_err-manager-clause-ways
returns-in_err-manager-clause-ways g c =
    let p = err_from_is_err_and c.from_residual.result c.from_residual.ensures.1 in
    rw (p.1, p.2) (grown_leaves (λ k. []) nothing_gone (g.S.Epochs.states c.args.self.epochs) (g.S.Epochs.states c.loop-place.manager.epochs) _ (λ k. stays_grow [] (nothing_gone k) _ _ (c.loop-place.invariant.stays k)) c.in_err-manager.ensures.ways)

pub loop-place-preserved : goal.loop-place-preserved
loop-place-preserved g c =
    let now = c.loop-place.manager in
    let next = c.in_ok-manager.manager in
    let step = c.in_ok-manager.ensures in
    let b = bounds_of (g.M.Meta.current c.args.self.meta) in
    record {
      within = omega arith;
      stays = step_stays _ (g.S.Epochs.states c.args.self.epochs) (g.S.Epochs.states now.epochs) (g.S.Epochs.states next.epochs) c.loop-place.invariant.stays step.done.0 step.done.1;
      opened = opened_more (g.S.Epochs.states next.epochs) c.args.listed.now c.loop-place.place (includes b) (λ j less passes. opened_stays _ (g.S.Epochs.states now.epochs) (g.S.Epochs.states next.epochs) step.done.0 step.done.1 _ (c.loop-place.invariant.opened j less passes)) (rw c.loop-place.invariant.meta at step.opened);
      outside = outside_stays (includes b) _ (g.S.Epochs.states c.args.self.epochs) (g.S.Epochs.states now.epochs) (g.S.Epochs.states next.epochs) c.loop-place.invariant.outside (λ fails k. ap (λ s. g.S.Epochs.states s k) ((rw c.loop-place.invariant.meta at step.stays) fails)) step.done.1;
      others = λ k absent. step.done.1 k (λ same. absent (get_contains c.args.listed.now c.loop-place.place k c.loop-place-test.true (sym same))) ∙ c.loop-place.invariant.others k absent;
      picked = step_picks _ (g.S.Epochs.picks c.args.self.epochs) (g.S.Epochs.picks now.epochs) (g.S.Epochs.states c.args.self.epochs) (g.S.Epochs.states now.epochs) (g.S.Epochs.states next.epochs) c.loop-place.invariant.picks c.loop-place.invariant.stays c.loop-place.invariant.picked step.done.0 step.picked.0 step.done.1;
      picks = step.picked.1 ∙ c.loop-place.invariant.picks;
      meta = step.meta ∙ c.loop-place.invariant.meta;
      watch = step.watched ∙ c.loop-place.invariant.watch;
    }

pub returns-clause-opened : goal.returns-clause-opened
returns-clause-opened g c = λ k passes has. opened_all (g.S.Epochs.states c.loop-place.manager.epochs) c.args.listed.now c.loop-place.place (includes (bounds_of (g.M.Meta.current c.args.self.meta))) c.loop-place-test.false c.loop-place.invariant.opened k passes has

pub returns-clause-others : goal.returns-clause-others
returns-clause-others g c = λ k absent. c.loop-place.invariant.others k absent
