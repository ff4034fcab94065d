use Rattle.std.proofs.Common.{None, ap, map, refl, subst, sym, ◌∙◌}
use Rattle.std.proofs.lemmas.Result.{err_from_is_err_and}
use Rattle.mar_model.specs.Stored.{AreSmall}
use Rattle.mar_model.specs.Writing.{IsOrdered}
use Rattle.mar_model.specs.Event.{message_told}
use Rattle.mar_model.specs.Messages.{report_finalization}
use Rattle.mar_model.specs.Moves.{found_at_hand}
use Rattle.mar_model.specs.Plans.{found_by, found_of}
use Rattle.mar_model.proofs.Planned.{found_before, plan-cached, replanned}
use Rattle.mar_model.proofs.Running.{cached-done, cached-failed}
use Rattle.mar_actor.proofs.report.report_finalization.Goals as goal

pub returns-in_err-cache_finalization : goal.returns-in_err-cache_finalization
returns-in_err-cache_finalization g c =
    let p = err_from_is_err_and c.from_residual.result c.from_residual.ensures.1 in
    let f = g.S.Finalization.AsFinalization.plain c.args.finalization.now in
    rw (p.1, p.2) (record {
      runs = λ standing sends answers. record {
        found = found_by g.V.Variant.inner (g.B.Finds.blocks c.args.buffer.now) (g.S.HoldsCache.held c.args.stores.now) (message_told None (report_finalization f));
        finds = λ loaded. refl;
        runs = λ start whole rest reached. cached-failed g.V.Variant.inner start whole _ _ _ standing _ _ reached c.in_err-cache_finalization.ensures.goes_on c.in_err-cache_finalization.ensures.usual;
      };
    })

pub take_cached-requires-clause-intact : goal.take_cached-requires-clause-intact
take_cached-requires-clause-intact g c = ap (λ h. h.intact) c.in_ok-cache_finalization.ensures.caches.same ∙ c.requires.intact

pub take_cached-requires-clause-small_cached : goal.take_cached-requires-clause-small_cached
take_cached-requires-clause-small_cached g c = c.law.ensures.small_cached (ap (λ h. h.intact) c.in_ok-cache_finalization.ensures.caches.same ∙ c.requires.intact)

pub take_cached-requires-clause-small_held : goal.take_cached-requires-clause-small_held
take_cached-requires-clause-small_held g c = subst (λ h. AreSmall (map (λ x. x.value) h.blocks.held)) (sym c.in_ok-cache_finalization.ensures.caches.same) c.requires.small_held

pub take_cached-requires-clause-ordered : goal.take_cached-requires-clause-ordered
take_cached-requires-clause-ordered g c = subst (λ h. IsOrdered h.writes) (sym c.in_ok-cache_finalization.ensures.caches.same) c.requires.ordered

pub returns : goal.returns
returns g c =
    let caches = c.in_ok-cache_finalization.ensures.caches in
    let f = g.S.Finalization.AsFinalization.plain c.args.finalization.now in
    let before = g.S.HoldsCache.held c.args.stores.now in
    let held = g.S.HoldsCache.held c.cache_finalization.new.self in
    let blocks = g.B.Finds.blocks c.args.buffer.now in
    let intact = ap (λ h. h.intact) caches.same ∙ c.requires.intact in
    record {
      runs = λ standing sends answers. record {
        found = found_of before f.round (found_at_hand g.V.Variant.inner blocks held.cache.kept.held held.blocks.held f.payload);
        finds = found_before g.V.Variant.inner blocks f before held caches;
        runs = λ start whole rest reached. c.take_cached.ensures.runs standing sends answers start whole rest (cached-done g.V.Variant.inner start whole _ _ _ standing _ _ _ (replanned g.V.Variant.inner start whole rest _ _ _ (plan-cached g.V.Variant.inner blocks f before held caches) reached) caches (c.law.ensures.lawful intact) c.in_ok-cache_finalization.ensures.goes_on);
      };
    }
