use Rattle.std.proofs.Common.{None, ap, refl, ◌∙◌, ◌≡◌, true}
use Rattle.mar_model.specs.Acts.{keep_notarization}
use Rattle.mar_model.specs.Moves.{found_at_hand}
use Rattle.mar_model.specs.Plans.{found_by, found_of}
use Rattle.mar_model.specs.Event.{message_told}
use Rattle.mar_model.specs.Messages.{report_notarization}
use Rattle.mar_model.proofs.Doing.{cache-done, cache-failed}
use Rattle.mar_model.proofs.CertifiedBlocks.{notarized_finds}
use Rattle.mar_actor.proofs.notarize.notarize.Goals as goal

pub keep_found-requires-clause-intact : goal.keep_found-requires-clause-intact
keep_found-requires-clause-intact g c = ap (λ h. h.intact) c.in-Ok.ensures.keeps.same ∙ c.requires.intact

pub keep_found-requires-clause-small_cached : goal.keep_found-requires-clause-small_cached
keep_found-requires-clause-small_cached g c = c.law.ensures.small_cached (ap (λ h. h.intact) c.in-Ok.ensures.keeps.same ∙ c.requires.intact)

pub keep_found-requires-clause-small_held : goal.keep_found-requires-clause-small_held
keep_found-requires-clause-small_held g c = c.law.ensures.small (ap (λ h. h.intact) c.in-Ok.ensures.keeps.same ∙ c.requires.intact)

pub returns-in-Ok : goal.returns-in-Ok
returns-in-Ok g c =
    let old = g.S.HoldsCache.held c.args.stores.now in
    let mid = g.S.HoldsCache.held c.keep_notarization-kept.new.stores in
    let f = g.S.Notarization.AsFinalization.plain c.args.notarization in
    let blocks = g.B.Finds.blocks c.args.buffer.now in
    let whole = ap (λ h. h.intact) c.in-Ok.ensures.keeps.same ∙ c.requires.intact in
    let runs = rw (c.round-round.ensures, c.payload-commitment.ensures) at c.keep_found.ensures.runs in
    record {
      runs = λ life standing heard. record {
        found = found_of mid f.round (found_at_hand g.V.Variant.inner blocks mid.cache.kept.held mid.blocks.held f.payload);
        finds = notarized_finds g.V.Variant.inner blocks f old mid _ c.in-Ok.ensures.keeps;
        runs = λ start whole_plan rest reached. runs life standing heard start whole_plan rest (cache-done g.V.Variant.inner start whole_plan _ old life standing heard (keep_notarization f) reached mid (_, c.in-Ok.ensures.keeps) (c.law.ensures.lawful whole) c.in-Ok.ensures.goes_on);
      };
    }

pub returns-in-Err : goal.returns-in-Err
returns-in-Err g c =
    let old = g.S.HoldsCache.held c.args.stores.now in
    let f = g.S.Notarization.AsFinalization.plain c.args.notarization in
    let blocks = g.B.Finds.blocks c.args.buffer.now in
    record {
      runs = λ life standing heard. record {
        found = found_by g.V.Variant.inner blocks old (message_told None (report_notarization f));
        finds = λ loaded. refl;
        runs = λ start whole rest reached. cache-failed g.V.Variant.inner start whole _ old life standing heard (keep_notarization f) reached c.in-Err.ensures.goes_on c.in-Err.ensures.kind;
      };
    }
