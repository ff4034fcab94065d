use Rattle.std.proofs.Common.{◌∙◌, refl}
use Rattle.mar_model.specs.Faults.{want_of_memory}
use Rattle.mar_model.proofs.Handing.{HearsFront-nothing}
use Rattle.mar_model.proofs.Running.{Breaks-now, Reached-more}
use Rattle.mar_rules.proofs.Hinted.{asked_of}
use Rattle.mar_rules.proofs.hinting.ask_targets.Goals as goal

pub returns-in-Ok-fetch_targeted_if_permitted : goal.returns-in-Ok-fetch_targeted_if_permitted
returns-in-Ok-fetch_targeted_if_permitted g c =
    let targets = c.as_slice.ensures.value ∙ c.in-Ok.ensures in
    let hears = asked_of g.V.Commitment.Named.bytes c.floor.result.now (g.S.HoldsCache.held c.args.stores.now).processed c.finalized-request.result c.args.height c.args.targets.now _ _
    c.floor.ensures.processed c.finalized-request.ensures (rw targets at c.in-Ok-fetch_targeted_if_permitted.ensures.ok) in
    record { runs = λ life standing told sends answers start whole rest reached. Reached-more g.V.Variant.inner start whole _ rest _ _ reached (hears, refl) }

pub returns : goal.returns
returns g c = record {
  runs = λ life standing told sends answers start whole rest reached. Breaks-now g.V.Variant.inner start whole _ rest _ _ _ reached (refl, HearsFront-nothing _ _ _ c.in-Err.ensures.err, refl);
}
