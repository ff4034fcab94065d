use Rattle.std.proofs.Common.{ap, ◌∙◌}
use Rattle.mar_model.specs.Acts.{load_cache}
use Rattle.mar_model.proofs.Doing.{cache-done, cache-failed, taken_up}
use Rattle.mar_actor.proofs.start.take_up.Goals as goal

pub fill_and_hand_over-requires-clause-intact : goal.fill_and_hand_over-requires-clause-intact
fill_and_hand_over-requires-clause-intact g c = ap (λ h. h.intact) c.in-Ok.ensures.same ∙ c.requires.intact

pub returns-in-Ok : goal.returns-in-Ok
returns-in-Ok g c =
    let e = c.in-Ok.ensures in
    let whole = ap (λ h. h.intact) e.same ∙ c.requires.intact in
    record { runs = λ standing sends answers start plan rest reached. c.fill_and_hand_over.ensures.runs standing sends answers start plan rest (cache-done g.V.Variant.inner start plan _ _ _ standing _ load_cache reached _ (taken_up _ _ e.loads e.by_luck e.loaded e.still_open e.same) (c.law.ensures.lawful whole) e.goes_on) }

pub returns-in-Err : goal.returns-in-Err
returns-in-Err g c = record { runs = λ standing sends answers start plan rest reached. cache-failed g.V.Variant.inner start plan _ _ _ standing _ load_cache reached c.in-Err.ensures.goes_on c.in-Err.ensures.usual }
