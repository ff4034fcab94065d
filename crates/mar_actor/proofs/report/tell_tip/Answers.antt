use Rattle.std.proofs.Common.{ap, refl}
use Rattle.mar_model.proofs.Running.{Breaks-now}
use Rattle.mar_actor.proofs.Filled.{tip_told}
use Rattle.mar_actor.proofs.report.tell_tip.Goals as goal

pub returns-in-Ok : goal.returns-in-Ok
returns-in-Ok g c = record { runs = λ held life standing asks sends answers. tip_told g.V.Variant.inner held (record life { tip = c.args.tip.now }) (record life { tip = c.tell.new.tip }) standing _ _ asks sends answers _ _ _ (ap (λ h. record life { tip = h }) c.in-Ok.ensures.rises) c.in-Ok.ensures.ok }

pub returns-in-Err : goal.returns-in-Err
returns-in-Err g c = record { runs = λ held life standing asks sends answers start whole rest reached. Breaks-now g.V.Variant.inner start whole _ rest _ _ _ reached (refl, c.in-Err.ensures.err, refl) }
