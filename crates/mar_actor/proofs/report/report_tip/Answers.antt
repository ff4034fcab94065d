use Rattle.mar_actor.specs.Views.{sizes_in}
use Rattle.mar_actor.proofs.report.report_tip.Goals as goal

pub returns : goal.returns
returns g c = rw (← c.window.view_is) (record { runs = λ held standing asks sends answers. c.tell_tip.ensures.runs held (record { sizes = sizes_in c.window.inside.acks.max c.window.inside.limits; out = c.window.inside.acks.entries; tip = c.window.inside.tip; next_ack = c.window.inside.next_ack }) standing asks sends answers })
