use Rattle.std.proofs.Common.{rules, sym, ◌≡◌}
use Rattle.mar_actor.specs.Views.{sizes_in}
use Rattle.mar_actor.proofs.filling.fill_gaps.Goals as goal

pub returns-clause-runs : goal.returns-clause-runs
returns-clause-runs g c =
    let most = rw (← c.window.view_is) at c.max_repair-max_repair.ensures in
    let same : c.application-1.given.0 ≡ c.repair.new.tips.application.now = search rules in
    rw (← c.window.view_is, same) (λ standing sends answers. c.repair.ensures.runs (record { sizes = sizes_in c.window.inside.acks.max c.window.inside.limits; out = c.window.inside.acks.entries; tip = c.window.inside.tip; next_ack = c.window.inside.next_ack }) standing sends answers (sym most))
