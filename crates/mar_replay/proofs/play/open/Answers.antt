use Rattle.std.proofs.Common.{ap, ◌∙◌}
use Rattle.mar_script.specs.Script.{config_of}
use Rattle.mar_replay.proofs.LinePlays.{plays_opening, plays_unopened, set_node}
use Rattle.mar_replay.proofs.OpeningTurns.{lawful_opening}
use Rattle.mar_replay.proofs.play.open.Goals as goal

pub returns-in-Ok : goal.returns-in-Ok
returns-in-Ok g c =
    let set = set_node c.args.settings _ c.setup.result.epocher.length c.setup.ensures.sizes c.setup.ensures.epochs in
    rw (← c.left.view_is)
    (plays_opening (config_of c.args.settings) _ c.args.luck _ c.in-Ok.actor _ _ _
    (set_node c.args.settings _ c.in-Ok.actor.life.epocher.length (c.in-Ok.ensures.same_life.2 ∙ c.setup.ensures.sizes) (ap (λ e. e.length) c.in-Ok.ensures.same_life.1 ∙ c.setup.ensures.epochs)) c.in-Ok.ensures.watches
    c.in-Ok.ensures.known c.in-Ok.ensures.fresh c.in-Ok.ensures.picked
    (λ chain k lawful. let begun = (rw c.setup.ensures.start at c.in-Ok.ensures.opens) (config_of c.args.settings) chain set (lawful_opening _ chain _ _ k lawful) in (begun.finds, begun.good)) (rw (c.new-buffer.ensures, c.new-requests.ensures) at c.step.ensures))

pub returns-in-Err : goal.returns-in-Err
returns-in-Err g c =
    let set = set_node c.args.settings _ c.setup.result.epocher.length c.setup.ensures.sizes c.setup.ensures.epochs in
    let is = c.parts_of-fault.ensures in
    rw (c.requires.silent, ← c.left.view_is)
    (plays_unopened (config_of c.args.settings) _ _ c.args.luck _ _
    (λ chain k lawful. (rw (c.setup.ensures.start, is) at c.in-Err.ensures.opens) (config_of c.args.settings) chain set (lawful_opening _ chain _ _ k lawful)) (rw is at c.in-Err.ensures.cause)
    (rw (c.setup.ensures.start, is) at c.in-Err.ensures.by_value))
