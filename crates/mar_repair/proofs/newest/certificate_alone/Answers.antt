use Rattle.std.proofs.Common.{ap, option_map, sym, ◌∙◌}
use Rattle.mar_model.specs.Moves.{at_height}
use Rattle.mar_repair.proofs.Alone.{is_alone}
use Rattle.mar_repair.proofs.newest.certificate_alone.Goals as goal

pub returns-in-Ok-None-clause-found : goal.returns-in-Ok-None-clause-found
returns-in-Ok-None-clause-found g c =
    let found = rw c.in-Ok-None.field-0-is at c.in-Ok-None.ensures.found in
    sym (is_alone (g.S.HoldsCache.held c.args.stores.now) c.args.height c.requires.alone ∙ ap (option_map (λ x. at_height c.args.height x)) (sym found))

pub returns-in-Ok-Some-clause-found : goal.returns-in-Ok-Some-clause-found
returns-in-Ok-Some-clause-found g c =
    let found = rw c.in-Ok-Some.field-0-is at c.in-Ok-Some.ensures.found in
    sym (is_alone (g.S.HoldsCache.held c.args.stores.now) c.args.height c.requires.alone ∙ ap (option_map (λ x. at_height c.args.height x)) (sym found))

pub returns-in-Ok-Some-clause-above : goal.returns-in-Ok-Some-clause-above
returns-in-Ok-Some-clause-above g c = c.requires.alone.above
