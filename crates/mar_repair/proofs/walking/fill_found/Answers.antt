use Rattle.std.proofs.Common.{ap, ◌∙◌}
use Rattle.mar_store.specs.Kept.{has_height}
use Rattle.mar_repair.proofs.Rows.{still_whole}
use Rattle.mar_repair.proofs.walking.fill_found.Goals as goal

pub returns-in-Ok-clause-has : goal.returns-in-Ok-clause-has
returns-in-Ok-clause-has g c = c.is_held.ensures (still_whole (g.S.HoldsCache.held c.args.stores.now) (g.S.HoldsCache.held c.fill.new.stores) c.in-Ok.ensures.kept c.requires.intact) ∙ ap (has_height (g.S.HoldsCache.held c.fill.new.stores).blocks.held) (c.get-height.ensures.value ∙ c.height.ensures)

pub returns-in-Ok-clause-runs : goal.returns-in-Ok-clause-runs
returns-in-Ok-clause-runs g c = λ life standing asks sends answers. c.in-Ok.ensures.runs life standing asks sends answers

pub returns-in-Err-clause-runs : goal.returns-in-Err-clause-runs
returns-in-Err-clause-runs g c = λ life standing asks sends answers. c.in-Err.ensures.runs life standing asks sends answers
