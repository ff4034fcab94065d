use Rattle.std.proofs.Common.{ap, ◌∙◌}
use Rattle.mar_store.specs.Ranges.{in_ranges}
use Rattle.mar_store.proofs.SpanMembers.{in_ranges-heights}
use Rattle.mar_repair.proofs.walking.is_held.Goals as goal

pub returns : goal.returns
returns g c = λ whole. c.contains.ensures ∙ (ap (λ rs. in_ranges rs c.args.height) (c.blocks_held.ensures whole) ∙ in_ranges-heights (g.S.HoldsCache.held c.args.stores.now).blocks.held c.args.height)
