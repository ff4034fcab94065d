use Rattle.std.proofs.Common.{◌∙◌, nat_le}
use Rattle.mar_store.proofs.Chosen.{chosen_filter}
use Rattle.mar_store.proofs.pile.Pile.cut.Goals as goal

pub returns-in-Ok-clause-items : goal.returns-in-Ok-clause-items
returns-in-Ok-clause-items g c = c.keep.ensures.items ∙ chosen_filter (λ e. nat_le c.args.min e.index) 0 c.args.self.items.items
