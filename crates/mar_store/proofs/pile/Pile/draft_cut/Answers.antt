use Rattle.std.proofs.Common.{◌∙◌, ap, length, nat_le}
use Rattle.mar_store.proofs.Chosen.{cut_within, cut_sure, chosen_filter}
use Rattle.mar_store.proofs.pile.Pile.draft_cut.Goals as goal

pub returns-clause-within : goal.returns-clause-within
returns-clause-within g c = cut_within (λ e. nat_le c.args.min e.index) c.args.self.now.synced _ c.args.self.now.items.items (rw c.deref.ensures.value at c.count_of-synced.ensures)

pub returns-clause-sure : goal.returns-clause-sure
returns-clause-sure g c = cut_sure (λ e. nat_le c.args.min e.index) c.args.self.now.synced _ c.args.self.now.items.items _ (rw c.deref.ensures.value at c.count_of-synced.ensures) (rw c.deref.ensures.value at c.in_ok-sure.ensures)

pub returns-clause-synced : goal.returns-clause-synced
returns-clause-synced g c = rw c.deref.ensures.value at c.count_of-synced.ensures ∙ ap length (chosen_filter (λ e. nat_le c.args.min e.index) 0 _)
