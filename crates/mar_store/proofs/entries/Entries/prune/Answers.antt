use Rattle.std.proofs.Common.{nat_le}
use Rattle.mar_store.proofs.Chosen.{chosen_filter}
use Rattle.mar_store.proofs.entries.Entries.prune.Goals as goal

pub invariant_of-result : goal.invariant_of-result
invariant_of-result g c = record {
  by_index = λ h. rw (c.in-Ok-cut.ensures.items, ← c.deref.ensures.value, ← chosen_filter (λ e. nat_le c.args.min e.index) 0 c.deref.result.now) (c.in-Ok.ensures.indexes h);
  by_key = λ k. rw (c.in-Ok-cut.ensures.items, ← c.deref.ensures.value, ← chosen_filter (λ e. nat_le c.args.min e.index) 0 c.deref.result.now) (c.in-Ok.ensures.keys k);
}
