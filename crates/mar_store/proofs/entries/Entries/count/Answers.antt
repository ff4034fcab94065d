use Rattle.mar_store.proofs.entries.Entries.count.Goals as goal

pub invariant_of-result : goal.invariant_of-result
invariant_of-result g c = record {
  by_index = λ h. rw c.count.ensures.items (c.args.self.by_index h);
  by_key = λ k. rw c.count.ensures.items (c.args.self.by_key k);
}
