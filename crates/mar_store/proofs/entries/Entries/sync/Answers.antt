use Rattle.mar_store.proofs.Settled.{fails_same}
use Rattle.mar_store.proofs.Stores.{syncs_entries}
use Rattle.mar_store.proofs.entries.Entries.sync.Goals as goal

pub invariant_of-result : goal.invariant_of-result
invariant_of-result g c = record {
  by_index = λ h. rw c.in-Ok.ensures.items (c.args.self.by_index h);
  by_key = λ k. rw c.in-Ok.ensures.items (c.args.self.by_key k);
}

pub returns-in-Ok-clause-done : goal.returns-in-Ok-clause-done
returns-in-Ok-clause-done g c = syncs_entries _ _ _ _ c.in-Ok.ensures.items c.in-Ok.ensures.ok

pub returns-in-Err-clause-done : goal.returns-in-Err-clause-done
returns-in-Err-clause-done g c = fails_same _ _ _ _ c.in-Err.ensures.items c.in-Err.ensures.still
