use Rattle.mar_store.proofs.Settled.{settled}
use Rattle.mar_store.proofs.entries.Entries.open.Goals as goal

pub invariant_of-result : goal.invariant_of-result
invariant_of-result g c = record {
  by_index = λ h. rw (c.in-Ok-settle.ensures.items, ← c.deref.ensures.value, ← c.sure_count.ensures) (c.in-Ok.ensures.indexes h);
  by_key = λ k. rw (c.in-Ok-settle.ensures.items, ← c.deref.ensures.value, ← c.sure_count.ensures) (c.in-Ok.ensures.keys k);
}

pub returns-in-Ok-settle-clause-found : goal.returns-in-Ok-settle-clause-found
returns-in-Ok-settle-clause-found g c = settled c.args.half c.args.pile.synced _ c.args.pile.items.items _ c.args.pile.within c.in-Ok-settle.ensures.items c.in-Ok-settle.ensures.synced
