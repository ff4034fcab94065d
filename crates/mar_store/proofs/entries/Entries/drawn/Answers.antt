use Rattle.std.specs.Prelude.{bytes_eq, ◌==◌}
use Rattle.mar_store.proofs.FrontPlaces.{at_front, front_stays}
use Rattle.mar_store.proofs.Settled.{settled}
use Rattle.mar_store.proofs.entries.Entries.drawn.Goals as goal

pub places_from-requires-clause-front : goal.places_from-requires-clause-front
places_from-requires-clause-front g c = rw (c.deref.ensures.value, c.sure_count-sure.ensures) (front_stays c.args.half c.args.self.pile.synced c.args.self.pile.items.items c.args.self.pile.within)

pub places_from-requires-clause-indexes : goal.places_from-requires-clause-indexes
places_from-requires-clause-indexes g c = rw c.deref.ensures.value (λ h. at_front (λ e. e.index == h) c.sure_count-sure.result c.args.self.pile.items.items _ _ (c.args.self.by_index h) (c.keep_below.ensures.indexes h))

pub places_from-requires-clause-keys : goal.places_from-requires-clause-keys
places_from-requires-clause-keys g c = rw c.deref.ensures.value (λ k. at_front (λ e. bytes_eq (g.T.Item.name e.item) (g.T.Key.Named.bytes k)) c.sure_count-sure.result c.args.self.pile.items.items _ _ (c.args.self.by_key k) (c.keep_below.ensures.keys k))

pub invariant_of-result : goal.invariant_of-result
invariant_of-result g c = record {
  by_index = λ h. rw (c.in-Ok-settle.ensures.items, ← c.deref.ensures.value, ← c.sure_count-sure.ensures) (c.in-Ok.ensures.indexes h);
  by_key = λ k. rw (c.in-Ok-settle.ensures.items, ← c.deref.ensures.value, ← c.sure_count-sure.ensures) (c.in-Ok.ensures.keys k);
}

pub returns-in-Ok-settle-clause-found : goal.returns-in-Ok-settle-clause-found
returns-in-Ok-settle-clause-found g c = settled c.args.half c.args.self.pile.synced _ c.args.self.pile.items.items _ c.args.self.pile.within c.in-Ok-settle.ensures.items c.in-Ok-settle.ensures.synced
