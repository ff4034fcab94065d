use Rattle.std.proofs.Common.{ap, arith, refl}
use Rattle.std.specs.Prelude.{bytes_eq, ◌==◌}
use Rattle.mar_types.specs.PlacesLemmas.{noted}
use Rattle.mar_store.proofs.entries.Entries.push.Goals as goal

pub invariant_of-result : goal.invariant_of-result
invariant_of-result g c = record {
  by_index = λ h. noted (λ e. e.index == h) c.args.self.pile.items.items c.in-Ok.pile.items.items _ (c.args.index == h) c.len-place.result _ _ (c.args.self.by_index h) (omega arith) c.in-Ok.ensures.ok refl (c.in-Ok-note.ensures.indexes h);
  by_key = λ k. noted (λ e. bytes_eq (g.T.Item.name e.item) (g.T.Key.Named.bytes k)) c.args.self.pile.items.items c.in-Ok.pile.items.items _ _ c.len-place.result _ _ (c.args.self.by_key k) (omega arith) c.in-Ok.ensures.ok (ap (λ d. bytes_eq d (g.T.Key.Named.bytes k)) c.key-key.ensures) (c.in-Ok-note.ensures.keys k);
}
