use Rattle.std.proofs.Common.{◌∙◌, refl}
use Rattle.std.specs.Prelude.{bytes_eq, ◌==◌}
use Rattle.mar_types.specs.PlacesLemmas.{any_at, first_or, second_or}
use Rattle.mar_store.proofs.Stores.{taken_there}
use Rattle.mar_store.proofs.entries.Entries.holds.Goals as goal

pub returns-then-is_some : goal.returns-then-is_some
returns-then-is_some g c =
    taken_there g.T.Item.name c.args.index c.args.item.now (g.T.Item.name c.args.item.now) c.args.self.now.pile.items.items c.is_some.result refl
    (first_or _ _ _ (any_at (λ e. e.index == c.args.index) c.args.self.now.pile.items.items c.place_at.result c.is_some.result (c.place_at.ensures ∙ c.args.self.now.by_index c.args.index) c.is_some.ensures) c.if-is_some.true)

pub returns-else-is_some : goal.returns-else-is_some
returns-else-is_some g c =
    taken_there g.T.Item.name c.args.index c.args.item.now (g.T.Key.Named.bytes c.key.result) c.args.self.now.pile.items.items c.is_some-else-is_some.result c.key.ensures
    (second_or _ _ _ _ (any_at (λ e. e.index == c.args.index) c.args.self.now.pile.items.items c.place_at.result c.is_some.result (c.place_at.ensures ∙ c.args.self.now.by_index c.args.index) c.is_some.ensures) c.if-is_some.false
    (any_at (λ e. bytes_eq (g.T.Item.name e.item) (g.T.Key.Named.bytes c.key.result)) c.args.self.now.pile.items.items c.place_of.result c.is_some-else-is_some.result (c.place_of.ensures ∙ c.args.self.now.by_key c.key.result) c.is_some-else-is_some.ensures))
