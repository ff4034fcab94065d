use Rattle.std.proofs.Common.{◌∙◌, sym, ap}
use Rattle.std.specs.Prelude.{bytes_eq, option_map}
use Rattle.mar_types.specs.PlacesLemmas.{find_at}
use Rattle.mar_store.proofs.Stores.{name_there}
use Rattle.mar_store.proofs.entries.Entries.of_key.Goals as goal

pub returns : goal.returns
returns g c =
    ap (option_map (λ e. e.item)) (c.at.ensures ∙ sym (find_at (λ e. bytes_eq (g.T.Item.name e.item) (g.T.Key.Named.bytes c.args.key.now)) c.args.self.now.pile.items.items c.place_of.result (c.place_of.ensures ∙ c.args.self.now.by_key c.args.key.now)))
    ∙ sym (name_there g.T.Item.name (g.T.Key.Named.bytes c.args.key.now) c.args.self.now.pile.items.items)
