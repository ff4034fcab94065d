use Rattle.std.proofs.Common.{◌∙◌, sym, ap}
use Rattle.std.specs.Prelude.{option_map, ◌==◌}
use Rattle.mar_types.specs.PlacesLemmas.{find_at}
use Rattle.mar_store.proofs.Stores.{value_there}
use Rattle.mar_store.proofs.entries.Entries.at_index.Goals as goal

pub returns : goal.returns
returns g c =
    ap (option_map (λ e. e.item)) (c.at.ensures ∙ sym (find_at (λ e. e.index == c.args.index) c.args.self.now.pile.items.items c.place_at.result (c.place_at.ensures ∙ c.args.self.now.by_index c.args.index)))
    ∙ sym (value_there c.args.index c.args.self.now.pile.items.items)
