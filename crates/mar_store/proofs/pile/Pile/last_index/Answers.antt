use Rattle.std.proofs.Common.{◌∙◌, ap, map}
use Rattle.mar_store.specs.Ranges.{last_end}
use Rattle.mar_store.specs.Entries.{seen}
use Rattle.mar_store.proofs.LastEnd.{last_is_end}
use Rattle.mar_store.proofs.pile.Pile.last_index.Goals as goal

pub returns : goal.returns
returns g c = c.last.ensures ∙ (ap last_end c.args.self.now.held_is ∙ last_is_end (map seen c.args.self.now.items.items))
