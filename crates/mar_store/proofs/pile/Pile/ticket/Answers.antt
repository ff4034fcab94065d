use Rattle.mar_store.proofs.Stores.{all_counted}
use Rattle.mar_store.proofs.pile.Pile.ticket.Goals as goal

pub returns-clause-covered : goal.returns-clause-covered
returns-clause-covered g c = all_counted _ c.args.self.now.accepted c.args.self.now.items.items c.new.ensures c.args.self.now.counted
