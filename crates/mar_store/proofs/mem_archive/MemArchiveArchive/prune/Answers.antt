use Rattle.std.proofs.Common.{ap}
use Rattle.mar_store.proofs.Settled.{fails_same}
use Rattle.mar_store.proofs.Stores.{prunes, pruned_exact, covers_pruned}
use Rattle.mar_store.proofs.mem_archive.MemArchiveArchive.prune.Goals as goal

pub returns-in-Ok-clause-done : goal.returns-in-Ok-clause-done
returns-in-Ok-clause-done g c = prunes c.args.min c.args.self.entries.pile.items.items _ c.args.self.entries.pile.synced _ c.args.self.entries.pile.once c.in-Ok.ensures.items c.in-Ok.ensures.synced

pub returns-in-Ok-clause-covers : goal.returns-in-Ok-clause-covers
returns-in-Ok-clause-covers g c = covers_pruned c.args.min c.args.self.entries.pile.accepted c.args.self.entries.pile.items.items _ c.args.self.entries.pile.once c.in-Ok.ensures.items

pub returns-in-Err-clause-done : goal.returns-in-Err-clause-done
returns-in-Err-clause-done g c = fails_same _ _ _ _ (ap (λ p. p.items.items) c.in-Err.ensures.err) (ap (λ p. p.synced) c.in-Err.ensures.err)

pub returns-in-Ok-clause-exact : goal.returns-in-Ok-clause-exact
returns-in-Ok-clause-exact g c = pruned_exact c.args.min c.args.self.entries.pile.items.items _ c.args.self.entries.pile.synced _ c.in-Ok.ensures.items c.in-Ok.ensures.synced
