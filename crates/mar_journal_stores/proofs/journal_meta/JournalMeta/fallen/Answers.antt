use Rattle.std.proofs.Common.{Some}
use Rattle.mar_store.specs.MemMeta.{values_of}
use Rattle.mar_journal_stores.proofs.MetaSteps.{store_left}
use Rattle.mar_journal_stores.proofs.journal_meta.JournalMeta.fallen.Goals as goal

pub of-requires : goal.of-requires
of-requires g c = store_left g.D.Disk.seen g.D.Disk.may_leave c.self.inside.disk c.self.inside.end (values_of c.self.inside.values) (values_of c.self.inside.synced) c.self.inside.changed.items (Some (values_of c.self.inside.values)) c.self.invariant
