use Rattle.std.proofs.Common.{None, [], ◌∷◌}
use Rattle.mar_store.specs.MemMeta.{values_of}
use Rattle.mar_journal_stores.proofs.MetaSteps.{store_left, wreck_moments}
use Rattle.mar_journal_stores.proofs.journal_meta.JournalMeta.at_rest.Goals as goal

pub returns : goal.returns
returns g c = rw (← c.self.view_is) (wreck_moments g.D.Disk.seen g.D.Disk.may_leave g.D.Disk.moment g.D.Disk.left_since g.met.D.Disk.only_now c.self.inside.disk (values_of c.self.inside.synced ∷ [])
    (store_left g.D.Disk.seen g.D.Disk.may_leave c.self.inside.disk c.self.inside.end (values_of c.self.inside.values) (values_of c.self.inside.synced) c.self.inside.changed.items None c.self.invariant))
