use Rattle.std.proofs.Common.{None, refl}
use Rattle.mar_store.specs.MemMeta.{values_of}
use Rattle.mar_journal_stores.proofs.MetaSteps.{leaves_still, store_left, store_set}
use Rattle.mar_journal_stores.proofs.journal_meta.JournalMetaMeta.remove.Goals as goal

pub invariant_of-result : goal.invariant_of-result
invariant_of-result g c =
    store_set g.D.Disk.seen g.D.Disk.may_leave c.self.inside.disk c.self.inside.end (values_of c.self.inside.values) (values_of c.self.inside.synced) (values_of c.unset.new.values) c.self.inside.changed.items c.args.key None c.self.invariant (rw (← c.self.view_is) at c.requires.room)
    c.in-Ok.ensures.values c.unset.new.changed.items c.in-Ok.ensures.changed

pub of-requires : goal.of-requires
of-requires g c = store_left g.D.Disk.seen g.D.Disk.may_leave c.self.inside.disk c.self.inside.end (values_of c.self.inside.values) (values_of c.self.inside.synced) c.self.inside.changed.items None c.self.invariant

pub returns-in-Ok-clause-done : goal.returns-in-Ok-clause-done
returns-in-Ok-clause-done g c = rw (← c.self.view_is) c.in-Ok.ensures.values

pub returns-in-Ok-clause-changes : goal.returns-in-Ok-clause-changes
returns-in-Ok-clause-changes g c = rw (← c.self.view_is) c.in-Ok.ensures.changed

pub returns-in-Ok-clause-watched : goal.returns-in-Ok-clause-watched
returns-in-Ok-clause-watched g c = rw (← c.self.view_is) refl

pub returns-in-Err-clause-done : goal.returns-in-Err-clause-done
returns-in-Err-clause-done g c = rw (c.of.ensures, ← c.self.view_is) (leaves_still c.self.inside.synced.entries None)

pub returns-in-Err-clause-watched : goal.returns-in-Err-clause-watched
returns-in-Err-clause-watched g c = rw (c.of.ensures, ← c.self.view_is) refl
