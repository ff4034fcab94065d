use Rattle.mar_store.specs.MemMeta.{values_of}
use Rattle.mar_journal_stores.proofs.MetaSteps.{store_opened}
use Rattle.mar_journal_stores.proofs.journal_meta.JournalMeta.open.Goals as goal

pub invariant_of-result : goal.invariant_of-result
invariant_of-result g c =
    let done = c.in-Ok.ensures.done in
    store_opened g.D.Disk.seen g.D.Disk.may_leave c.open_maps.new.disk c.in-Ok.end (values_of c.in-Ok.values) (values_of c.in-Ok.synced) done.0 done.1 done.3 done.4 c.new.result.items c.new.ensures.items
