use Rattle.mar_journal_stores.proofs.ArchiveSteps.{nothing_lost}
use Rattle.mar_journal_stores.proofs.journal_archive.JournalArchive.left.Goals as goal

pub invariant_of-result : goal.invariant_of-result
invariant_of-result g c = rw (c.into_pile.ensures, c.into_disk.ensures) (record {
  may_is = c.args.self.may_is;
  is_left = nothing_lost g.T.Item.name g.T.JournalItem.spelled g.T.Item.fits g.D.Disk.seen g.D.Disk.may_leave c.args.self.log.disk c.args.self.log.end c.args.self.aside.gone.items c.args.self.entries.pile.items.items c.args.self.entries.pile.synced c.args.self.entries.pile.accepted c.args.self.log.waiting.items c.args.self.log.marks.items c.args.self.entries.pile.once c.args.self.backed;
})
