use Rattle.mar_journal_stores.proofs.ArchiveSteps.{idle_moments}
use Rattle.mar_journal_stores.proofs.journal_archive.JournalArchive.at_rest.Goals as goal

pub returns : goal.returns
returns g c = idle_moments g.T.Item.name g.T.JournalItem.spelled g.T.Item.fits g.D.Disk.seen g.D.Disk.may_leave c.args.self.now.log.disk c.args.self.now.log.end c.args.self.now.aside.gone.items c.args.self.now.entries.pile.items.items c.args.self.now.entries.pile.synced c.args.self.now.entries.pile.accepted c.args.self.now.log.waiting.items c.args.self.now.log.marks.items g.D.Disk.moment g.D.Disk.left_since g.met.D.Disk.only_now c.args.self.now.entries.pile.once c.args.self.now.backed
