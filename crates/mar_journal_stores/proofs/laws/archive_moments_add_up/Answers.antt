use Rattle.mar_journal_stores.proofs.ArchiveSteps.{stays_and_then}
use Rattle.mar_journal_stores.proofs.laws.archive_moments_add_up.Goals as goal

pub returns : goal.returns
returns g c = stays_and_then g.T.Item.name g.T.JournalItem.spelled g.T.Item.fits g.D.Disk.moment g.D.Disk.left_since
