use Rattle.mar_journal_stores.proofs.MetaSteps.{leaves_and_then}
use Rattle.mar_journal_stores.proofs.laws.metadata_moments_add_up.Goals as goal

pub returns : goal.returns
returns g c = leaves_and_then g.D.Disk.moment g.D.Disk.left_since
