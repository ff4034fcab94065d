use Rattle.mar_journal_stores.proofs.Marks.{parted}
use Rattle.mar_journal_stores.proofs.laws.tickets_write_what_came_before.Goals as goal

pub returns : goal.returns
returns c = λ t count before later old new front upto. parted t count before later old new upto front.later front.within
