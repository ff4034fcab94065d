use Rattle.std.proofs.Common.{arith}
use Rattle.mar_journal.proofs.Firsts.{no_prune_behind, no_put_behind, prune_behind, put_behind}
use Rattle.mar_journal.proofs.archive_record.ArchiveRecordRecord.read.Goals as goal

pub returns-in-Some : goal.returns-in-Some
returns-in-Some g c = put_behind g.T.Item.name g.T.JournalItem.spelled g.T.Item.fits c.args.bytes.now c.in-Some.index c.in-Some.item c.in-Some.size c.in-0.len_at_least (omega arith) (rw c.in-Some.is at c.in_ok-index-in-0.ensures)

pub returns-in-None : goal.returns-in-None
returns-in-None g c = no_put_behind g.T.Item.name g.T.JournalItem.spelled g.T.Item.fits c.args.bytes.now c.in-0.len_at_least (omega arith) (rw c.in-None.is at c.in_ok-index-in-0.ensures)

pub returns-in-Some-read_number : goal.returns-in-Some-read_number
returns-in-Some-read_number g c = prune_behind g.T.Item.name g.T.JournalItem.spelled g.T.Item.fits c.args.bytes.now c.in-Some-read_number.min c.in-Some-read_number.size c.in-1.len_at_least (omega arith) c.in-Some-read_number.ensures

pub returns-in-None-read_number : goal.returns-in-None-read_number
returns-in-None-read_number g c = no_prune_behind g.T.Item.name g.T.JournalItem.spelled g.T.Item.fits c.args.bytes.now c.in-1.len_at_least (omega arith) c.in-None-read_number.ensures
