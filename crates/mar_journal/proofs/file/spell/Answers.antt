use Rattle.mar_journal.proofs.Spelling.{one_spelled}
use Rattle.mar_journal.proofs.file.spell.Goals as goal

pub loop-record-preserved : goal.loop-record-preserved
loop-record-preserved g c = one_spelled g.R.Record.spelled c.args.records.now c.loop-record.record-index c.record-item.result c.loop-record.bytes.items c.write.new.out.items c.loop-record-test.true c.record-item.is c.loop-record.invariant c.in_ok-write.ensures
