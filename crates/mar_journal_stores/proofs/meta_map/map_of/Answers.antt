use Rattle.std.proofs.lemmas.List.{get_or_default}
use Rattle.mar_store.specs.MemMeta.{values_of}
use Rattle.mar_journal_stores.proofs.MetaSteps.{one_more_record}
use Rattle.mar_journal_stores.proofs.meta_map.map_of.Goals as goal

pub loop-record-preserved : goal.loop-record-preserved
loop-record-preserved c = one_more_record c.args.records.now c.loop-record.record-index _ (values_of c.loop-record.values) (values_of c.apply.new.values) c.loop-record-test.true (get_or_default c.args.records.now c.loop-record.record-index _ _ c.loop-record-test.true) c.loop-record.invariant c.in_ok-apply.ensures
