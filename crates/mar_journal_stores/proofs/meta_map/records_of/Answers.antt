use Rattle.std.proofs.Common.{subst, sym}
use Rattle.std.specs.List.{AllByRecursion}
use Rattle.mar_store.specs.MemMeta.{values_of}
use Rattle.mar_store.proofs.Lookups.{AllByRecursion-push}
use Rattle.mar_journal.specs.MetaRecords.{IsMeta, record_for}
use Rattle.mar_journal_stores.proofs.Copies.{one_mapped}
use Rattle.mar_journal_stores.proofs.meta_map.records_of.Goals as goal

pub loop-key-preserved : goal.loop-key-preserved
loop-key-preserved c = record {
  are = one_mapped (record_for (values_of c.args.values.now)) c.args.keys.now c.loop-key.key-index 0 c.loop-key-test.true c.loop-key.records.items c.push.new.self.items c.record_of.result c.in_ok-push.ensures.items c.record_of.ensures.is c.loop-key.invariant.are;
  valid = subst (AllByRecursion IsMeta) (sym c.in_ok-push.ensures.items) (AllByRecursion-push IsMeta c.loop-key.records.items c.record_of.result c.loop-key.invariant.valid c.record_of.ensures.valid);
}
