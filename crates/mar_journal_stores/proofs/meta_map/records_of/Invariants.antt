use Rattle.std.proofs.Common.{map, take, ◌≡◌}
use Rattle.std.specs.List.{AllByRecursion}
use Rattle.mar_store.specs.MemMeta.{values_of}
use Rattle.mar_journal.specs.MetaRecords.{IsMeta, record_for}
use Rattle.mar_journal_stores.proofs.meta_map.records_of.Given as goal

abbrev pub invariant-loop-key : goal.invariant-loop-key
invariant-loop-key l = record {
  are : l.records.items ≡ map (record_for (values_of l.values)) (take l.key-index l.keys);
  valid : AllByRecursion IsMeta l.records.items;
}
