use Rattle.std.proofs.Common.{take, ℕ, ◌≡◌}
use Rattle.mar_store.specs.MemMeta.{values_of}
use Rattle.mar_journal.specs.MetaRecords.{values_by}
use Rattle.mar_journal_stores.proofs.meta_map.map_of.Given as goal

abbrev pub invariant-loop-record : goal.invariant-loop-record
invariant-loop-record l = (k : ℕ) → values_of l.values k ≡ values_by (take l.record-index l.records) k
