use Rattle.mar_store.specs.MemMeta.{values_of}
use Rattle.mar_journal_stores.proofs.MetaSteps.{is_batch}
use Rattle.mar_journal_stores.proofs.meta_map.batch_of.Goals as goal

pub returns-clause-good : goal.returns-clause-good
returns-clause-good c = is_batch c.in_ok-records.records.items c.args.changed.now (values_of c.args.values.now) c.in_ok-records.ensures.are c.in_ok-records.ensures.valid c.requires.some c.requires.few
