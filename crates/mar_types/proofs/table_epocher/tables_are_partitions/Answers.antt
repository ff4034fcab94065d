use Rattle.mar_types.specs.TableLemmas.{one_length, table_partition}
use Rattle.mar_types.proofs.table_epocher.tables_are_partitions.Goals as goal

pub returns-clause-partition : goal.returns-clause-partition
returns-clause-partition c = table_partition

pub returns-clause-one_length : goal.returns-clause-one_length
returns-clause-one_length c = one_length
