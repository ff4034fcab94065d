-- Records of a metadata store: their bytes, and the values that they leave.
use Rattle.std.specs.Prelude.{List, None, Option, Some, [], if◌then◌else◌, ℕ, ◌++◌, ◌==◌, ◌∷◌}
use Rattle.mar_types.specs.Varint.{IsNumber, varint}
use Rattle.mar_store.specs.Values.{Values, no_values}
use Rattle.mar_journal.specs.declared.meta_record.MetaRecord.{MetaRecord}
use Rattle.mar_journal.specs.declared.meta_record.MetaRecord.TheVariants.{Remove, Set}

abbrev pub meta_bytes : MetaRecord → List ℕ
meta_bytes (Set key value) = 2 ∷ (varint key ++ varint value)
meta_bytes (Remove key) = 3 ∷ varint key

abbrev pub IsMeta : MetaRecord → Type 0
IsMeta (Set key value) = IsNumber key × IsNumber value
IsMeta (Remove key) = IsNumber key

-- the values after one record
abbrev pub changed_by : MetaRecord → Values → Values
changed_by (Set key value) values k = if k == key then Some value else values k
changed_by (Remove key) values k = if k == key then None else values k

-- the values after some records
abbrev pub values_from : Values → List MetaRecord → Values
values_from values [] = values
values_from values (r ∷ rs) = values_from (changed_by r values) rs

abbrev pub values_by : List MetaRecord → Values
values_by records = values_from no_values records

-- the record that leaves a key as these values have it
abbrev pub record_by : ℕ → Option ℕ → MetaRecord
record_by key None = Remove key
record_by key (Some value) = Set key value

abbrev pub record_for : Values → ℕ → MetaRecord
record_for values key = record_by key (values key)
