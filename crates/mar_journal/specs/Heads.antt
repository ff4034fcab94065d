-- What stands before the value of a put.
use Rattle.std.specs.Prelude.{Bool, List, drop, length, take, ℕ, ◌++◌, ◌+◌, ◌≡◌, ◌≤◌}
use Rattle.mar_types.specs.Varint.{IsNumber, varint}
use Rattle.mar_journal.specs.ArchiveRecords.{IsArchived, put_bytes}
use Rattle.mar_journal.specs.declared.archive_record.ArchiveRecord.TheVariants.{Put}

-- An index, a key of so many bytes and a length stand first; the key and the value begin at these places.
pub record HeadStandsFirst (key_size index key size at : ℕ) (bytes : List ℕ) : Type 0 where
  pub index_fits : IsNumber index
  pub size_fits : IsNumber size
  pub key_at : key ≡ length (varint index)
  pub value_at : at ≡ key + key_size + length (varint size)
  pub within : at ≤ length bytes
  pub bytes_are : bytes ≡ varint index ++ (take key_size (drop key bytes) ++ (varint size ++ drop at bytes))

-- no index, key of so many bytes and length stand first
abbrev pub HasNoHead : ℕ → List ℕ → Type 0
HasNoHead key_size bytes = (index size : ℕ) (key rest : List ℕ) → IsNumber index → IsNumber size → length key ≡ key_size → bytes ≡ varint index ++ (key ++ (varint size ++ rest)) → ⊥

-- this put stands first, behind the byte that says that it is one, and takes so many bytes
pub record PutStandsFirst {T : Type 0} (name spelled : T → List ℕ) (fits : ℕ → T → Bool) (index : ℕ) (value : T) (size : ℕ) (bytes : List ℕ) : Type 0 where
  pub valid : IsArchived fits spelled (Put index value)
  pub size_is : length (put_bytes name spelled index value) ≡ size
  pub bytes_are : bytes ≡ put_bytes name spelled index value ++ drop size bytes

-- no put stands first
abbrev pub HasNoPut : {T : Type 0} → (T → List ℕ) → (T → List ℕ) → (ℕ → T → Bool) → List ℕ → Type 0
HasNoPut name spelled fits bytes = (index : ℕ) (value : _) (rest : List ℕ) → IsArchived fits spelled (Put index value) → bytes ≡ put_bytes name spelled index value ++ rest → ⊥
