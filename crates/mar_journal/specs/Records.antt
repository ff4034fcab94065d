-- Records at the front of bytes, and batches of them.
use Rattle.std.specs.Prelude.{List, length, drop, ℕ, ◌++◌, ◌+◌, ◌<◌, ◌≡◌, ◌≤◌}
use Rattle.mar_journal.specs.Format.{IsBatch, IsDamaged, IsJournal, behind_gate, first_version}
use Rattle.mar_journal.specs.declared.file.Scan.{Scan}
use Rattle.mar_journal.specs.declared.file.Scan.TheVariants.{Damaged, Found}

-- this record stands first, and takes so many bytes
pub record StandsFirst {R : Type 0} (spelled : R → List ℕ) (Valid : R → Type 0) (r : R) (size : ℕ) (bytes : List ℕ) : Type 0 where
  pub valid : Valid r
  pub size_is : length (spelled r) ≡ size
  pub bytes_are : bytes ≡ spelled r ++ drop size bytes

-- this batch stands first, takes so many bytes, and has one more behind it
pub record BatchStandsFirst {R : Type 0} (spelled : R → List ℕ) (Valid : R → Type 0) (records : List R) (size : ℕ) (bytes : List ℕ) : Type 0 where
  pub good : IsBatch spelled Valid records
  pub size_is : length (behind_gate spelled records) ≡ size
  pub followed : size < length bytes
  pub bytes_are : bytes ≡ behind_gate spelled records ++ drop size bytes

-- what a file shows that isn't new
abbrev pub Shows : {R : Type 0} → (R → List ℕ) → (R → Type 0) → List ℕ → Scan R → Type 0
Shows spelled Valid file (Found records end) = IsJournal spelled Valid records.items end file
Shows spelled Valid file (Damaged at) = IsDamaged spelled Valid at file

-- a record that may be written: 2,048 of them have fewer bytes than a length can say
pub record IsWritable {R : Type 0} (spelled : R → List ℕ) (Valid : R → Type 0) (r : R) : Type 0 where
  pub valid : Valid r
  pub small : length (spelled r) ≤ first_version.value + 64
