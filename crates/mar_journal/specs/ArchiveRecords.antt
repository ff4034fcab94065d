-- Records of an archive: their bytes, and what they leave.
use Rattle.std.specs.Prelude.{Bool, List, [], filter, if◌then◌else◌, length, nat_le, true, ℕ, ◌++◌, ◌∷◌, ◌≡◌}
use Rattle.mar_types.specs.Varint.{IsNumber, varint}
use Rattle.mar_store.specs.Kept.{At}
use Rattle.mar_store.specs.Named.{is_taken}
use Rattle.mar_journal.specs.declared.archive_record.ArchiveRecord.{ArchiveRecord}
use Rattle.mar_journal.specs.declared.archive_record.ArchiveRecord.TheVariants.{Prune, Put}

abbrev pub put_bytes : {T : Type 0} → (T → List ℕ) → (T → List ℕ) → ℕ → T → List ℕ
put_bytes name spelled index value = varint index ++ (name value ++ (varint (length (spelled value)) ++ spelled value))

abbrev pub archive_bytes : {T : Type 0} → (T → List ℕ) → (T → List ℕ) → ArchiveRecord T → List ℕ
archive_bytes name spelled (Put index value) = 0 ∷ put_bytes name spelled index value
archive_bytes name spelled (Prune min) = 1 ∷ varint min

abbrev pub IsArchived : {T : Type 0} → (ℕ → T → Bool) → (T → List ℕ) → ArchiveRecord T → Type 0
IsArchived fits spelled (Put index value) = IsNumber index × (fits index value ≡ true) × IsNumber (length (spelled value))
IsArchived fits spelled (Prune min) = IsNumber min

-- the values after one record: a put is ignored where its index or its name is held
abbrev pub kept_by : {T : Type 0} → (T → List ℕ) → List (At T) → ArchiveRecord T → List (At T)
kept_by name xs (Put index value) = if is_taken name xs (record { height = index; value = value }) then xs else xs ++ record { height = index; value = value } ∷ []
kept_by name xs (Prune min) = filter (λ x. nat_le min x.height) xs

-- the values after some records
abbrev pub kept_from : {T : Type 0} → (T → List ℕ) → List (At T) → List (ArchiveRecord T) → List (At T)
kept_from name xs [] = xs
kept_from name xs (r ∷ rs) = kept_from name (kept_by name xs r) rs
