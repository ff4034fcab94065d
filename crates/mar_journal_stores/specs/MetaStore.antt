-- A metadata store that is a journal, and what is left of one.
use Rattle.std.specs.Prelude.{Contains, List, None, Option, Some, [], false, length, ℕ, ◌<◌, ◌==◌, ◌∷◌, ◌≡◌, ◌≤◌}
use Rattle.std.proofs.Common.{arith}
use Rattle.std.specs.BTreeMap.{BTreeMap, is_at}
use Rattle.std.specs.List.{list_any}
use Rattle.std.specs.Map.{lookup}
use Rattle.std.specs.Ordering.{nat_cmp}
use Rattle.mar_store.specs.Values.{Values}
use Rattle.mar_store.specs.Watch.{Watch}
use Rattle.mar_journal.specs.Format.{Stands}
use Rattle.mar_journal.specs.Journal.{IsSettled}
use Rattle.mar_journal.specs.MetaRecords.{IsMeta, meta_bytes, values_by}
use Rattle.mar_journal_stores.specs.Watches.{journal_watch}
use Rattle.mar_journal.specs.declared.MetaRecord.{MetaRecord}

-- the values of these keys
abbrev pub values_in : List (ℕ × ℕ) → Values
values_in entries key = lookup (is_at (nat_cmp key)) entries

-- a metadata store as its callers see it: its maps by their keys with their values, and its disk
pub record MetaView (D : Type 0) : Type 0 where
  pub current : List (ℕ × ℕ)
  pub synced : List (ℕ × ℕ)
  pub changed : List ℕ
  pub disk : D
  pub faults : ℕ
  pub due : List ℕ

-- what is left of one
pub record MetaLeft (D : Type 0) : Type 0 where
  pub synced : List (ℕ × ℕ)
  -- the map of a sync that failed
  pub failed : Option (List (ℕ × ℕ))
  pub disk : D
  -- where the file was seen to be damaged
  pub damage : Option ℕ
  pub faults : ℕ
  pub due : List ℕ

abbrev pub failed_entries : Option (BTreeMap ℕ ℕ) → Option (List (ℕ × ℕ))
failed_entries None = None
failed_entries (Some m) = Some m.entries

abbrev pub failed_in : Option (List (ℕ × ℕ)) → Option Values
failed_in None = None
failed_in (Some entries) = Some (values_in entries)

abbrev pub left_by_meta : Values → Option Values → List Values
left_by_meta synced None = synced ∷ []
left_by_meta synced (Some failed) = synced ∷ failed ∷ []

abbrev pub left_of_meta : {D : Type 0} → MetaLeft D → List Values
left_of_meta w = left_by_meta (values_in w.synced) (failed_in w.failed)

-- what each tells of its failures
abbrev pub meta_watch : {D : Type 0} → MetaView D → Watch
meta_watch s = journal_watch s.faults s.due

abbrev pub left_watch : {D : Type 0} → MetaLeft D → Watch
left_watch w = journal_watch w.faults w.due

pub some_of_meta : {D : Type 0} → (w : MetaLeft D) → 0 < length (left_of_meta w)
some_of_meta w = some_by (values_in w.synced) (failed_in w.failed)
  where
    some_by : (synced : Values) (failed : Option Values) → 0 < length (left_by_meta synced failed)
    some_by synced None = omega arith
    some_by synced (Some failed) = omega arith

pub one_of_meta : {D : Type 0} → (s : MetaView D) → 0 < length (values_in s.synced ∷ [])
one_of_meta s = omega arith

-- The journal's records leave the synced values, from which the current ones differ at the changed keys alone.
pub record IsMetaStore {D : Type 0} (seen : D → List ℕ) (may_leave : D → List ℕ → Type 0) (disk : D) (end : ℕ) (current synced : Values) (changed : List ℕ) : Type 0 where
  pub records : List MetaRecord
  pub settled : IsSettled meta_bytes IsMeta seen may_leave records end disk
  pub values_are : values_by records ≡ synced
  pub kept : (k : ℕ) → list_any (λ x. x == k) changed ≡ false → current k ≡ synced k
  pub few : length changed ≤ 2048

-- the file stands for one of these maps
abbrev pub IsMetaFile : List Values → List ℕ → Type 0
IsMetaFile left file = (records : List MetaRecord) × Stands meta_bytes IsMeta records file × Contains left (values_by records)

-- Each image stands for one of these maps.
abbrev pub IsMetaLeft : {D : Type 0} → (D → List ℕ → Type 0) → D → List Values → Type 0
IsMetaLeft may_leave disk left = (c : List ℕ) → may_leave disk c → IsMetaFile left c
