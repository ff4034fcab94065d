-- How often what epochs stand on has failed, and why they fail.
use Rattle.std.specs.Ordering.{nat_cmp}
use Rattle.std.specs.BTreeMap.{BTreeMap, get}
use Rattle.std.specs.Prelude.{Err, List, None, Ok, Option, Result, Some, [], true, ℕ, ⊤, ◌∷◌, ◌≡◌, ◌≢◌, ◌≤◌, ◌⊎◌}
use Rattle.mar_types.specs.Causes.{Rose}
use Rattle.mar_store.specs.Lost.{wreck_of}
use Rattle.mar_store.specs.Names.{Names}
use Rattle.mar_store.specs.declared.Lost.{Lost}
use Rattle.mar_store.specs.declared.Lost.TheVariants.{Fault, Memory}
use Rattle.mar_store.specs.declared.Miss.{Miss}
use Rattle.mar_store.specs.declared.Miss.TheVariants.{Fault as Missed, Memory as Forgot}
use Rattle.mar_epochs.specs.EpochArchives.{is_fault}
use Rattle.mar_epochs.specs.declared.slot.Slot.{Slot}
use Rattle.mar_epochs.specs.declared.slot.Slot.TheVariants.{Away, Leftover, Standing}

-- A store's count of faults doesn't fall where a call goes well, and a call answers a fault only where it rose.
abbrev pub CountsFaults : {S W : Type 0} → (S → ℕ) → (W → ℕ) → ℕ → Result S (Lost W) → Type 0
CountsFaults now left before (Ok s) = before ≤ now s
CountsFaults now left before (Err (Fault w)) = Rose before (left w)
CountsFaults now left before (Err (Memory w)) = ⊤

-- how often what keeps the names of epochs has failed, and how often the archives of each
pub record Failures : Type 0 where
  pub names : ℕ
  pub archives : ℕ → ℕ

-- no count fell
pub record KeepsCounts (before now : Failures) : Type 0 where
  pub names : before.names ≤ now.names
  pub archives : (k : ℕ) → before.archives k ≤ now.archives k

-- What keeps the names failed once more, or the archives of an epoch did, which had failed so often before.
abbrev pub FailsAt : ℕ → ℕ → Failures → Failures → Type 0
FailsAt e was before now = Rose before.names now.names ⊎ Rose was (now.archives e)

-- A call of an epoch whose archives have failed so often: no count falls where it goes well, and it answers a fault only where
-- one of the two rose.
abbrev pub CountsAt : {S W : Type 0} → (S → Failures) → (W → Failures) → ℕ → ℕ → Failures → Result S (Lost W) → Type 0
CountsAt now left e was before (Ok s) = (before.names ≤ (now s).names) × (was ≤ (now s).archives e) × ((k : ℕ) → k ≢ e → before.archives k ≤ (now s).archives k)
CountsAt now left e was before (Err l) = is_fault l ≡ true → FailsAt e was before (left (wreck_of l))

-- The same where an epoch is destroyed, with its archives: only what keeps the names can fail.
abbrev pub CountsOthers : {S W : Type 0} → (S → Failures) → (W → Failures) → ℕ → Failures → Result S (Lost W) → Type 0
CountsOthers now left e before (Ok s) = (before.names ≤ (now s).names) × ((k : ℕ) → k ≢ e → before.archives k ≤ (now s).archives k)
CountsOthers now left e before (Err l) = is_fault l ≡ true → Rose before.names (left (wreck_of l)).names

-- The same of a reading, which asks no archives either.
abbrev pub CountsRead : {T : Type 0} → Failures → Failures → Result T Miss → Type 0
CountsRead before now (Ok v) = KeepsCounts before now
CountsRead before now (Err Missed) = Rose before.names now.names
CountsRead before now (Err Forgot) = ⊤

-- The same of a reopening, which asks no archives.
abbrev pub CountsNames : {S W : Type 0} → (S → Failures) → (W → Failures) → Failures → Result S (Lost W) → Type 0
CountsNames now left before (Ok s) = before.names ≤ (now s).names
CountsNames now left before (Err l) = is_fault l ≡ true → Rose before.names (left (wreck_of l)).names

-- IN THE CODE

-- how often what stands under a name has failed
abbrev pub count_under : {W : Type 0} → (W → ℕ) → Option W → ℕ
count_under left None = 0
count_under left (Some w) = left w

abbrev pub count_at : {A W : Type 0} → (A → ℕ) → (W → ℕ) → Option (Slot A W) → Option W → ℕ
count_at faults left (Some (Standing v o)) name = faults v
count_at faults left (Some (Leftover w)) name = left w
count_at faults left (Some Away) name = count_under left name
count_at faults left None name = count_under left name

-- the first of the ways in which names may be left
abbrev pub first_way : {W : Type 0} → List (Names W) → Names W
first_way [] name = None
first_way (names ∷ ways) name = names name

abbrev pub failures_of : {A W : Type 0} → (A → ℕ) → (W → ℕ) → ℕ → BTreeMap ℕ (Slot A W) → Names W → Failures
failures_of faults left count slots names = record { names = count; archives = λ k. count_at faults left (get nat_cmp slots k) (names k) }

-- Archives stand in the slot of their epoch as a call of them answered, with their count.
abbrev pub PutsCounts : {A W S L : Type 0} → (A → ℕ) → (W → ℕ) → (S → Failures) → (L → Failures) → ℕ → Failures → Result A (Lost W) → Result S (Lost L) → Type 0
PutsCounts faults left now lost e old (Ok v) (Ok s) = ((now s).names ≡ old.names) × ((now s).archives e ≡ faults v) × ((k : ℕ) → k ≢ e → (now s).archives k ≡ old.archives k)
PutsCounts faults left now lost e old (Ok v) (Err m) = ⊥
PutsCounts faults left now lost e old (Err l) (Ok s) = ⊥
PutsCounts faults left now lost e old (Err l) (Err m) = (is_fault m ≡ is_fault l) × ((lost (wreck_of m)).archives e ≡ left (wreck_of l))
