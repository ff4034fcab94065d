-- What is read of a snapshot's bytes.
use Rattle.std.specs.List.{AllByRecursion, flat_map}
use Rattle.std.specs.Prelude.{Err, List, Ok, Result, length, sum, ℕ, ◌++◌, ◌+◌, ◌<◌, ◌≡◌, ◌⊎◌}
use Rattle.mar_types.specs.Varint.{IsNumber, varint}
use Rattle.mar_types.specs.declared.Error.{Error}
use Rattle.mar_types.specs.declared.Error.TheVariants.{Memory}
use Rattle.mar_ledger.specs.Books.{Books, all_money}
use Rattle.mar_statesync.specs.Snapshots.{IsState, Snapshot, state_bytes}
use Rattle.mar_statesync.specs.declared.decode_error.DecodeError.{DecodeError}
use Rattle.mar_statesync.specs.declared.decode_error.DecodeError.TheVariants.{Balances, Part, Rejected}

-- So many numbers were taken from the front.
pub record TakesNumbers (count : ℕ) (numbers old new : List ℕ) : Type 0 where
  pub counted : length numbers ≡ count
  pub taken : old ≡ flat_map varint numbers ++ new

-- so many don't stand at the front
abbrev pub HasNoNumbers : ℕ → List ℕ → Type 0
HasNoNumbers count bytes =
    (numbers rest : List ℕ) → AllByRecursion IsNumber numbers → length numbers ≡ count → bytes ≡ flat_map varint numbers ++ rest → ⊥

-- A height and books were taken from the front.
pub record TakesState (height : ℕ) (books : Books) (old new : List ℕ) : Type 0 where
  pub is : IsState height books
  pub taken : old ≡ state_bytes height books ++ new

-- none stand at the front
abbrev pub HasNoState : List ℕ → Type 0
HasNoState bytes = (height : ℕ) (books : Books) (rest : List ℕ) → IsState height books → bytes ≡ state_bytes height books ++ rest → ⊥

-- REFUSALS

-- A height, a rejected count and sixteen balances stand at the front.
pub record BeginsWith (bytes : List ℕ) : Type 0 where
  pub height : ℕ
  pub rejected : ℕ
  pub balances : List ℕ
  pub sixteen : length balances ≡ 16
  pub rest : List ℕ
  pub spelled : bytes ≡ state_bytes height (record { balances = balances; rejected = rejected }) ++ rest

-- the balances hold another sum
abbrev pub HasOtherSum : List ℕ → Type 0
HasOtherSum bytes = (front : BeginsWith bytes) × (sum front.balances ≡ all_money → ⊥)

-- more were rejected than were entered up to the height
abbrev pub RejectsTooMany : List ℕ → Type 0
RejectsTooMany bytes = (front : BeginsWith bytes) × (front.height + 1 < front.rejected)

-- why nothing is read where there is nothing of this kind
abbrev pub Refuses : Type 0 → List ℕ → DecodeError → Type 0
Refuses none bytes (Part error) = (error ≡ Memory) ⊎ none
Refuses none bytes Balances = none × HasOtherSum bytes
Refuses none bytes Rejected = none × RejectsTooMany bytes

-- what a reading answers of a snapshot's bytes: that one, unless memory ran out
abbrev pub IsReadAs : Snapshot → Result Snapshot DecodeError → Type 0
IsReadAs s (Ok found) = found ≡ s
IsReadAs s (Err error) = error ≡ Part Memory
