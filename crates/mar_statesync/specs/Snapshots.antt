-- A ledger at a height with the finalization of the next block, and its bytes.
use Rattle.std.specs.List.{AllByRecursion, flat_map}
use Rattle.std.specs.Prelude.{List, None, Option, Some, if◌then◌else◌, ℕ, ◌++◌, ◌+◌, ◌==◌, ◌≡◌, ◌≤◌}
use Rattle.mar_types.specs.Varint.{IsNumber, varint}
use Rattle.mar_cert.specs.Block.{Block}
use Rattle.mar_cert.specs.Finalization.{Finalization, finalization_bytes}
use Rattle.mar_cert.specs.MockScheme.{IsFinalization}
use Rattle.mar_ledger.specs.Books.{AreBooks, Books}
use Rattle.mar_ledger.specs.Ledger.{Ledger, ledger_at}

-- the books after the block at a height, and the finalization of the block one above
pub record Snapshot : Type 0 where
  pub height : ℕ
  pub books : Books
  pub finalization : Finalization

-- height, rejected count, balances
abbrev pub state_bytes : ℕ → Books → List ℕ
state_bytes height books = varint height ++ varint books.rejected ++ flat_map varint books.balances

-- those, and the finalization
abbrev pub snapshot_bytes : Snapshot → List ℕ
snapshot_bytes s = state_bytes s.height s.books ++ finalization_bytes s.finalization

-- What the books behind a height may be: no more rejected than were entered.
pub record IsState (height : ℕ) (books : Books) : Type 0 where
  pub height_fits : IsNumber height
  pub rejected_fits : IsNumber books.rejected
  pub balances_fit : AllByRecursion IsNumber books.balances
  pub are : AreBooks books
  pub rejected : books.rejected ≤ height + 1

-- a snapshot with the certificate of a committee of n
pub record IsSnapshot (n : ℕ) (s : Snapshot) : Type 0 where
  pub state : IsState s.height s.books
  pub finalization : IsFinalization n s.finalization

-- the bytes are no snapshot's
abbrev pub IsNoSnapshot : ℕ → List ℕ → Type 0
IsNoSnapshot n bytes = (s : Snapshot) → IsSnapshot n s → bytes ≡ snapshot_bytes s → ⊥

-- TAKING

-- a snapshot is taken where the block is one above the ledger
abbrev pub taken_behind : Option ℕ → Books → Finalization → ℕ → Option Snapshot
taken_behind None books f height = None
taken_behind (Some h) books f height = if height == h + 1 then Some (record { height = h; books = books; finalization = f }) else None

abbrev pub taken_at : Ledger → Finalization → ℕ → Option Snapshot
taken_at l f height = taken_behind l.height l.books f height

-- A snapshot is of the ledger, and its finalization names the block that comes next.
pub record IsTaken (l : Ledger) (b : Block) (s : Snapshot) : Type 0 where
  pub of_ledger : l ≡ ledger_at s.height s.books
  pub next : b.height ≡ s.height + 1
  pub named : s.finalization.payload ≡ b.digest
