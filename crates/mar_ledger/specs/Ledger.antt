-- A ledger as it stands in a metadata store, and what a delivery makes of it.
use Rattle.std.specs.Prelude.{Contains, List, None, Option, Some, [], get_or, if◌then◌else◌, nat_lt, ℕ, ⊤, ◌+◌, ◌<◌, ◌==◌, ◌^◌, ◌∷◌, ◌≡◌, ◌≤◌, ◌⊎◌}
use Rattle.mar_store.specs.Values.{Values, no_values}
use Rattle.mar_store.specs.Watch.{Watch}
use Rattle.mar_ledger.specs.Books.{AreBooks, Books, first_books, is_covered, posted}
use Rattle.mar_ledger.specs.declared.applied.Applied.{Applied as Outcome}
use Rattle.mar_ledger.specs.declared.applied.Applied.TheVariants.{Applied, Rejected, Seen}
use Rattle.mar_ledger.specs.declared.place.Place.{Place}
use Rattle.mar_ledger.specs.declared.place.Place.TheVariants.{Above, Before, Next}
use Rattle.mar_ledger.specs.declared.transfer.Transfer.{Transfer}

-- the height of the last block that was entered, and the books after it
pub record Ledger : Type 0 where
  pub height : Option ℕ
  pub books : Books

-- before any block
abbrev pub first_ledger : Ledger
first_ledger = record { height = None; books = first_books }

-- the height of the next block to enter
abbrev pub next_of : Option ℕ → ℕ
next_of None = 0
next_of (Some h) = h + 1

-- the ledger behind a block at this height
abbrev pub ledger_at : ℕ → Books → Ledger
ledger_at height books = record { height = Some height; books = books }

-- KEYS: 0 to 15 have the balances, 16 the height, 17 the rejected count; before any block there are none

-- the values behind a block, over other ones
abbrev pub written : ℕ → Books → Values → Values
written height books others key =
    if nat_lt key 16 then Some (get_or books.balances key 0)
    else if key == 16 then Some height
    else if key == 17 then Some books.rejected
    else others key

abbrev pub values_behind : Option ℕ → Books → Values
values_behind None books = no_values
values_behind (Some height) books = written height books no_values

abbrev pub ledger_values : Ledger → Values
ledger_values l = values_behind l.height l.books

-- What a ledger may be: sixteen balances that hold all the money, and no more rejected than were entered.
pub record IsLedger (l : Ledger) : Type 0 where
  pub books : AreBooks l.books
  pub rejected : l.books.rejected ≤ next_of l.height
  pub fits : next_of l.height ≤ 2 ^ 64
  pub first : l.height ≡ None → l ≡ first_ledger

-- the values are a ledger's
pub record HoldsLedger (values : Values) (l : Ledger) : Type 0 where
  pub is : IsLedger l
  pub values_are : (key : ℕ) → values key ≡ ledger_values l key

-- they are no ledger's
abbrev pub IsForeign : Values → Type 0
IsForeign values = (l : Ledger) → HoldsLedger values l → ⊥

-- the maps that may be left are the values of these ledgers, in order
abbrev pub AreLedgers : List Values → List Ledger → Type 0
AreLedgers [] [] = ⊤
AreLedgers [] (l ∷ ledgers) = ⊥
AreLedgers (values ∷ others) [] = ⊥
AreLedgers (values ∷ others) (l ∷ ledgers) = HoldsLedger values l × AreLedgers others ledgers

-- What a store that failed leaves: the ledger as it was first, and beside it what was to be written.
pub record LeavesLedger (l new : Ledger) (left : List Values) : Type 0 where
  pub others : List Ledger
  pub are : AreLedgers left (l ∷ others)
  pub within : (x : Ledger) → Contains others x → (x ≡ l) ⊎ (x ≡ new)

-- A ledger as its callers see it: beside it what its store tells of its failures.
pub record KeptLedger : Type 0 where
  pub ledger : Ledger
  pub watch : Watch

-- A ledger's store: all that is read is the ledger's, and durable.
pub record IsKept (current : Values) (left : List Values) (changed : List ℕ) (l : Ledger) : Type 0 where
  pub holds : HoldsLedger current l
  pub durable : left ≡ current ∷ []
  pub unchanged : changed ≡ []

-- DELIVERIES

-- what a delivery makes of a ledger: the ledger after it and what became of the block, or that heights are missing
pub data Delivered : Type 0 where
  entered : Ledger → Outcome → Delivered
  gap : ℕ → ℕ → Delivered  -- the height that was expected, and the one that came

abbrev pub applied_by : Transfer → Books → Outcome
applied_by t books = if is_covered t books.balances then Applied else Rejected

-- a transfer at a height: one at or below the ledger's was entered before
abbrev pub delivered : Ledger → ℕ → Transfer → Delivered
delivered l h t =
    if nat_lt h (next_of l.height) then entered l Seen
    else if h == next_of l.height then entered (ledger_at h (posted t l.books)) (applied_by t l.books)
    else gap (next_of l.height) h

-- where a height stands to a ledger's
abbrev pub IsPlacedBy : Option ℕ → ℕ → Place → Type 0
IsPlacedBy last h Before = h < next_of last
IsPlacedBy last h Next = h ≡ next_of last
IsPlacedBy last h (Above expected) = (next_of last < h) × (expected ≡ next_of last)
