-- The books of sixteen accounts, and what transfers make of them.
use Rattle.std.specs.Prelude.{Bool, List, [], get_or, if◌then◌else◌, length, min, nat_le, replicate, slice_set, sum, ℕ, ◌%◌, ◌+◌, ◌-◌, ◌/◌, ◌<◌, ◌^◌, ◌∷◌, ◌≡◌}
use Rattle.mar_ledger.specs.declared.transfer.Transfer.{Transfer}

-- the transfer of a timestamp
abbrev pub entry_at : ℕ → Transfer
entry_at t = record { from = t % 16; to = (t / 16) % 16; amount = (t / 256) % 1_000_000 }

-- both accounts are among the sixteen
pub record IsTransfer (t : Transfer) : Type 0 where
  pub from_fits : t.from < 16
  pub to_fits : t.to < 16

-- the balances of the sixteen accounts, and how many transfers were rejected
pub record Books : Type 0 where
  pub balances : List ℕ
  pub rejected : ℕ

abbrev pub first_books : Books
first_books = record { balances = replicate 16 1_000_000; rejected = 0 }

-- what all accounts hold together
abbrev pub all_money : ℕ
all_money = 16_000_000

-- there are sixteen balances, which hold all the money
pub record AreBooks (books : Books) : Type 0 where
  pub sixteen : length books.balances ≡ 16
  pub whole : sum books.balances ≡ all_money

-- the account has the amount
abbrev pub is_covered : Transfer → List ℕ → Bool
is_covered t balances = nat_le t.amount (get_or balances t.from 0)

-- one balance rises, one falls
abbrev pub raised : ℕ → ℕ → List ℕ → List ℕ
raised account amount balances = slice_set balances account (get_or balances account 0 + amount)

abbrev pub lowered : ℕ → ℕ → List ℕ → List ℕ
lowered account amount balances = slice_set balances account (get_or balances account 0 - amount)

-- A transfer moves the amount where the account has it, else it is rejected and counted; the count stops at its type's end.
abbrev pub posted : Transfer → Books → Books
posted t books =
    if is_covered t books.balances
    then record books { balances = raised t.to t.amount (lowered t.from t.amount books.balances) }
    else record books { rejected = min (books.rejected + 1) (2 ^ 64 - 1) }

abbrev pub books_from : Books → List Transfer → Books
books_from books [] = books
books_from books (t ∷ transfers) = books_from (posted t books) transfers

-- the books after these transfers in order
abbrev pub books_after : List Transfer → Books
books_after transfers = books_from first_books transfers
