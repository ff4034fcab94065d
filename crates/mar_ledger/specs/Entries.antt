-- What the blocks of the program enter, as plain data.
use Rattle.std.specs.Prelude.{List, None, Option, Some, drop, length, map, take, ℕ, ◌+◌}
use Rattle.mar_types.specs.Varint.{read_varint, varint}
use Rattle.mar_cert.specs.Block.{Block}
use Rattle.mar_ledger.specs.Books.{Books, books_after, entry_at, first_books}
use Rattle.mar_ledger.specs.declared.transfer.Transfer.{Transfer}

abbrev pub first_number : Option (ℕ × List ℕ) → ℕ
first_number None = 0
first_number (Some found) = found.0

-- the timestamp of a block of the program: it stands behind parent and height
abbrev pub timestamp_in : Block → ℕ
timestamp_in b = first_number (read_varint (drop (length b.parent + length (varint b.height)) b.encoded))

-- what a block enters
abbrev pub entry_of : Block → Transfer
entry_of b = entry_at (timestamp_in b)

-- the books after the blocks from 0 to this height; before any block the first ones
abbrev pub books_upto : List Block → Option ℕ → Books
books_upto blocks None = first_books
books_upto blocks (Some h) = books_after (map entry_of (take (h + 1) blocks))
