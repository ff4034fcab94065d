-- What a ledger is of a list of blocks.
use Rattle.std.specs.Prelude.{List, length, ℕ, ◌≡◌, ◌≤◌}
use Rattle.mar_cert.specs.Block.{Block}
use Rattle.mar_ledger.specs.Entries.{books_upto}
use Rattle.mar_ledger.specs.Ledger.{Ledger, next_of}

-- A ledger's books are those after the blocks from 0 to its own height, each once.
pub record IsTrueLedger (blocks : List Block) (l : Ledger) : Type 0 where
  pub books : l.books ≡ books_upto blocks l.height
  pub within : next_of l.height ≤ length blocks
