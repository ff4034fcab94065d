-- What the ledger has of the blocks that the service is handed.
use Rattle.std.specs.Prelude.{ℕ, ◌<◌, ◌≡◌}
use Rattle.mar_ledger.specs.Books.{entry_at}
use Rattle.mar_ledger.specs.Ledger.{Ledger, delivered, entered, next_of}
use Rattle.mar_ledger.specs.declared.applied.Applied.{Applied as Outcome}

-- the ledger has the block of this height
abbrev pub Has : Ledger → ℕ → Type 0
Has l height = height < next_of l.height

-- the ledger is the one behind the block of this height and timestamp
abbrev pub Enters : Ledger → ℕ → ℕ → Ledger → Type 0
Enters l height timestamp new = (how : Outcome) × (delivered l height (entry_at timestamp) ≡ entered new how)
