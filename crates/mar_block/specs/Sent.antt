-- What a buffer was handed to send, and what it holds.
use Rattle.std.specs.Prelude.{Bool, IfSome, List, Option, Some, ℕ, ◌++◌, ◌≡◌}
use Rattle.mar_types.specs.Round.{Round}
use Rattle.mar_cert.specs.Block.{Block}
use Rattle.mar_block.specs.Recipients.{named}
use Rattle.mar_block.specs.declared.recipients.Sent.{Sent}

-- a block that was sent, in which round, and to which peers; to each where none are named
pub record Sending : Type 0 where
  pub round : Round
  pub block : Block
  pub peers : Option (List ℕ)

abbrev pub sending : {B : Type 0} → (B → Block) → Sent B → Sending
sending plain s = record { round = s.round; block = plain s.block; peers = named s.recipients }

-- where it tells what it sent, this is more of it
abbrev pub Sends : Option (List Sending) → List Sending → Option (List Sending) → Type 0
Sends old more new = IfSome old (λ sent. new ≡ Some (sent ++ more))

-- a buffer in memory: the blocks that it has, whether it tells of those that come, and what it sent
pub record Held : Type 0 where
  pub blocks : List Block
  pub is_open : Bool
  pub sent : List Sending
