-- What callers send to a node, and its inbox as data.
use Rattle.std.specs.Prelude.{Bool, List, Option, [], ℕ, ◌∷◌}
use Rattle.mar_types.specs.Round.{Round}
use Rattle.mar_cert.specs.Block.{Block}
use Rattle.mar_cert.specs.Finalization.{Finalization, Notarization}

pub data Identifier : Type 0 where
  of_height : ℕ → Identifier
  of_digest : List ℕ → Identifier
  latest : Identifier

-- what a subscription does where the block is not at hand
pub data Fallback : Type 0 where
  wait : Fallback
  fetch_by_round : Round → Fallback
  fetch_by_commitment : ℕ → Fallback

pub data Peers : Type 0 where
  all_peers : Peers
  some_peers : List ℕ → Peers

-- what a caller sends; those that are answered take a ticket
pub data Message : Type 0 where
  report_finalization : Finalization → Message
  report_notarization : Notarization → Message
  report_certification : Notarization → Message
  verified : Round → Block → Message
  proposed : Round → Peers → Block → Message
  prepared : Round → Peers → Block → Message
  certify : Round → Block → Message
  get_info : Identifier → Message
  get_block : Identifier → Message
  get_finalization : ℕ → Message
  get_processed : Message
  get_anchor : Message
  get_verified : Round → Message
  hint_finalized : ℕ → List ℕ → Message
  set_floor : Finalization → Message
  prune_below : ℕ → Message
  hint_notarized : Round → List ℕ → Message
  subscribe_digest : List ℕ → Fallback → Message
  subscribe_commitment : List ℕ → Fallback → Message
  forward : Round → List ℕ → Peers → Message
  close_ticket : ℕ → Message

-- the blocks that a message brings along
abbrev pub message_blocks : Message → List Block
message_blocks (verified r b) = b ∷ []
message_blocks (proposed r peers b) = b ∷ []
message_blocks (prepared r peers b) = b ∷ []
message_blocks (certify r b) = b ∷ []
message_blocks _ = []

-- a message with the answer ticket that it took, if it takes one
pub record Queued : Type 0 where
  pub ticket : Option ℕ
  pub message : Message

-- the ready list; behind it the newest floor, the highest prune and all others in order; the closed tickets; the seats out; whether it was shut
pub record Inbox : Type 0 where
  pub ready : List Queued
  pub capacity : ℕ
  pub floor : Option Finalization
  pub prune : Option ℕ
  pub overflow : List Queued
  pub closed : List ℕ
  pub seats : ℕ
  pub shut : Bool
