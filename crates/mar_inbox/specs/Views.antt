-- Messages and values as the definitions see them.
use Rattle.std.specs.Prelude.{List, None, Option, map, option_map, ℕ}
use Rattle.std.specs.Prelude.{Some as Given}
use Rattle.mar_cert.specs.Block.{Block}
use Rattle.mar_cert.specs.Finalization.{Finalization, Notarization, finalization_bytes}
use Rattle.mar_key.specs.Views.{processed_of}
use Rattle.mar_block.specs.Sent.{Sending}
use Rattle.mar_block.specs.declared.recipients.Recipients.{Recipients}
use Rattle.mar_block.specs.declared.recipients.Recipients.TheVariants.{All, Some}
use Rattle.mar_store.specs.declared.identifier.Identifier.{Identifier as StoreIdentifier}
use Rattle.mar_store.specs.declared.identifier.Identifier.TheVariants.{Index, Key}
use Rattle.mar_model.specs.Answers.{Sent, Value as PlainValue, anchor_value, bytes_value, info_value, no_value, processed_value, sync_value, true_value}
use Rattle.mar_model.specs.Messages.{Identifier as PlainIdentifier, Message as PlainMessage, Peers, all_peers, certify, get_anchor, get_block, get_finalization, get_info, get_processed, get_verified, hint_finalized, latest, of_digest, of_height, prepared, proposed, report_certification, report_finalization, report_notarization, some_peers, verified}
use Rattle.mar_inbox.specs.declared.identifier.Identifier.{Identifier}
use Rattle.mar_inbox.specs.declared.identifier.Identifier.TheVariants as identifier
use Rattle.mar_inbox.specs.declared.message.Message.{Message}
use Rattle.mar_inbox.specs.declared.message.Message.TheVariants as message
use Rattle.mar_inbox.specs.declared.query.Query.{Query}
use Rattle.mar_inbox.specs.declared.query.Query.TheVariants as query
use Rattle.mar_inbox.specs.declared.value.Value.{Value}
use Rattle.mar_inbox.specs.declared.value.Value.TheVariants as value

-- what an archive looks up by, as a caller asks for it
abbrev pub asked_by : {D : Type 0} → StoreIdentifier D → Identifier D
asked_by (Index i) = identifier.Height i
asked_by (Key d) = identifier.Digest d

-- by what a digest is as bytes
abbrev pub identifier_of : {D : Type 0} → (D → List ℕ) → Identifier D → PlainIdentifier
identifier_of digest (identifier.Height h) = of_height h
identifier_of digest (identifier.Digest d) = of_digest (digest d)
identifier_of digest identifier.Latest = latest

abbrev pub peers_of : Recipients ℕ → Peers
peers_of All = all_peers
peers_of (Some peers) = some_peers peers.items

-- the peers that are named, or each where none are
abbrev pub peers_named : Option (List ℕ) → Peers
peers_named None = all_peers
peers_named (Given peers) = some_peers peers

-- a block that a buffer was handed to send, by its digest
abbrev pub sent_of : Sending → Sent
sent_of s = record { round = s.round; digest = s.block.digest; peers = peers_named s.peers }

-- what a buffer was handed to send, where it tells that
abbrev pub sent_by : Option (List Sending) → Option (List Sent)
sent_by sent = option_map (map sent_of) sent

-- a message, by what digests are as bytes, and blocks and certificates as plain data
abbrev pub message_of : {D B N F : Type 0} → (D → List ℕ) → (B → Block) → (N → Notarization) → (F → Finalization) → Message D B N F → PlainMessage
message_of digest plain notarization finalization (message.GetInfo t i) = get_info (identifier_of digest i)
message_of digest plain notarization finalization (message.GetBlock t i) = get_block (identifier_of digest i)
message_of digest plain notarization finalization (message.GetFinalization t h) = get_finalization h
message_of digest plain notarization finalization (message.GetProcessed t) = get_processed
message_of digest plain notarization finalization (message.GetAnchor t) = get_anchor
message_of digest plain notarization finalization (message.GetVerified t r) = get_verified r
message_of digest plain notarization finalization (message.Verified t r b) = verified r (plain b)
message_of digest plain notarization finalization (message.Proposed t r peers b) = proposed r (peers_of peers) (plain b)
message_of digest plain notarization finalization (message.Prepared r peers b) = prepared r (peers_of peers) (plain b)
message_of digest plain notarization finalization (message.Certified t r b) = certify r (plain b)
message_of digest plain notarization finalization (message.HintFinalized h targets) = hint_finalized h targets
message_of digest plain notarization finalization (message.Notarization n) = report_notarization (notarization n)
message_of digest plain notarization finalization (message.Finalization f) = report_finalization (finalization f)
message_of digest plain notarization finalization (message.Certification n) = report_certification (notarization n)

-- what a caller asks
abbrev pub query_of : {D : Type 0} → (D → List ℕ) → Query D → PlainMessage
query_of digest (query.Info i) = get_info (identifier_of digest i)
query_of digest (query.Block i) = get_block (identifier_of digest i)
query_of digest (query.Finalization h) = get_finalization h
query_of digest query.Processed = get_processed
query_of digest query.Anchor = get_anchor
query_of digest (query.Verified r) = get_verified r

-- the answer ticket of a message
abbrev pub ticket_of : {D B N F : Type 0} → Message D B N F → Option ℕ
ticket_of (message.GetInfo t i) = Given t
ticket_of (message.GetBlock t i) = Given t
ticket_of (message.GetFinalization t h) = Given t
ticket_of (message.GetProcessed t) = Given t
ticket_of (message.GetAnchor t) = Given t
ticket_of (message.GetVerified t r) = Given t
ticket_of (message.Verified t r b) = Given t
ticket_of (message.Proposed t r peers b) = Given t
ticket_of (message.Certified t r b) = Given t
ticket_of _ = None

-- an answer's value; a block and a finalization are answered as their bytes
abbrev pub value_of : {D B F : Type 0} → (D → List ℕ) → (B → Block) → (F → Finalization) → Value D B F → PlainValue
value_of digest plain finalization value.None = no_value
value_of digest plain finalization (value.Info h d) = info_value h (digest d)
value_of digest plain finalization (value.Block b) = bytes_value (plain b).encoded
value_of digest plain finalization (value.Finalization f) = bytes_value (finalization_bytes (finalization f))
value_of digest plain finalization (value.Bytes bytes) = bytes_value bytes.items
value_of digest plain finalization (value.Processed p) = processed_value (processed_of p)
value_of digest plain finalization (value.Anchor p b) = anchor_value (processed_of p) (plain b)
value_of digest plain finalization (value.Sync t) = sync_value t
value_of digest plain finalization value.True = true_value
