-- What callers are told and what is sent to peers; open subscriptions and certified commitments.
use Rattle.std.specs.List.{filter_map, list_any}
use Rattle.std.specs.Option.{option_or}
use Rattle.std.specs.Prelude.{Bool, List, None, Option, Some, [], bytes_eq, false, filter, find, fold, if◌then◌else◌, map, nat_lt, not, option_and_then, option_map, option_to_list, true, ℕ, ◌&&◌, ◌++◌, ◌-◌, ◌==◌, ◌||◌, ◌∷◌}
use Rattle.mar_types.specs.Round.{Round, round_eq}
use Rattle.mar_cert.specs.Block.{Block, certified_bytes}
use Rattle.mar_cert.specs.Finalization.{Finalization, Notarization, finalization_bytes}
use Rattle.mar_key.specs.Processed.{Processed, anchor_of}
use Rattle.mar_store.specs.Kept.{At, value_at}
use Rattle.mar_model.specs.Stored.{block_of, newest}
use Rattle.mar_key.specs.Keys.{Annotation, Key, block_key, certified_at, finalized_key, notarized_key}
use Rattle.mar_model.specs.Messages.{Identifier, Message, Peers, certify, close_ticket, forward, get_anchor, get_block, get_finalization, get_info, get_processed, get_verified, latest, of_digest, of_height, prepared, proposed, report_certification, some_peers, subscribe_commitment, subscribe_digest, verified}
use Rattle.mar_model.specs.Config.{Config}
use Rattle.mar_model.specs.OpenSyncs.{waits_for}
use Rattle.mar_model.specs.Node.{CacheSync, CertifiedCommitment, Node, Subscription, Wanted, all_at_hand, at_hand, commitment_wanted, digest_wanted}
use Rattle.mar_model.specs.Cached.{Cached, notarization_entry}
use Rattle.mar_model.specs.Event.{Effect, Event, applies_floor, brought_block, buffer_ended, gave_block, message_told, no_floor, peer_answered, sync_finished}
use Rattle.mar_model.specs.Cache.{first_of, first_verified}

-- a block that was sent to peers
pub record Sent : Type 0 where
  pub round : Round
  pub digest : List ℕ
  pub peers : Peers

-- what a caller is answered
pub data Value : Type 0 where
  no_value : Value
  info_value : ℕ → List ℕ → Value
  bytes_value : List ℕ → Value
  processed_value : Processed → Value
  anchor_value : Processed → Block → Value
  sync_value : ℕ → Value
  true_value : Value
  closed_value : Value

-- an answer to the holder of a ticket
pub record TicketAnswer : Type 0 where
  pub ticket : ℕ
  pub value : Value

abbrev pub to : ℕ → Value → TicketAnswer
to t v = record { ticket = t; value = v }

abbrev pub or_none : Option Value → Value
or_none None = no_value
or_none (Some v) = v

-- QUERIES

-- the block of this digest in the buffer, in the cache or among the held blocks
abbrev pub at_hand_digest : Node → List ℕ → Option Block
at_hand_digest n d = find (λ b. bytes_eq b.digest d) (all_at_hand n)

abbrev pub certificate_info : (List ℕ → List ℕ) → At Finalization → Value
certificate_info inner x = info_value x.height (inner x.value.payload)

abbrev pub block_info : Block → Value
block_info b = info_value b.height b.digest

-- by height: certificate, else block; by digest: finalized block; latest: newest certificate
abbrev pub info : (List ℕ → List ℕ) → List (At Block) → List (At Finalization) → Identifier → Option Value
info inner blocks certs (of_height h) = option_or (option_map (λ f. info_value h (inner f.payload)) (value_at certs h)) (option_map block_info (value_at blocks h))
info inner blocks certs (of_digest d) = option_map block_info (block_of blocks d)
info inner blocks certs latest = option_map (certificate_info inner) (newest certs)

-- by height: finalized; by digest or latest: buffer, cache, archive
abbrev pub block_for : Node → Identifier → Option Block
block_for n (of_height h) = value_at n.blocks.held h
block_for n (of_digest d) = at_hand_digest n d
block_for n latest = option_and_then (λ x. at_hand n x.value.payload) (newest n.certs.held)

-- the processed height with the block that backs it
abbrev pub anchor : List (At Block) → Option Processed → Option Value
anchor blocks None = None
anchor blocks (Some p) = option_map (anchor_value p) (value_at blocks (anchor_of p))

abbrev pub bytes_of : Option Block → Value
bytes_of b = or_none (option_map (λ x. bytes_value x.encoded) b)

abbrev pub finalization_value : Option Finalization → Value
finalization_value f = or_none (option_map (λ x. bytes_value (finalization_bytes x)) f)

-- the answer to a query, None for another message
abbrev pub query_value : Config → Node → Message → Option Value
query_value config n (get_info id) = Some (or_none (info config.inner n.blocks.held n.certs.held id))
query_value config n (get_block id) = Some (bytes_of (block_for n id))
query_value config n (get_finalization h) = Some (finalization_value (value_at n.certs.held h))
query_value config n get_processed = Some (or_none (option_map processed_value n.processed))
query_value config n get_anchor = Some (or_none (anchor n.blocks.held n.processed))
query_value config n (get_verified r) = Some (bytes_of (first_verified n.cache.held r))
query_value config n _ = None

-- PRODUCED BYTES

abbrev pub notarization_in : Round → Cached → Option Notarization
notarization_in r (notarization_entry f) = if round_eq r f.round then Some f else None
notarization_in r _ = None

abbrev pub with_block : Finalization → Option Block → Option (List ℕ)
with_block f b = option_map (certified_bytes f) b

-- what a peer that asks for a key is answered
abbrev pub produced_value : Node → Key → Value
produced_value n (block_key c) = bytes_of (at_hand n c)
produced_value n (finalized_key h) = or_none (option_map bytes_value (option_and_then (λ f. with_block f (value_at n.blocks.held h)) (value_at n.certs.held h)))
produced_value n (notarized_key r) = or_none (option_map bytes_value (option_and_then (λ f. with_block f (at_hand n f.payload)) (first_of (filter_map (notarization_in r) n.cache.held))))

-- CACHE TICKETS

-- `true` at once where the epoch is below the lowest (after the event: the block is ingested first), else the sync that was started
abbrev pub started_value : ℕ → ℕ → Round → Value
started_value next_sync lowest r = if nat_lt r.epoch lowest then true_value else sync_value next_sync

abbrev pub cache_value : ℕ → ℕ → Message → Option Value
cache_value next_sync lowest (verified r b) = Some (started_value next_sync lowest r)
cache_value next_sync lowest (proposed r peers b) = Some (started_value next_sync lowest r)
cache_value next_sync lowest (certify r b) = Some (started_value next_sync lowest r)
cache_value next_sync lowest _ = None

-- a finished sync tells the caller that waits for it
abbrev pub finished_answers : ℕ → List CacheSync → List TicketAnswer
finished_answers t syncs = map (λ a. to a true_value) (option_to_list (waits_for t syncs))

-- SUBSCRIPTIONS

abbrev pub is_wanted : Block → Wanted → Bool
is_wanted b (digest_wanted d) = bytes_eq b.digest d
is_wanted b (commitment_wanted c) = bytes_eq b.commitment c

abbrev pub wanted_by : Message → Option Wanted
wanted_by (subscribe_digest d fallback) = Some (digest_wanted d)
wanted_by (subscribe_commitment c fallback) = Some (commitment_wanted c)
wanted_by _ = None

abbrev pub find_wanted : Node → Wanted → Option Block
find_wanted n (digest_wanted d) = at_hand_digest n d
find_wanted n (commitment_wanted c) = at_hand n c

abbrev pub bytes_lt : List ℕ → List ℕ → Bool
bytes_lt xs [] = false
bytes_lt [] (y ∷ ys) = true
bytes_lt (x ∷ xs) (y ∷ ys) = nat_lt x y || (x == y && bytes_lt xs ys)

-- the block that an event ingests
abbrev pub ingested_block : Node → Event → Effect → Option Block
ingested_block n e (applies_floor r b) = Some b
ingested_block n e _ = brought_block n e

abbrev pub by_digest : Wanted → Bool
by_digest (digest_wanted d) = true
by_digest (commitment_wanted c) = false

-- waiters of the ingested block are served: those by digest in order, then those by commitment
abbrev pub served_answers : List Subscription → Option Block → List TicketAnswer
served_answers subscriptions None = []
served_answers subscriptions (Some b) = map (λ s. to s.ticket (bytes_value b.encoded)) (filter (λ s. by_digest s.wanted && is_wanted b s.wanted) subscriptions ++ filter (λ s. not (by_digest s.wanted) && is_wanted b s.wanted) subscriptions)

-- digest keys before commitment keys, each by its bytes
abbrev pub wanted_lt : Wanted → Wanted → Bool
wanted_lt (digest_wanted d) (digest_wanted e) = bytes_lt d e
wanted_lt (digest_wanted d) (commitment_wanted c) = true
wanted_lt (commitment_wanted c) (digest_wanted d) = false
wanted_lt (commitment_wanted c) (commitment_wanted d) = bytes_lt c d

-- behind those of its key
abbrev pub with_subscription : List Subscription → Subscription → List Subscription
with_subscription [] s = s ∷ []
with_subscription (x ∷ xs) s = if wanted_lt s.wanted x.wanted then s ∷ x ∷ xs else x ∷ with_subscription xs s

-- by key, and within a key in the order of subscribing
abbrev pub in_key_order : List Subscription → List Subscription
in_key_order subscriptions = fold with_subscription [] subscriptions

-- those that the ingested block does not serve
abbrev pub unserved_subscriptions : List Subscription → Option Block → List Subscription
unserved_subscriptions subscriptions None = subscriptions
unserved_subscriptions subscriptions (Some b) = filter (λ s. not (is_wanted b s.wanted)) subscriptions

-- a block that is at hand is answered at once, else the caller waits
abbrev pub new_subscriptions : Node → Option ℕ → Option Wanted → List Subscription
new_subscriptions n (Some t) (Some w) = waits (find_wanted n w)
  where
    waits : Option Block → List Subscription
    waits None = record { ticket = t; wanted = w; through_buffer = not n.buffer_closed } ∷ []
    waits (Some b) = []
new_subscriptions n _ _ = []

abbrev pub subscription_value : Node → Option Wanted → Option Value
subscription_value n w = option_map (λ b. bytes_value b.encoded) (option_and_then (find_wanted n) w)

-- the open subscriptions after an event
abbrev pub subscriptions_after : Node → Event → Effect → List Subscription
subscriptions_after n (message_told t (close_ticket k)) fx = filter (λ s. not (s.ticket == k)) n.subscriptions
subscriptions_after n (message_told t m) fx = unserved_subscriptions n.subscriptions (ingested_block n (message_told t m) fx) ++ new_subscriptions n t (wanted_by m)
subscriptions_after n buffer_ended fx = filter (λ s. not s.through_buffer) n.subscriptions
subscriptions_after n e fx = unserved_subscriptions n.subscriptions (ingested_block n e fx)

-- ALL ANSWERS OF AN EVENT

abbrev pub own_value : Config → Node → ℕ → Message → Option Value
own_value config n lowest m = option_or (query_value config n m) (option_or (cache_value n.next_sync lowest m) (subscription_value n (wanted_by m)))

abbrev pub own_answer : Config → Node → ℕ → Option ℕ → Message → List TicketAnswer
own_answer config n lowest None m = []
own_answer config n lowest (Some t) m = map (to t) (option_to_list (own_value config n lowest m))

-- the answers of an event: those whom its block serves first, then its own
abbrev pub answers_of : Config → Node → ℕ → Event → Effect → List TicketAnswer
answers_of config n lowest (message_told t m) fx = served_answers n.subscriptions (ingested_block n (message_told t m) fx) ++ own_answer config n lowest t m
answers_of config n lowest (sync_finished t) fx = finished_answers t n.cache_syncs
answers_of config n lowest buffer_ended fx = map (λ s. to s.ticket closed_value) (in_key_order (filter (λ s. s.through_buffer) n.subscriptions))
answers_of config n lowest e fx = served_answers n.subscriptions (ingested_block n e fx)

-- SENDS

abbrev pub forwarded_block : Round → List ℕ → Peers → Option Block → List Sent
forwarded_block r d peers None = []
forwarded_block r d (some_peers []) (Some b) = []
forwarded_block r d peers (Some b) = record { round = r; digest = b.digest; peers = peers } ∷ []

-- the blocks that an event sends
abbrev pub sends_of : Node → Event → List Sent
sends_of n (message_told t (proposed r peers b)) = record { round = r; digest = b.digest; peers = peers } ∷ []
sends_of n (message_told t (prepared r peers b)) = record { round = r; digest = b.digest; peers = peers } ∷ []
sends_of n (message_told t (forward r d peers)) = forwarded_block r d peers (at_hand n d)
sends_of n _ = []

-- CERTIFIED COMMITMENTS

abbrev pub own_commitment : Block → CertifiedCommitment
own_commitment b = record { height = b.height; commitment = b.commitment }

abbrev pub parent_commitment : Block → CertifiedCommitment
parent_commitment b = record { height = b.height - 1; commitment = b.parent_commitment }

-- this commitment is known as certified at this height
abbrev pub is_known : List CertifiedCommitment → ℕ → List ℕ → Bool
is_known certified h c = list_any (λ x. x.height == h && bytes_eq x.commitment c) certified

abbrev pub is_certified : Annotation → Bool
is_certified (certified_at h) = true
is_certified _ = false

abbrev pub parent_of_known : Node → Option Block → List CertifiedCommitment
parent_of_known n None = []
parent_of_known n (Some b) = if is_known n.certified b.height b.commitment then parent_commitment b ∷ [] else []

-- a certified block makes its own commitment and its parent's known
abbrev pub own_and_parent : Option Block → List CertifiedCommitment
own_and_parent None = []
own_and_parent (Some b) = own_commitment b ∷ parent_commitment b ∷ []

-- the awaited floor's block makes no parent known
abbrev pub new_commitments : Node → Event → Effect → List CertifiedCommitment
new_commitments n (message_told t (report_certification f)) fx = own_and_parent (at_hand n f.payload)
new_commitments n (message_told t (subscribe_digest d fallback)) fx = parent_of_known n (at_hand_digest n d)
new_commitments n (message_told t (subscribe_commitment c fallback)) fx = parent_of_known n (at_hand n c)
new_commitments n (peer_answered (gave_block b annotations)) no_floor = if list_any is_certified annotations then parent_commitment b ∷ [] else []
new_commitments n _ fx = []

-- a tip at h forgets those at or below h; none is known at height 0
abbrev pub certified_after : Node → Event → Effect → ℕ → List CertifiedCommitment
certified_after n e fx tip = filter (λ x. nat_lt tip x.height) (n.certified ++ new_commitments n e fx)
