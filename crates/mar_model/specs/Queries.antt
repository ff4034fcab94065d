-- What an actor answers: to a query what it finds, where a block of a commitment is looked for by its digest; to a caller whose
-- block it keeps which sync was started, and that this one has finished.
use Rattle.std.specs.Option.{option_or}
use Rattle.std.specs.Prelude.{List, None, Option, Some, [], bytes_eq, filter, find, map, nat_lt, option_and_then, option_map, option_to_list, ℕ, ◌++◌, ◌≡◌}
use Rattle.mar_types.specs.Round.{Round}
use Rattle.mar_cert.specs.Block.{Block}
use Rattle.mar_store.specs.Kept.{value_at}
use Rattle.mar_model.specs.AllEntries.{soonest}
use Rattle.mar_model.specs.Cached.{Cached, cached_block}
use Rattle.mar_model.specs.Entries.{has_digest, is_verified_at}
use Rattle.mar_model.specs.Answers.{TicketAnswer, Value, anchor, bytes_of, cache_value, finalization_value, finished_answers, info, is_known, or_none, own_and_parent, processed_value, to}
use Rattle.mar_model.specs.Event.{Event, message_told, sync_finished}
use Rattle.mar_model.specs.Held.{Held}
use Rattle.mar_model.specs.Messages.{Identifier, Message, get_anchor, get_block, get_finalization, get_info, get_processed, get_verified, latest, of_digest, of_height, report_certification}
use Rattle.mar_model.specs.Moves.{found_at_hand}
use Rattle.mar_model.specs.Node.{CertifiedCommitment}
use Rattle.mar_model.specs.Stored.{block_of, newest}

-- the block of the entry that a search of the cache finds by a digest
abbrev pub cached_by_digest : List ℕ → List Cached → Option Block
cached_by_digest d entries = option_and_then cached_block (soonest (λ x. has_digest d (cached_block x)) entries)

-- the block that was verified first at a round
abbrev pub cached_at : Round → List Cached → Option Block
cached_at r entries = option_and_then cached_block (soonest (is_verified_at r) entries)

-- the block that a caller asks for
abbrev pub block_found : (List ℕ → List ℕ) → Held → List Block → Identifier → Option Block
block_found inner h buffer (of_height k) = value_at h.blocks.held k
block_found inner h buffer (of_digest d) = option_or (find (λ b. bytes_eq b.digest d) buffer) (option_or (cached_by_digest d h.cache.kept.held) (block_of h.blocks.held d))
block_found inner h buffer latest = option_and_then (λ x. found_at_hand inner buffer h.cache.kept.held h.blocks.held x.value.payload) (newest h.certs.held)

-- the answer to a query, None for another message
abbrev pub value_found : (List ℕ → List ℕ) → Held → List Block → Message → Option Value
value_found inner h buffer (get_info id) = Some (or_none (info inner h.blocks.held h.certs.held id))
value_found inner h buffer (get_block id) = Some (bytes_of (block_found inner h buffer id))
value_found inner h buffer (get_finalization k) = Some (finalization_value (value_at h.certs.held k))
value_found inner h buffer get_processed = Some (or_none (option_map processed_value h.processed))
value_found inner h buffer get_anchor = Some (or_none (anchor h.blocks.held h.processed))
value_found inner h buffer (get_verified r) = Some (bytes_of (cached_at r h.cache.kept.held))
value_found inner h buffer _ = None

-- the answer to a message in its own step, None where it has none
abbrev pub own_found : (List ℕ → List ℕ) → Held → List Block → Message → Option Value
own_found inner h buffer m = option_or (value_found inner h buffer m) (cache_value h.writes.next_sync h.lowest m)

-- the answers of an event
abbrev pub answers_found : (List ℕ → List ℕ) → Held → List Block → Event → List TicketAnswer
answers_found inner h buffer (message_told (Some t) m) = map (to t) (option_to_list (own_found inner h buffer m))
answers_found inner h buffer (sync_finished t) = finished_answers t h.cache.syncs
answers_found inner h buffer _ = []

-- CERTIFIED COMMITMENTS

-- the commitments that an event makes known as certified: those of a reported certification's block and of its parent
abbrev pub commitments_found : (List ℕ → List ℕ) → Held → List Block → Event → List CertifiedCommitment
commitments_found inner h buffer (message_told t (report_certification f)) = own_and_parent (found_at_hand inner buffer h.cache.kept.held h.blocks.held f.payload)
commitments_found inner h buffer _ = []

-- these are known besides those before, but for heights up to the tip; compared by look-ups
abbrev pub Learns : List CertifiedCommitment → List CertifiedCommitment → ℕ → List CertifiedCommitment → Type 0
Learns old found tip new = (h : ℕ) (c : List ℕ) → is_known new h c ≡ is_known (filter (λ x. nat_lt tip x.height) (old ++ found)) h c
