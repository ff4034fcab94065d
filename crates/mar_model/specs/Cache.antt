-- The epoch cache over one event: what is put, what a prune covers, which syncs start.
use Rattle.std.specs.List.{filter_map, list_any}
use Rattle.std.specs.Prelude.{Bool, Contains, IsTrue, List, None, Option, Some, [], false, filter, fold, if◌then◌else◌, map, max, nat_le, nat_lt, not, option_map, true, ℕ, ◌&&◌, ◌++◌, ◌+◌, ◌-◌, ◌<◌, ◌==◌, ◌||◌, ◌∷◌, ◌≡◌, ◌⊎◌}
use Rattle.mar_types.specs.Round.{Round, round_eq, round_lt}
use Rattle.mar_cert.specs.Block.{Block}
use Rattle.mar_cert.specs.Finalization.{Finalization}
use Rattle.mar_key.specs.Cutoff.{covers}
use Rattle.mar_types.specs.Epochs.{containing}
use Rattle.mar_store.specs.Kept.{value_at}
use Rattle.mar_key.specs.Keys.{Annotation, certified_at, is_finalized, untrusted_at}
use Rattle.mar_model.specs.OpenSyncs.{AreStillOpen, covered_by, without_ticket}
use Rattle.mar_model.specs.Messages.{certify, proposed, report_finalization, report_notarization, set_floor, verified}
use Rattle.mar_model.specs.Config.{Config}
use Rattle.mar_model.specs.Node.{CacheSync, Node, at_hand}
use Rattle.mar_model.specs.Cached.{Cached, certified_entry, epoch_of, finalization_entry, notarization_entry, notarized_entry, same_place, verified_entry, with_entry}
use Rattle.mar_model.specs.Event.{Effect, Event, applies_floor, awaits_floor, drained_blocks, finalization_for, gave_block, gave_notarized, is_above, life_started, message_told, met_finalization, met_rounds, no_floor, peer_answered, sync_finished}

abbrev pub verified_at : Round → Block → Cached → Bool
verified_at r b x = same_place (verified_entry r b) x

-- put in notarized where verified doesn't hold it
abbrev pub notarized_where : Bool → Round → Block → List Cached
notarized_where true r b = []
notarized_where false r b = notarized_entry r b ∷ []

-- put in notarized unless verified holds it
abbrev pub notarized_unless : List Cached → Round → Block → List Cached
notarized_unless held r b = notarized_where (list_any (verified_at r b) held) r b

abbrev pub notarized_at_hand : Node → Round → Option Block → List Cached
notarized_at_hand n r None = []
notarized_at_hand n r (Some b) = notarized_unless n.cache.held r b

-- an ask that bounds the height of an untrusted or certified block
abbrev pub is_within : ℕ → Annotation → Bool
is_within h (untrusted_at k) = nat_le h k
is_within h (certified_at k) = nat_le h k
is_within h _ = false

abbrev pub certified_puts : Option ℕ → Block → List Cached
certified_puts None b = []
certified_puts (Some e) b = certified_entry e b ∷ []

-- a block answer that is neither the awaited floor's nor stored
abbrev pub answer_puts : Config → Node → Option Finalization → Block → List Annotation → List Cached
answer_puts config n (Some f) b annotations = []
answer_puts config n None b annotations =
    if not (list_any is_finalized annotations) && (list_any (is_within b.height) annotations && is_above n b)
    then certified_puts (containing config.epochs b.height) b
    else []

-- a floor that is scoped and verifies is cached, also where an equal or newer one is awaited
abbrev pub floor_puts : Config → Node → Finalization → List Cached
floor_puts config n f = if not (covers n.cutoff f.round) && (config.scoped f.round.epoch && config.verifies f) then finalization_entry f ∷ [] else []

-- `after` is what the cache holds after the event: an applied floor prunes before `certified` looks there
abbrev pub entries_put : Config → Node → List Cached → Event → Effect → List Cached
entries_put config n after (message_told t (report_finalization f)) fx = finalization_entry f ∷ []
entries_put config n after (message_told t (set_floor f)) fx = floor_puts config n f
entries_put config n after (life_started (Some f)) fx = floor_puts config n f
entries_put config n after (message_told t (report_notarization f)) fx = notarization_entry f ∷ notarized_at_hand n f.round (at_hand n f.payload)
entries_put config n after (message_told t (verified r b)) fx = verified_entry r b ∷ []
entries_put config n after (message_told t (proposed r peers b)) fx = verified_entry r b ∷ []
entries_put config n after (message_told t (certify r b)) fx = notarized_unless after r b
entries_put config n after (peer_answered (gave_block b annotations)) no_floor = answer_puts config n (finalization_for n b) b annotations
entries_put config n after (peer_answered (gave_notarized f b)) fx = notarized_entry f.round b ∷ notarization_entry f ∷ []
entries_put config n after _ fx = []

-- an entry that might be left before, or that the event puts
abbrev pub MayBeCached : Config → Node → Event → Effect → Cached → Type 0
MayBeCached config n e fx x = Contains n.cache.may x ⊎ (after : List Cached) × Contains (entries_put config n after e fx) x

-- what the cache held and what the event puts, the first kept
abbrev pub entries_with_puts : Config → Node → List Cached → Event → Effect → List Cached
entries_with_puts config n after e fx = fold with_entry n.cache.held (entries_put config n after e fx)

-- the rounds that an event witnesses, in order
abbrev pub witnessed_rounds : Node → Event → Effect → List Round
witnessed_rounds n e (applies_floor r b) = r ∷ []
witnessed_rounds n e (awaits_floor a) = []
witnessed_rounds n e no_floor = filter_map (λ a. option_map (λ f. f.round) (value_at n.certs.held a.height)) (drained_blocks n e) ++ met_rounds n (met_finalization n e)

-- The last round witnessed, and the rounds below which the cache is pruned: each newer round prunes by
-- the one before it.
pub record Witnessing : Type 0 where
  pub last : Round
  pub prunes : List Round

-- the round that lies as many views as are retained below this one; a subtraction stops at 0
abbrev pub prunes_by : ℕ → Round → Round
prunes_by retention p = record { epoch = p.epoch - (retention - p.view); view = p.view - retention }

abbrev pub with_witness : ℕ → Witnessing → Round → Witnessing
with_witness retention w r = if round_lt w.last r then record { last = r; prunes = w.prunes ++ prunes_by retention w.last ∷ [] } else w

-- the witnessing of an event
abbrev pub witnessing_of : Config → Node → Event → Effect → Witnessing
witnessing_of config n e fx = fold (with_witness config.retention) (record { last = n.witnessed; prunes = [] }) (witnessed_rounds n e fx)

-- the lowest epoch rises to those of the prunes
abbrev pub lowest_after : Config → Node → Event → Effect → ℕ
lowest_after config n e fx = fold (λ k p. max k p.epoch) n.lowest (witnessing_of config n e fx).prunes

-- certified blocks are pruned by height, as a floor is applied above the processed height
abbrev pub certified_from : Node → Effect → ℕ
certified_from n (applies_floor r b) = if is_above n b then b.height - 1 else 0
certified_from n _ = 0

-- older epochs are destroyed, and in its own epoch the archives by view are pruned below the view
abbrev pub is_below : Round → Cached → Bool
is_below p (certified_entry e b) = nat_lt e p.epoch
is_below p (finalization_entry f) = round_lt f.round p
is_below p (verified_entry r b) = round_lt r p
is_below p (notarized_entry r b) = round_lt r p
is_below p (notarization_entry f) = round_lt f.round p

abbrev pub is_certified_below : ℕ → Cached → Bool
is_certified_below from (certified_entry e b) = nat_lt b.height from
is_certified_below from _ = false

-- a prune of this event covers the entry
abbrev pub is_pruned : Config → Node → Event → Effect → Cached → Bool
is_pruned config n e fx x = list_any (λ p. is_below p x) (witnessing_of config n e fx).prunes || is_certified_below (certified_from n fx) x

abbrev pub same_archive : Cached → Cached → Bool
same_archive (finalization_entry f) (finalization_entry g) = f.round.epoch == g.round.epoch
same_archive (notarization_entry f) (notarization_entry g) = f.round.epoch == g.round.epoch
same_archive (notarized_entry r b) (notarized_entry s c) = r.epoch == s.epoch
same_archive (verified_entry r b) (verified_entry s c) = r.epoch == s.epoch
same_archive (certified_entry e b) (certified_entry f c) = e == f
same_archive _ _ = false

-- puts that are synced before their event ends: a finalization, a certified block, both parts of a notarized answer
abbrev pub is_synced_put : Event → Cached → Bool
is_synced_put (peer_answered (gave_notarized f b)) x = true
is_synced_put e (finalization_entry f) = true
is_synced_put e (certified_entry k b) = true
is_synced_put e _ = false

-- the sync of a notarized answer covers its archives; the other puts are sure themselves
abbrev pub is_covered_put : Event → Cached → Cached → Bool
is_covered_put (peer_answered (gave_notarized f b)) y x = same_archive y x
is_covered_put e y x = same_place y x

-- some put of the event is synced, and its sync covers the entry
abbrev pub is_synced : Event → List Cached → Cached → Bool
is_synced e entries x = list_any (λ y. is_synced_put e y && is_covered_put e y x) entries

abbrev pub verified_in : Round → Cached → Option Block
verified_in r (verified_entry s b) = if round_eq r s then Some b else None
verified_in r _ = None

abbrev pub first_of : {T : Type 0} → List T → Option T
first_of [] = None
first_of (x ∷ xs) = Some x

-- the block that was verified first at that round
abbrev pub first_verified : List Cached → Round → Option Block
first_verified held r = first_of (filter_map (verified_in r) held)

abbrev pub finished_covers : Node → Event → List Cached
finished_covers n (sync_finished t) = covered_by t n.cache_syncs
finished_covers n _ = []

-- a finished ticket leaves
abbrev pub without_cache_sync : Event → List CacheSync → List CacheSync
without_cache_sync (sync_finished t) syncs = without_ticket t syncs
without_cache_sync _ syncs = syncs

-- the entries of one archive of one epoch
abbrev pub is_verified_of : ℕ → Cached → Bool
is_verified_of e (verified_entry r b) = r.epoch == e
is_verified_of e _ = false

abbrev pub is_notarized_of : ℕ → Cached → Bool
is_notarized_of e (notarized_entry r b) = r.epoch == e
is_notarized_of e _ = false

abbrev pub is_notarization_of : ℕ → Cached → Bool
is_notarization_of e (notarization_entry f) = f.round.epoch == e
is_notarization_of e _ = false

-- what the sync of a certified block covers: the notarizations of its epoch, and the archive that holds the block
abbrev pub certified_covers : ℕ → Bool → Cached → Bool
certified_covers e is_verified x = is_notarization_of e x || (if is_verified then is_verified_of e x else is_notarized_of e x)

-- the syncs that an event starts, each by the test of what it covers
-- under the lowest epoch and the entries that are held after it: the block is ingested first, which may apply a floor
abbrev pub started_under : Node → ℕ → List Cached → Event → List (Cached → Bool)
started_under n lowest held (message_told t (verified r b)) = if nat_lt r.epoch lowest then [] else is_verified_of r.epoch ∷ []
started_under n lowest held (message_told t (proposed r peers b)) = if nat_lt r.epoch lowest then [] else is_verified_of r.epoch ∷ []
started_under n lowest held (message_told t (certify r b)) =
    if nat_lt r.epoch lowest then []
    else certified_covers r.epoch (list_any (verified_at r b) held) ∷ []
started_under n lowest held (message_told t (report_notarization f)) =
    if nat_lt f.round.epoch lowest then []
    else is_notarization_of f.round.epoch ∷ map (λ x. is_notarized_of f.round.epoch) (notarized_at_hand n f.round (at_hand n f.payload))
started_under n lowest held _ = []

abbrev pub started_syncs : Node → Node → Event → List (Cached → Bool)
started_syncs n n' e = started_under n n'.lowest n'.cache.held e

-- a ticket for each sync that starts, with the entries that it covers
abbrev pub tickets_from : ℕ → Option ℕ → List Cached → List (Cached → Bool) → List CacheSync
tickets_from t answer held [] = []
tickets_from t answer held (test ∷ syncs) = record { ticket = t; entries = filter test held; answer = answer } ∷ tickets_from (t + 1) answer held syncs

abbrev pub answer_ticket : Event → Option ℕ
answer_ticket (message_told t m) = t
answer_ticket _ = None

-- The open syncs over one event: one that finished leaves, the others are still open, and those that the event starts follow.
pub record OpensCacheSyncs (config : Config) (n : Node) (e : Event) (fx : Effect) (n' : Node) : Type 0 where
  pub still : List CacheSync
  pub still_open : AreStillOpen (is_pruned config n e fx) (without_cache_sync e n.cache_syncs) still
  pub started : List CacheSync
  pub started_open : AreStillOpen (λ x. false) (tickets_from n.next_sync (answer_ticket e) n'.cache.held (started_syncs n n' e)) started
  pub are : n'.cache_syncs ≡ still ++ started

-- The cache over one event.
pub record AdvancesCache (config : Config) (n : Node) (e : Event) (fx : Effect) (n' : Node) : Type 0 where
  -- what was held or is put is held, unless its epoch is below the lowest or a prune covers it
  pub kept : (x : Cached) → Contains (entries_with_puts config n n'.cache.held e fx) x → Contains n'.cache.held x ⊎ (epoch_of x < n.lowest) ⊎ IsTrue (is_pruned config n e fx x)
  pub nothing_else : (x : Cached) → Contains n'.cache.held x → Contains (entries_with_puts config n n'.cache.held e fx) x
  pub stays_sure : (x : Cached) → Contains n.cache.sure x → Contains n'.cache.held x → Contains n'.cache.sure x
  -- only what a prune covers leaves
  pub stays : (x : Cached) → Contains n.cache.held x → Contains n'.cache.held x ⊎ IsTrue (is_pruned config n e fx x)
  -- `get_verified` gives the first stored
  pub first_stays : (r : Round) (b : Block) → first_verified (entries_with_puts config n n'.cache.held e fx) r ≡ Some b → Contains n'.cache.held (verified_entry r b) → first_verified n'.cache.held r ≡ Some b
  pub synced : (x : Cached) → IsTrue (is_synced e (entries_put config n n'.cache.held e fx) x) → Contains n'.cache.held x → Contains n'.cache.sure x
  pub finished : (x : Cached) → Contains (finished_covers n e) x → Contains n'.cache.held x → Contains n'.cache.sure x
  pub lowest : n'.lowest ≡ lowest_after config n e fx
  -- a lowest epoch that a later sync wrote over may be forgotten; the node's own may not
  pub lowests : (k : ℕ) → Contains n'.lowests k → Contains (n.lowests ++ n'.lowest ∷ []) k
  pub own_lowest : Contains n'.lowests n'.lowest
  pub cache_syncs : OpensCacheSyncs config n e fx n'
  pub witnessed : n'.witnessed ≡ (witnessing_of config n e fx).last
