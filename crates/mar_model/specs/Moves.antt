-- What the parts of a step change: what is seen of an actor before and after them.
use Rattle.std.specs.List.{AllByRecursion, list_any}
use Rattle.std.specs.Prelude.{Bool, Contains, List, MatchResult, None, Option, Result, Some, [], bytes_eq, false, filter_map, find, fold, if◌then◌else◌, is_some, length, map, max, nat_lt, not, option_and_then, option_to_list, true, ℕ, ⊤, ◌&&◌, ◌++◌, ◌+◌, ◌-◌, ◌<◌, ◌^◌, ◌∷◌, ◌≡◌, ◌≤◌, ◌⊎◌}
use Rattle.std.specs.Option.{option_or}
use Rattle.mar_types.specs.Round.{Round}
use Rattle.mar_types.specs.Epochs.{Epochs}
use Rattle.mar_cert.specs.Block.{Block}
use Rattle.mar_cert.specs.Finalization.{Finalization, Notarization}
use Rattle.mar_key.specs.Cutoff.{Cutoff, greatest_of}
use Rattle.mar_key.specs.Hears.{Hears}
use Rattle.mar_key.specs.Processed.{first_unprocessed}
use Rattle.mar_store.specs.Kept.{At, Kept, has_height, value_at}
use Rattle.mar_store.specs.Changes.{Puts, Within}
use Rattle.mar_model.specs.AllEntries.{LoadsEntries, PrunesByAll, PrunesEntries, PutsEntry, soonest}
use Rattle.mar_model.specs.Cache.{is_below, is_notarization_of, is_notarized_of, verified_at, with_witness}
use Rattle.mar_model.specs.CacheCalls.{FinishesEntries, KeepsTickets, PutsAndStarts, PutsAndSyncs, StartsSync, is_of_archive, none_goes}
use Rattle.mar_model.specs.Cached.{Cached, cached_block, finalization_entry, notarization_entry, notarized_entry}
use Rattle.mar_model.specs.Entries.{has_commitment}
use Rattle.mar_model.specs.Stored.{at_own_height, block_of, is_certified, is_held, newest}
use Rattle.mar_model.specs.Acks.{Outstanding, after_given, after_oldest, dropped_oldest, given_front, given_oldest, height_after}
use Rattle.mar_model.specs.Event.{Event, acked_to, all_retired, life_started, message_told, round_at}
use Rattle.mar_model.specs.Messages.{certify, proposed, report_finalization, report_notarization, verified}
use Rattle.mar_model.specs.OpenSyncs.{AreStillOpen, covered_by, without_ticket}
use Rattle.mar_model.specs.Node.{CacheSync}
use Rattle.mar_model.specs.Faults.{ack_kind, dropped_ack, last_height, sync_kind, ticket_limit}
use Rattle.mar_model.specs.Lives.{ArePicked, later_round}
use Rattle.mar_model.specs.Step.{HandedBlock, HeldFrom, IsFront, Report, handed_over, new_tip, outstanding_of}
use Rattle.mar_model.specs.Held.{ArePassed, AreWritten, Ending, Grew, Held, IsArchiveFault, IsEndedBy, Loses, MakesSure, Seen, Watches, WithinWritten, Written, nothing_written, written_entry}
use Rattle.mar_model.specs.declared.section.Section.{Section}
use Rattle.mar_model.specs.declared.started.CacheTicket.{CacheTicket}
use Rattle.mar_model.specs.declared.started.Started.{Started}
use Rattle.mar_gate.specs.Writing.{Writing, with_finished, with_started, with_ticket, with_write}

-- HANDING OVER

-- the height of the next block to hand over
abbrev pub next_in : {P E : Type 0} → Seen P E → ℕ
next_in a = height_after (first_unprocessed a.held.processed) a.life.out

abbrev pub handed_report : HandedBlock → Report
handed_report x = handed_over x.ticket x.block

-- an actor whose stores count their calls so
abbrev pub with_watches : {P E : Type 0} → Seen P E → Watches → Seen P E
with_watches a watches = record a { held = record a.held { watches = watches } }

-- nothing changed but how many calls were counted
abbrev pub IsRead : {P E : Type 0} → Seen P E → Seen P E → Type 0
IsRead old new = new ≡ with_watches old new.held.watches

-- an actor after these were handed over
abbrev pub with_handed : {P E : Type 0} → Seen P E → List HandedBlock → Seen P E
with_handed a handed = record a { life = record a.life { out = a.life.out ++ map outstanding_of handed; next_ack = a.life.next_ack + length handed } }

-- these are the next blocks that are held
abbrev pub AreNextHeld : {P E : Type 0} → Seen P E → List HandedBlock → Type 0
AreNextHeld a handed = HeldFrom a.held.blocks.held a.life.next_ack (next_in a) handed

-- there was room for each of them
abbrev pub HasRoom : {P E : Type 0} → Seen P E → List HandedBlock → Type 0
HasRoom a handed = 0 < length handed → length a.life.out + length handed ≤ a.life.sizes.window

-- it stands below each height whose write no finished sync covers
abbrev pub IsFree : {P E : Type 0} → Seen P E → ℕ → Type 0
IsFree a height = AllByRecursion (λ h. height < h) a.held.writes.uncovered

abbrev pub IsBelowWrites : {P E : Type 0} → Seen P E → Block → Type 0
IsBelowWrites a b = IsFree a b.height

-- the next block, for which there is room, and which a crash leaves
pub record IsNext {P E : Type 0} (a : Seen P E) (b : Block) : Type 0 where
  pub room : length a.life.out < a.life.sizes.window
  pub held : value_at a.held.blocks.held (next_in a) ≡ Some b
  pub height : b.height ≡ next_in a
  pub below : b.height < last_height
  pub below_barrier : IsBelowWrites a b

-- a write at or below the next height is not yet covered
abbrev pub IsBarred : {P E : Type 0} → Seen P E → Type 0
IsBarred a = (h : ℕ) × Contains a.held.writes.uncovered h × (h ≤ next_in a)

-- Nothing more can be handed over: the window is full, a write bars the next block, that block isn't held, or no height below
-- the last is left.
abbrev pub IsStill : {P E : Type 0} → Seen P E → Type 0
IsStill a = (a.life.sizes.window ≤ length a.life.out) ⊎ IsBarred a ⊎ (value_at a.held.blocks.held (next_in a) ≡ None) ⊎ (last_height ≤ next_in a) ⊎ (2 ^ 64 ≤ first_unprocessed a.held.processed)

-- where so many tickets are given, the last one is reached
abbrev pub IsLastTicket : {P E : Type 0} → Seen P E → ℕ → Type 0
IsLastTicket a given = a.life.next_ack + given ≡ 2 ^ 64 - 1

-- The life ended while blocks were handed over.
pub record StopsHanding {P E : Type 0} (old : Seen P E) (handed : List HandedBlock) (e : Ending) : Type 0 where
  pub next : AreNextHeld old handed
  pub below_barrier : AllByRecursion (λ x. IsBelowWrites old x.block) handed
  pub room : HasRoom old handed
  pub lost : Loses old.held nothing_written e
  pub kind : IsArchiveFault e.fault ⊎ ((e.fault ≡ ticket_limit ack_kind) × IsLastTicket old (length handed))

-- All was handed over that could be.
pub record Dispatches {P E : Type 0} (old : Seen P E) (handed : List HandedBlock) (new : Seen P E) : Type 0 where
  pub next : AreNextHeld old handed
  pub below_barrier : AllByRecursion (λ x. IsBelowWrites old x.block) handed
  pub room : HasRoom old handed
  pub same : IsRead (with_handed old handed) new
  pub grew : Grew old.held nothing_written new.held
  pub still : IsStill new

-- ASKING

-- a front of these was heard
abbrev pub HearsFront : {T : Type 0} → Option (List T) → List T → Option (List T) → Type 0
HearsFront old whole new = (front : List _) × IsFront front whole × Hears old front new

-- all of them, or a front where the life ended
abbrev pub HearsUpTo : {T A C : Type 0} → Option (List T) → List T → Option (List T) → Result A C → Type 0
HearsUpTo old whole new result = MatchResult result (λ _. Hears old whole new) (λ _. HearsFront old whole new)

-- LIVING ON

-- how many syncs an event may start: a reported notarization those of it and of its block, another event one at most
abbrev pub syncs_at_most : Event → ℕ
syncs_at_most (message_told t (report_notarization f)) = 2
syncs_at_most _ = 1

-- What a step keeps: no store failed, the settings are what they were, the tip doesn't fall, and no more tickets are given than
-- the window has, nor more of syncs than this.
pub record SameLifeGiving {P E : Type 0} (most : ℕ) (old new : Seen P E) : Type 0 where
  pub passed : ArePassed old.held.watches new.held.watches
  pub tickets : new.life.next_ack ≤ old.life.next_ack + old.life.sizes.window
  pub sync_tickets : new.held.writes.next_sync ≤ old.held.writes.next_sync + most
  pub rises : old.life.tip ≤ new.life.tip
  pub provider : new.life.provider ≡ old.life.provider
  pub epocher : new.life.epocher ≡ old.life.epocher
  pub sizes : new.life.sizes ≡ old.life.sizes
  pub intact : new.held.intact ≡ old.held.intact
  pub loaded : old.held.cache.loaded ≡ true → new.held.cache.loaded ≡ true

-- and no more than one of a sync
abbrev pub SameLife : {P E : Type 0} → Seen P E → Seen P E → Type 0
SameLife old new = SameLifeGiving 1 old new

-- a start takes up what a crash left of the cache, and what was taken up stays so
abbrev pub KeepsTakenUp : {P E : Type 0} → Event → Seen P E → Seen P E → Type 0
KeepsTakenUp (life_started f) old new = new.held.cache.loaded ≡ true
KeepsTakenUp _ old new = old.held.cache.loaded ≡ true → new.held.cache.loaded ≡ true

-- what a report finds is said where that was taken up: before, a put shows what a crash left
abbrev pub FindsInCache : {P E : Type 0} → Event → Seen P E → Type 0
FindsInCache (message_told t (report_finalization f)) a = a.held.cache.loaded ≡ true
FindsInCache _ a = ⊤

-- and so is what becomes of a block that is to be kept for a caller
abbrev pub KeepsInCache : {P E : Type 0} → Event → Seen P E → Type 0
KeepsInCache (message_told t (verified r b)) a = a.held.cache.loaded ≡ true
KeepsInCache (message_told t (proposed r peers b)) a = a.held.cache.loaded ≡ true
KeepsInCache (message_told t (certify r b)) a = a.held.cache.loaded ≡ true
KeepsInCache _ a = ⊤

-- The tickets run out only where fewer are left than a window has, and those of syncs where fewer are left than may be started.
abbrev pub RunsOut : {P E : Type 0} → ℕ → Seen P E → Ending → Type 0
RunsOut most a e = (e.fault ≡ ticket_limit ack_kind → 2 ^ 64 - 1 ≤ a.life.next_ack + a.life.sizes.window) × (e.fault ≡ ticket_limit sync_kind → 2 ^ 64 ≤ a.held.writes.next_sync + most)

-- Why a step ended a life.
pub record EndsLifeGiving {P E : Type 0} (most : ℕ) (old : Seen P E) (e : Ending) : Type 0 where
  pub cause : IsEndedBy old.held.watches e
  pub tickets : RunsOut most old e

abbrev pub EndsLife : {P E : Type 0} → Seen P E → Ending → Type 0
EndsLife old e = EndsLifeGiving 1 old e

-- the life goes on with what it was set to, or ends for a cause
abbrev pub LivesOnGiving : {P E : Type 0} → ℕ → Seen P E → Result (Seen P E) Ending → Type 0
LivesOnGiving most old result = MatchResult result (SameLifeGiving most old) (EndsLifeGiving most old)

abbrev pub LivesOn : {P E : Type 0} → Seen P E → Result (Seen P E) Ending → Type 0
LivesOn old result = LivesOnGiving 1 old result

-- TIPS

-- a tip is reported where it is above the last one
abbrev pub tips_above : ℕ → Round → ℕ → List ℕ → List Report
tips_above tip round height digest = if nat_lt tip height then new_tip round height digest ∷ [] else []

abbrev pub risen_to : ℕ → ℕ → ℕ
risen_to tip height = if nat_lt tip height then height else tip

-- the newest stored finalization is the tip; `inner` says which digest its payload names
abbrev pub newest_tips : (List ℕ → List ℕ) → ℕ → Option (At Finalization) → List Report
newest_tips inner tip None = []
newest_tips inner tip (Some x) = tips_above tip x.value.round x.height (inner x.value.payload)

abbrev pub newest_tip : ℕ → Option (At Finalization) → ℕ
newest_tip tip None = tip
newest_tip tip (Some x) = risen_to tip x.height

-- an actor whose newest stored finalization was reported
abbrev pub with_newest : {P E : Type 0} → Seen P E → Seen P E
with_newest a = record a { life = record a.life { tip = newest_tip a.life.tip (newest a.held.certs.held) } }

-- STORING

-- the block of this commitment, where that is its own
abbrev pub of_commitment : List ℕ → Option Block → Option Block
of_commitment commitment None = None
of_commitment commitment (Some b) = if bytes_eq b.commitment commitment then Some b else None

-- the block of the entry that a search of the cache finds by a commitment
abbrev pub cached_by_commitment : List ℕ → List Cached → Option Block
cached_by_commitment commitment entries = option_and_then cached_block (soonest (λ x. has_commitment commitment (cached_block x)) entries)

-- the block of this commitment: in the buffer, or else in the cache, or else, by the digest that the commitment names, among the
-- held blocks
abbrev pub found_at_hand : (List ℕ → List ℕ) → List Block → List Cached → List (At Block) → List ℕ → Option Block
found_at_hand inner buffer cached held commitment =
    option_or (find (λ b. bytes_eq b.commitment commitment) buffer)
    (option_or (cached_by_commitment commitment cached) (of_commitment commitment (block_of held (inner commitment))))

-- What a crash left of the cache was taken up, and nothing else changed.
pub record LoadsCache {P E : Type 0} (old new : Seen P E) : Type 0 where
  pub loads : old.held.cache.fresh ≡ true → LoadsEntries old.held.cache.kept new.held.cache.kept
  pub by_luck : old.held.cache.fresh ≡ true → ArePicked old.held.cache.finds new.held.cache.kept.held
  pub loaded : new.held.cache.loaded ≡ true
  pub still_open : AreStillOpen none_goes old.held.cache.syncs new.held.cache.syncs
  pub same : new ≡ record old { held = record old.held { cache = new.held.cache; watches = new.held.watches } }

-- these stores, with what others say of the cache and of how many calls were counted
abbrev pub with_cache_of : Held → Held → Held
with_cache_of now h = record h { cache = now.cache; lowest = now.lowest; lowests = now.lowests; watches = now.watches }

-- A finalization was put into the cache, where it is sure, unless its epoch is below the lowest.
pub record CachesFinalization (f : Finalization) (old new : Held) : Type 0 where
  pub puts : PutsAndSyncs (finalization_entry f) old.lowest old.cache.loaded old.cache.kept new.cache.kept
  pub loaded : new.cache.loaded ≡ old.cache.loaded
  pub still_open : AreStillOpen none_goes old.cache.syncs new.cache.syncs
  pub same : new ≡ record old { cache = new.cache; watches = new.watches }

-- A reported finalization was cached, since these stores.
pub record CachesReport (f : Finalization) (old new : Held) : Type 0 where
  pub caches : CachesFinalization f old new
  pub grew : (all : Written) → WithinWritten (written_entry (finalization_entry f)) all → Grew old all new

-- An entry was put into the cache, and a sync of its archive started, unless its epoch is below the lowest. What tickets cover
-- stays.
pub record CachesEntry (x : Cached) (started : Started) (old new : Held) (covers now : CacheTicket → List Cached) : Type 0 where
  pub puts : PutsAndStarts x old.lowest old.cache.loaded old.cache.kept new.cache.kept now started
  pub loaded : new.cache.loaded ≡ old.cache.loaded
  pub still_open : AreStillOpen none_goes old.cache.syncs new.cache.syncs
  pub tickets : KeepsTickets none_goes covers now
  pub same : new ≡ record old { cache = new.cache; watches = new.watches }

-- A sync of an archive of the cache was started, or there is nothing to wait for: what is kept is as it was.
pub record StartsCacheSync (epoch : ℕ) (section : Section) (started : Started) (old new : Held) (covers now : CacheTicket → List Cached) : Type 0 where
  pub starts : StartsSync now epoch (is_of_archive epoch section) old.cache.kept.held started
  pub kept : new.cache.kept ≡ old.cache.kept
  pub loaded : new.cache.loaded ≡ old.cache.loaded
  pub fresh : new.cache.fresh ≡ old.cache.fresh
  pub still_open : AreStillOpen none_goes old.cache.syncs new.cache.syncs
  pub tickets : KeepsTickets none_goes covers now
  pub same : new ≡ record old { cache = new.cache; watches = new.watches }

-- with one more open sync, under the next ticket
abbrev pub with_cache_sync : List Cached → Option ℕ → Held → Held
with_cache_sync entries answer h = record h {
  cache = record h.cache { syncs = h.cache.syncs ++ record { ticket = h.writes.next_sync; entries = entries; answer = answer } ∷ [] };
  writes = with_ticket h.writes;
}

-- The sync of a ticket of the cache has finished: what it covers is sure, and nothing else is held. It is open no longer.
pub record FinishesCacheSync (ticket : ℕ) (old new : Held) : Type 0 where
  pub finishes : FinishesEntries (covered_by ticket old.cache.syncs) old.cache.kept new.cache.kept
  pub loaded : new.cache.loaded ≡ old.cache.loaded
  pub fresh : new.cache.fresh ≡ old.cache.fresh
  pub still_open : AreStillOpen none_goes (without_ticket ticket old.cache.syncs) new.cache.syncs
  pub same : new ≡ record old { cache = new.cache; watches = new.watches }

-- What is cached below a round was pruned, whose epoch is then the lowest, unless that is a newer one.
pub record PrunesCache (round : Round) (old new : Held) : Type 0 where
  pub prunes : old.cache.loaded ≡ true → PrunesEntries (is_below round) old.cache.kept new.cache.kept
  pub loaded : new.cache.loaded ≡ old.cache.loaded
  pub still_open : AreStillOpen (is_below round) old.cache.syncs new.cache.syncs
  pub lowest : new.lowest ≡ max old.lowest round.epoch
  pub own_lowest : new.lowests ≡ new.lowest ∷ []
  pub same : new ≡ with_cache_of new old

-- what stands of the cache where these were put, one or none
abbrev pub PutsAll : List Cached → Kept Cached → Kept Cached → Type 0
PutsAll [] old new = new ≡ old
PutsAll (x ∷ xs) old new = (mid : Kept Cached) × PutsEntry x old mid × PutsAll xs mid new

-- a ticket was taken where a sync was started
abbrev pub ticketed : Option ℕ → Writing → Writing
ticketed None w = w
ticketed (Some t) w = with_ticket w

-- A sync of what passes the test is open behind the others, under the next ticket.
pub record StartsFor (covered : Cached → Bool) (answer : Option ℕ) (old new : Held) : Type 0 where
  pub still : List CacheSync
  pub still_open : AreStillOpen none_goes old.cache.syncs still
  pub entries : List Cached
  pub covers : (x : Cached) → Contains new.cache.kept.held x → covered x ≡ true → Contains entries x
  pub are : new.cache.syncs ≡ still ++ record { ticket = old.writes.next_sync; entries = entries; answer = answer } ∷ []

-- Entries of an epoch were put into the cache for a caller, and a sync was started that is to make sure what passes the test.
-- Of an epoch below the lowest nothing is kept, and there is nothing to wait for.
pub record KeepsFor (epoch : ℕ) (put : List Cached) (covered : Cached → Bool) (answer : Option ℕ) (ticket : Option ℕ) (old new : Held) : Type 0 where
  pub below : epoch < old.lowest → (ticket ≡ None) × (new.cache.kept ≡ old.cache.kept) × AreStillOpen none_goes old.cache.syncs new.cache.syncs
  pub done : old.cache.loaded ≡ true → old.lowest ≤ epoch → (ticket ≡ Some old.writes.next_sync) × PutsAll put old.cache.kept new.cache.kept × StartsFor covered answer old new
  pub loaded : new.cache.loaded ≡ old.cache.loaded
  pub same : new ≡ record old { cache = new.cache; writes = ticketed ticket old.writes; watches = new.watches }

-- it was verified at that round
abbrev pub is_verified_in : Held → Round → Block → Bool
is_verified_in h r b = list_any (verified_at r b) h.cache.kept.held

-- A notarized block is kept where it wasn't verified at that round: there nothing is done.
abbrev pub KeepsNotarizedWhere : Bool → Round → Block → Held → Held → Type 0
KeepsNotarizedWhere true r b old new = new ≡ record old { watches = new.watches }
KeepsNotarizedWhere false r b old new = (ticket : Option ℕ) × KeepsFor r.epoch (notarized_entry r b ∷ []) (is_notarized_of r.epoch) None ticket old new

-- the notarized block is kept, where one was found
abbrev pub KeepsFound : Round → Option Block → Held → Held → Type 0
KeepsFound r None old new = new ≡ record old { watches = new.watches }
KeepsFound r (Some b) old new = KeepsNotarizedWhere (is_verified_in old r b) r b old new

-- A notarization was kept, and then its block where that was found.
pub record KeepsNotarization (f : Notarization) (found : Option Block) (old new : Held) : Type 0 where
  pub ticket : Option ℕ
  pub mid : Held
  pub keeps : KeepsFor f.round.epoch (notarization_entry f ∷ []) (is_notarization_of f.round.epoch) None ticket old mid
  pub block : KeepsFound f.round found mid new

-- the rounds by which these prune the cache as they are witnessed, one after another
abbrev pub pruned_by : ℕ → Round → List Round → List Round
pruned_by retention last rounds = (fold (with_witness retention) (record { last = last; prunes = [] }) rounds).prunes

-- Rounds prune the cache, one after another.
pub record PrunesCacheBy (rounds : List Round) (old new : Held) : Type 0 where
  pub prunes : old.cache.loaded ≡ true → PrunesByAll rounds old.cache.kept new.cache.kept
  pub loaded : new.cache.loaded ≡ old.cache.loaded
  pub still_open : AreStillOpen (λ x. list_any (λ r. is_below r x) rounds) old.cache.syncs new.cache.syncs
  pub lowest : new.lowest ≡ fold (λ k r. max k r.epoch) old.lowest rounds
  pub own_lowest : old.lowests ≡ old.lowest ∷ [] → new.lowests ≡ new.lowest ∷ []

-- A put that was synced, with all that was held before; a crash leaves just what is held.
pub record StoresValue {T : Type 0} (ignored : Bool) (old : Kept (At T)) (x : At T) (new : Kept (At T)) : Type 0 where
  pub held : new.held ≡ (if ignored then old.held else old.held ++ x ∷ [])
  pub sure : new.sure ≡ new.held
  pub may : Within new.may new.held

abbrev pub at_height : ℕ → Finalization → At Finalization
at_height height f = record { height = height; value = f }

abbrev pub tip_reports : ℕ → Finalization → Block → List Report
tip_reports tip f b = tips_above tip f.round b.height b.digest

abbrev pub tip_after : ℕ → Block → ℕ
tip_after tip b = risen_to tip b.height

-- A finalized block was put above the processed height, with its finalization, and told as the tip where it is the newest.
pub record PutsAbove {P E : Type 0} (inner : List ℕ → List ℕ) (old : Seen P E) (f : Finalization) (b : Block) (new : Seen P E) : Type 0 where
  pub blocks : Puts (is_held old.held.blocks.held b) old.held.blocks (at_own_height b) new.held.blocks
  pub certs : Puts (is_certified inner old.held.certs.held b.height (inner f.payload)) old.held.certs (at_height b.height f) new.held.certs
  pub same : new ≡ record old {
    held = record old.held { blocks = new.held.blocks; certs = new.held.certs; writes = with_write b.height old.held.writes; watches = new.held.watches };
    life = record old.life { tip = tip_after old.life.tip b };
  }

-- and a sync that covers all writes was started
abbrev pub IsStarted : {P E : Type 0} → Seen P E → Seen P E → Type 0
IsStarted old new = new ≡ record old { held = record old.held { writes = with_started old.held.writes; watches = new.held.watches } }

-- The sync of a ticket has finished: it made more sure.
pub record FinishesSync {P E : Type 0} (ticket : ℕ) (old new : Seen P E) : Type 0 where
  pub blocks : MakesSure old.held.blocks new.held.blocks
  pub certs : MakesSure old.held.certs new.held.certs
  pub written : AreWritten new.held
  pub same : new ≡ record old {
    held = record old.held { blocks = new.held.blocks; certs = new.held.certs; writes = with_finished ticket old.held.writes; watches = new.held.watches };
  }

-- a put that was synced, where it was due
abbrev pub StoresWhere : {T : Type 0} → Bool → Bool → Kept (At T) → At T → Kept (At T) → Type 0
StoresWhere true ignored old x new = StoresValue ignored old x new
StoresWhere false ignored old x new = new ≡ old

-- a block is held, and no certificate at its height
abbrev pub lacks_finalization : Held → Block → Bool
lacks_finalization held b = has_height held.blocks.held b.height && not (has_height held.certs.held b.height)

abbrev pub late_tips : Bool → ℕ → Finalization → Block → List Report
late_tips true tip f b = tip_reports tip f b
late_tips false tip f b = []

abbrev pub late_tip : Bool → ℕ → Block → ℕ
late_tip true tip b = tip_after tip b
late_tip false tip b = tip

-- The finalization of a held block is stored where it is due, and reported where that block is the newest.
pub record StoresLate {P E : Type 0} (inner : List ℕ → List ℕ) (old : Seen P E) (f : Finalization) (b : Block) (new : Seen P E) : Type 0 where
  pub certs : StoresWhere (lacks_finalization old.held b) (is_certified inner old.held.certs.held b.height (inner f.payload)) old.held.certs (at_height b.height f) new.held.certs
  pub same : new ≡ record old {
    held = record old.held { certs = new.held.certs; watches = new.held.watches };
    life = record old.life { tip = late_tip (lacks_finalization old.held b) old.life.tip b };
  }

-- PROGRESS

-- The cutoff rises to the greatest of these, and rounds are witnessed, which prunes the cache.
pub record RaisesTo {P E : Type 0} (old : Seen P E) (cutoffs : List Cutoff) (rounds : List Round) (new : Seen P E) : Type 0 where
  pub prunes : PrunesCacheBy (pruned_by old.life.sizes.retention old.held.witnessed rounds) old.held new.held
  pub same : new ≡ record old {
    held = record (with_cache_of new.held old.held) { cutoff = greatest_of old.held.cutoff cutoffs; witnessed = fold (λ r s. later_round r (Some s)) old.held.witnessed rounds };
  }

-- the rounds of the finalizations that are held of these blocks
abbrev pub rounds_of : List (At Finalization) → List Outstanding → List Round
rounds_of certs done = filter_map (λ o. round_at certs o.height) done

-- an actor after these blocks were processed in order, with what is left of the outstanding ones, and of the cache
abbrev pub with_processed : {P E : Type 0} → Epochs → Seen P E → List Outstanding → List Outstanding → Held → Seen P E
with_processed epochs a done out now = record a {
  held = record (with_cache_of now a.held) {
    processed = acked_to a.held.processed done;
    cutoff = greatest_of a.held.cutoff (all_retired epochs a.held.certs.held done);
    witnessed = fold (λ r o. later_round r (round_at a.held.certs.held o.height)) a.held.witnessed done;
  };
  life = record a.life { out = out };
}

-- the rounds by which the cache is pruned as these blocks are processed
abbrev pub processed_prunes : {P E : Type 0} → Seen P E → List Outstanding → List Round
processed_prunes a done = pruned_by a.life.sizes.retention a.held.witnessed (rounds_of a.held.certs.held done)

-- processing these witnessed their rounds, which pruned the cache
abbrev pub PrunesProcessed : {P E : Type 0} → Seen P E → List Outstanding → Held → Type 0
PrunesProcessed a done now = PrunesCacheBy (processed_prunes a done) a.held now

-- The oldest block is processed where it was given.
pub record DrainsNext {P E : Type 0} (epochs : Epochs) (old : Seen P E) (is_processed : Bool) (new : Seen P E) : Type 0 where
  pub prunes : PrunesProcessed old (option_to_list (given_oldest old.life.out)) new.held
  pub same : new ≡ with_processed epochs old (option_to_list (given_oldest old.life.out)) (after_oldest old.life.out) new.held
  pub processed : is_processed ≡ is_some (given_oldest old.life.out)
  pub not_dropped : dropped_oldest old.life.out ≡ None

-- The given blocks at the front are processed, in order.
pub record Drains {P E : Type 0} (epochs : Epochs) (old : Seen P E) (is_drained : Bool) (new : Seen P E) : Type 0 where
  pub prunes : PrunesProcessed old (given_front old.life.out) new.held
  pub same : new ≡ with_processed epochs old (given_front old.life.out) (after_given old.life.out) new.held
  pub drained : is_drained ≡ nat_lt 0 (length (given_front old.life.out))
  pub not_dropped : dropped_oldest (after_given old.life.out) ≡ None

-- The oldest was dropped, which ended the life before its sync.
pub record EndsOldest {P E : Type 0} (old : Seen P E) (e : Ending) : Type 0 where
  pub oldest : Outstanding
  pub dropped : dropped_oldest old.life.out ≡ Some oldest
  pub fault : e.fault ≡ dropped_ack oldest.height
  pub unsynced : e.remains.ended.meta ≡ old.held.pairs

-- The oldest that is not given was dropped.
pub record EndsDropped {P E : Type 0} (old : Seen P E) (e : Ending) : Type 0 where
  pub oldest : Outstanding
  pub dropped : dropped_oldest (after_given old.life.out) ≡ Some oldest
  pub fault : e.fault ≡ dropped_ack oldest.height
  pub unsynced : e.remains.ended.meta ≡ old.held.pairs
