-- What a life keeps: its stores, and what it remembers beside them; what is left of the stores.
use Rattle.std.specs.List.{AllByRecursion, list_any}
use Rattle.std.specs.Prelude.{Bool, Contains, Err, IfErr, IsTrue, List, MatchResult, Ok, Option, Result, Some, [], false, length, map, option_map, suc, true, zero, ℕ, ⊤, ◌++◌, ◌<◌, ◌∷◌, ◌≡◌, ◌≤◌, ◌⊎◌}
use Rattle.mar_types.specs.Causes.{Rose}
use Rattle.mar_types.specs.Round.{Round}
use Rattle.mar_cert.specs.Finalization.{Finalization}
use Rattle.mar_key.specs.Cutoff.{Cutoff}
use Rattle.mar_key.specs.Processed.{Processed, at_block}
use Rattle.mar_store.specs.Gaps.{AscendAbove}
use Rattle.mar_store.specs.Kept.{At, Kept, value_at}
use Rattle.mar_store.specs.Changes.{Left, IsReopened, KeepsValues, Within, left_of}
use Rattle.mar_store.specs.Luck.{keeps_by, lucky_found}
use Rattle.mar_store.specs.Watch.{Strikes, Watch, armed, counted, is_due}
use Rattle.mar_store.specs.declared.Lost.{Lost}
use Rattle.mar_store.specs.declared.Lost.TheVariants.{Fault as Broke, Memory as Forgot}
use Rattle.mar_store.specs.declared.Miss.{Miss}
use Rattle.mar_store.specs.declared.Miss.TheVariants.{Fault as Missed, Memory as NoRoom}
use Rattle.mar_cert.specs.Block.{Block}
use Rattle.mar_model.specs.Acks.{Outstanding}
use Rattle.mar_model.specs.Cache.{is_below}
use Rattle.mar_model.specs.CacheCalls.{IsNestedCache}
use Rattle.mar_model.specs.Cached.{Cached, IsUnloaded}
use Rattle.mar_model.specs.LuckyEntries.{lucky_entries}
use Rattle.mar_model.specs.Metadata.{Pair, first_pair, lucky_pair}
use Rattle.mar_model.specs.Faults.{Fault, store_fault, want_of_memory, StoreName, block_store, cert_store, meta_store, cache_store}
use Rattle.mar_model.specs.Lives.{IsPicked, Picks, round_zero}
use Rattle.mar_model.specs.Node.{CacheSync, CertifiedCommitment, Ended, SureOrWritten}
use Rattle.mar_gate.specs.Writing.{IsOrdered, Writing, is_open_sync, no_writes}

-- what each store tells of its failures
pub record Watches : Type 0 where
  pub blocks : Watch
  pub certs : Watch
  pub meta : Watch
  pub cache : Watch

abbrev pub watch_of : Watches → StoreName → Watch
watch_of w block_store = w.blocks
watch_of w cert_store = w.certs
watch_of w meta_store = w.meta
watch_of w cache_store = w.cache

-- with one more call of a store armed
abbrev pub with_armed : StoreName → ℕ → Watches → Watches
with_armed block_store calls w = record w { blocks = armed calls w.blocks }
with_armed cert_store calls w = record w { certs = armed calls w.certs }
with_armed meta_store calls w = record w { meta = armed calls w.meta }
with_armed cache_store calls w = record w { cache = armed calls w.cache }

-- after so many counted calls
abbrev pub counted_calls : ℕ → Watch → Watch
counted_calls zero w = w
counted_calls (suc k) w = counted_calls k (counted w)

-- none of the next so many calls is armed
abbrev pub Unarmed : ℕ → Watch → Type 0
Unarmed zero w = ⊤
Unarmed (suc k) w = (is_due w.due ≡ false) × Unarmed k (counted w)

-- Some counted calls were made, and none of them failed.
pub record Passes (old new : Watch) : Type 0 where
  pub calls : ℕ
  pub unarmed : Unarmed calls old
  pub is : new ≡ counted_calls calls old

-- A call that isn't counted failed, which none does where only armed calls fail.
pub record StrikesUncounted (old new : Watch) : Type 0 where
  pub rose : Rose old.faults new.faults
  pub unarmed : old.only_armed ≡ true → ⊥
  pub same : new ≡ record old { faults = new.faults }

-- Some calls went well, and then one failed.
pub record Breaks (old new : Watch) : Type 0 where
  pub mid : Watch
  pub passes : Passes old mid
  pub strikes : Strikes mid new ⊎ StrikesUncounted mid new

-- no call of any store failed
abbrev pub ArePassed : Watches → Watches → Type 0
ArePassed before now = (s : StoreName) → Passes (watch_of before s) (watch_of now s)

-- How far delivery has come, the last round that was witnessed, and what a crash can leave of the first two.
pub record Progress : Type 0 where
  pub processed : Option Processed
  pub cutoff : Cutoff
  pub witnessed : Round
  pub pairs : List Pair
  pub watch : Watch
  pub intact : Bool  -- no call that changes the store has failed

-- as a store says that was just reopened
abbrev pub progress_of : Pair → Watch → Progress
progress_of p watch = record { processed = option_map at_block p.processed; cutoff = p.cutoff; witnessed = round_zero; pairs = p ∷ []; watch = watch; intact = true }

-- The cache of a life: its entries, what a start makes of them, and its open syncs. The entries are held from the start on, which
-- takes up what a crash left.
pub record HeldCache : Type 0 where
  pub kept : Kept Cached
  pub loaded : Bool  -- what a crash left was taken up
  pub fresh : Bool  -- nothing was put since the opening, and nothing taken up
  pub finds : Option (List Cached)  -- what the luck of the opening picked to be taken up, where the cache goes by luck
  pub syncs : List CacheSync  -- those that are open

-- The stores of a life, with the processed height, the cutoff, the last witnessed round, the pairs that a crash can leave
-- of the first two, the cache, and the writes that wait for a sync.
pub record Held : Type 0 where
  pub blocks : Kept (At Block)
  pub certs : Kept (At Finalization)
  pub processed : Option Processed
  pub cutoff : Cutoff
  pub witnessed : Round
  pub pairs : List Pair
  pub cache : HeldCache
  pub lowest : ℕ  -- the lowest epoch of the cache
  pub lowests : List ℕ  -- those that a crash may leave
  pub writes : Writing
  pub watches : Watches
  pub intact : Bool  -- no call that changes a store has failed: where one has, nothing is said of what is held

-- What is held is sure or waits for a sync, and the open syncs are in order.
pub record AreWritten (h : Held) : Type 0 where
  pub blocks : SureOrWritten h.blocks h.writes.uncovered
  pub certs : SureOrWritten h.certs h.writes.uncovered
  pub ordered : IsOrdered h.writes

-- Open syncs of the cache have tickets that were given out, each later than the one before, and no open sync of both archives
-- has one of them.
pub record HaveOwnTickets (w : Writing) (syncs : List CacheSync) : Type 0 where
  pub own : AllByRecursion (λ s. (s.ticket < w.next_sync) × (is_open_sync w.syncs s.ticket ≡ false)) syncs
  pub ascend : AscendAbove 0 (map (λ s. s.ticket) syncs)

-- What is cached may be left, none of it of an epoch below the lowest, which is what a crash leaves of that; and its open syncs
-- have tickets of their own.
pub record AreCached (h : Held) : Type 0 where
  pub nested : IsNestedCache h.cache.kept h.lowest h.cache.loaded
  pub own_lowest : h.lowests ≡ h.lowest ∷ []
  pub own_tickets : HaveOwnTickets h.writes h.cache.syncs

-- A sync made more sure: nothing else is held, and nothing else may be left.
pub record MakesSure {T : Type 0} (old new : Kept (At T)) : Type 0 where
  pub held : new.held ≡ old.held
  pub sure : KeepsValues old.sure new.sure
  pub may : Within new.may old.may

-- the sizes that an actor keeps to
pub record Sizes : Type 0 where
  pub window : ℕ
  pub max_repair : ℕ
  pub retention : ℕ
  pub capacity : ℕ

-- What a life remembers, with the provider and the epocher that it was given.
pub record Remembered (P E : Type 0) : Type 0 where
  pub provider : P
  pub epocher : E
  pub sizes : Sizes
  pub out : List Outstanding
  pub tip : ℕ
  pub next_ack : ℕ

-- what a life begins with
abbrev pub first_life : {P E : Type 0} → P → E → Sizes → Remembered P E
first_life provider epocher sizes = record {
  provider = provider;
  epocher = epocher;
  sizes = sizes;
  out = [];
  tip = 0;
  next_ack = 0;
}

-- What contracts see of an actor: its stores, what it remembers, and the commitments that it knows as certified.
pub record Seen (P E : Type 0) : Type 0 where
  pub held : Held
  pub life : Remembered P E
  pub certified : List CertifiedCommitment

-- as a step sees it that looks at no certified commitment
abbrev pub seen : {P E : Type 0} → Held → Remembered P E → Seen P E
seen held life = record { held = held; life = life; certified = [] }

-- What is left of the stores, and what each tells of its failures.
pub record Remains : Type 0 where
  pub ended : Ended
  pub watches : Watches

-- How a life ended, and what is left.
pub record Ending : Type 0 where
  pub fault : Fault
  pub remains : Remains

-- what is left of two archives, of the cache and its lowest epoch, and of the metadata
abbrev pub ended_of : Left (At Block) → Left (At Finalization) → Left Cached → List ℕ → List Pair → Ended
ended_of blocks certs cache lowests pairs = record {
  blocks_sure = blocks.sure;
  blocks_may = blocks.may;
  certs_sure = certs.sure;
  certs_may = certs.may;
  cache_sure = cache.sure;
  cache_may = cache.may;
  lowests = lowests;
  meta = pairs;
}

-- what a crash between two store calls leaves
abbrev pub remains_of : Held → Remains
remains_of h = record { ended = ended_of (left_of h.blocks) (left_of h.certs) (left_of h.cache.kept) h.lowests h.pairs; watches = h.watches }

abbrev pub blocks_left : Ended → Left (At Block)
blocks_left e = record { sure = e.blocks_sure; may = e.blocks_may }

abbrev pub certs_left : Ended → Left (At Finalization)
certs_left e = record { sure = e.certs_sure; may = e.certs_may }

abbrev pub cache_left : Ended → Left Cached
cache_left e = record { sure = e.cache_sure; may = e.cache_may }

-- A store's fault comes exactly where a call of that store failed since; of the others none did.
pub record FailsBy (before : Watches) (fault : Fault) (now : Watches) : Type 0 where
  pub broke : (s : StoreName) → fault ≡ store_fault s → Breaks (watch_of before s) (watch_of now s)
  pub passed : (s : StoreName) → (fault ≡ store_fault s → ⊥) → Passes (watch_of before s) (watch_of now s)

-- why a life ended
abbrev pub IsEndedBy : Watches → Ending → Type 0
IsEndedBy before e = FailsBy before e.fault e.remains.watches

-- SINCE A START

-- What was written since a start: what was put, the rounds below which the cache was pruned, the pairs that the metadata's
-- sync was given, and the heights below which was pruned.
pub record Written : Type 0 where
  pub blocks : List (At Block)
  pub certs : List (At Finalization)
  pub cached : List Cached
  pub prunes : List Round
  pub pairs : List Pair
  pub blocks_from : ℕ
  pub certs_from : ℕ

abbrev pub nothing_written : Written
nothing_written = record { blocks = []; certs = []; cached = []; prunes = []; pairs = []; blocks_from = 0; certs_from = 0 }

abbrev pub written_block : At Block → Written
written_block x = record nothing_written { blocks = x ∷ [] }

abbrev pub written_cert : At Finalization → Written
written_cert x = record nothing_written { certs = x ∷ [] }

abbrev pub written_both : At Block → At Finalization → Written
written_both x y = record nothing_written { blocks = x ∷ []; certs = y ∷ [] }

abbrev pub written_entries : List Cached → Written
written_entries xs = record nothing_written { cached = xs }

abbrev pub written_entry : Cached → Written
written_entry x = written_entries (x ∷ [])

abbrev pub written_prune : Round → Written
written_prune round = record nothing_written { prunes = round ∷ [] }

abbrev pub written_prunes : List Round → Written
written_prunes rounds = record nothing_written { prunes = rounds }

abbrev pub written_pair : Pair → Written
written_pair p = record nothing_written { pairs = p ∷ [] }

-- all that the first wrote the second wrote too
pub record WithinWritten (some all : Written) : Type 0 where
  pub blocks : Within some.blocks all.blocks
  pub certs : Within some.certs all.certs
  pub cached : Within some.cached all.cached
  pub prunes : Within some.prunes all.prunes
  pub pairs : Within some.pairs all.pairs
  pub blocks_from : some.blocks_from ≤ all.blocks_from
  pub certs_from : some.certs_from ≤ all.certs_from

-- What may be left of the metadata: what was synced stands first, and nothing is gone, nor new but what was written.
pub record LeavesPairsSince (start written left : List Pair) : Type 0 where
  pub first : first_pair left ≡ first_pair start
  pub kept : Within start left
  pub within : Within left (start ++ written)

-- What is left of a store: at or above the bound all that was sure is sure, and all that was held may be left; what may be
-- left might be before, or was put.
pub record LeavesStore {T : Type 0} (start : Kept (At T)) (bound : ℕ) (put : List (At T)) (left : Left (At T)) : Type 0 where
  pub sure : (h : ℕ) (v : T) → bound ≤ h → value_at start.sure h ≡ Some v → value_at left.sure h ≡ Some v
  pub held : (x : At T) → bound ≤ x.height → Contains start.held x → Contains left.may x
  pub may : Within left.may (start.may ++ put)
  pub sure_may : (h : ℕ) (v : T) → value_at left.sure h ≡ Some v → Contains left.may (record { height = h; value = v })

-- What is left of the cache: what was sure is sure unless it was pruned, what may be left might be before or was put, and
-- the lowest epoch is one that it might be, or a prune's.
pub record LeavesCache (start : Left Cached) (started : List ℕ) (put : List Cached) (prunes : List Round) (left : Left Cached) (lowests : List ℕ) : Type 0 where
  pub sure : (x : Cached) → Contains start.sure x → Contains left.sure x ⊎ IsTrue (list_any (λ p. is_below p x) prunes)
  pub may : Within left.may (start.may ++ put)
  pub lowest : Within lowests (started ++ map (λ p. p.epoch) prunes)

-- What is left of all stores, since a start: with what was written, and no more.
pub record LeavesMore (start : Held) (written : Written) (now : Ended) : Type 0 where
  pub blocks : LeavesStore start.blocks written.blocks_from written.blocks (blocks_left now)
  pub certs : LeavesStore start.certs written.certs_from written.certs (certs_left now)
  pub pairs : LeavesPairsSince start.pairs written.pairs now.meta
  pub cache : LeavesCache (left_of start.cache.kept) start.lowests written.cached written.prunes (cache_left now) now.lowests

-- The calls since a start went well; what was held at or above the bound of a prune is held.
pub record Grew (start : Held) (written : Written) (now : Held) : Type 0 where
  pub leaves : LeavesMore start written (remains_of now).ended
  pub blocks : (x : At Block) → written.blocks_from ≤ x.height → Contains start.blocks.held x → Contains now.blocks.held x
  pub certs : (x : At Finalization) → written.certs_from ≤ x.height → Contains start.certs.held x → Contains now.certs.held x
  pub passed : ArePassed start.watches now.watches

-- One of the calls since a start failed, or memory ran out, or the rules ended the life.
pub record Loses (start : Held) (written : Written) (e : Ending) : Type 0 where
  pub leaves : LeavesMore start written e.remains.ended
  pub cause : IsEndedBy start.watches e

-- how a life ended, on these stores
abbrev pub ended_on : Fault → Held → Ending
ended_on fault held = record { fault = fault; remains = remains_of held }

-- Whatever was written before since some start, these writes join it. The call was made in place: it went on to these stores, or
-- the life ended on them.
abbrev pub GoesOn : {T C : Type 0} → (C → Fault) → Held → Written → Held → Result T C → Type 0
GoesOn fault old written new result =
    (start : Held) (all : Written) → Grew start all old → WithinWritten written all → MatchResult result (λ _. Grew start all new) (λ c. Loses start all (ended_on (fault c) new))

-- the same of a call of which only a failure is said
abbrev pub LosesSince : {T C : Type 0} → (C → Fault) → Held → Written → Held → Result T C → Type 0
LosesSince fault old written new result = (start : Held) (all : Written) → Grew start all old → WithinWritten written all → IfErr result (λ c. Loses start all (ended_on (fault c) new))

-- what a rule came to that was made in place: the life goes on as this, or it ended on what this holds
abbrev pub outcome : {P E T C : Type 0} → (C → Fault) → Seen P E → Result T C → Result (Seen P E) Ending
outcome fault now (Ok x) = Ok now
outcome fault now (Err c) = Err (ended_on (fault c) now.held)

-- OPENING

-- what a luck picks of what is left, where the stores go by it
abbrev pub picks_of : Remains → ℕ → Picks
picks_of old luck = record {
  blocks = option_map (λ keeps. lucky_found (keeps_by keeps luck) (blocks_left old.ended)) old.watches.blocks.keeps;
  certs = option_map (λ keeps. lucky_found (keeps_by keeps luck) (certs_left old.ended)) old.watches.certs.keeps;
  pair = option_map (λ keeps. lucky_pair (keeps_by keeps luck 0) old.ended.meta) old.watches.meta.keeps;
  cache = option_map (λ keeps. lucky_entries (keeps_by keeps luck) (cache_left old.ended)) old.watches.cache.keeps;
}

-- The stores as an opening finds them: each archive reopened, one pair of the metadata, one call of each store counted.
pub record ReopensAs (old : Remains) (luck : ℕ) (new : Held) : Type 0 where
  pub blocks : IsReopened (blocks_left old.ended) new.blocks
  pub certs : IsReopened (certs_left old.ended) new.certs
  pub pair : Pair
  pub pair_may : Contains old.ended.meta pair
  pub picked : IsPicked (picks_of old luck) new.blocks.held new.certs.held pair
  pub processed : new.processed ≡ option_map at_block pair.processed
  pub cutoff : new.cutoff ≡ pair.cutoff
  pub witnessed : new.witnessed ≡ round_zero
  pub pairs : new.pairs ≡ pair ∷ []
  pub writes : new.writes ≡ no_writes
  pub passed : ArePassed old.watches new.watches
  pub intact : new.intact ≡ true
  pub cache : IsUnloaded old.ended.cache_sure old.ended.cache_may (left_of new.cache.kept)
  pub unheld : new.cache.kept.held ≡ []
  pub fresh : new.cache.fresh ≡ true
  pub finds : new.cache.finds ≡ (picks_of old luck).cache
  pub no_syncs : new.cache.syncs ≡ []
  pub lowest : Contains new.lowests new.lowest
  pub lowests : Within new.lowests old.ended.lowests

-- What is left of a store that was opened, or was to be: what was sure is sure, and nothing may be left but what might
-- before, and what was put.
pub record LeavesUnopened {T : Type 0} (old : Left (At T)) (put : List (At T)) (left : Left (At T)) : Type 0 where
  pub sure : KeepsValues old.sure left.sure
  pub may : Within left.may (old.may ++ put)

-- The same of the cache, of which nothing is put before a life begins.
pub record LeavesUnloaded (old now : Left Cached) (old_lowests lowests : List ℕ) : Type 0 where
  pub sure : Within old.sure now.sure
  pub may : Within now.may old.may
  pub lowest : Within lowests old_lowests

-- What an opening that failed leaves.
pub record LosesOpening (old : Remains) (written : Written) (e : Ending) : Type 0 where
  pub blocks : LeavesUnopened (blocks_left old.ended) written.blocks (blocks_left e.remains.ended)
  pub certs : LeavesUnopened (certs_left old.ended) written.certs (certs_left e.remains.ended)
  pub some_pair : 0 < length old.ended.meta → 0 < length e.remains.ended.meta
  pub first_pair : (p : Pair) → first_pair e.remains.ended.meta ≡ Some p → Contains old.ended.meta p
  pub pairs : Within e.remains.ended.meta (old.ended.meta ++ written.pairs)
  pub cache : LeavesUnloaded (cache_left old.ended) (cache_left e.remains.ended) old.ended.lowests e.remains.ended.lowests
  pub cause : IsEndedBy old.watches e

-- the place of a store in the order in which all are opened
abbrev pub opening_place : StoreName → ℕ
opening_place block_store = 0
opening_place cert_store = 1
opening_place meta_store = 2
opening_place cache_store = 3

-- no store was called behind one that could not be opened
abbrev pub FailsInOrder : Remains → Ending → Type 0
FailsInOrder old e = (s t : StoreName) → e.fault ≡ store_fault s → opening_place s < opening_place t → watch_of e.remains.watches t ≡ watch_of old.watches t

-- a store's fault, or want of memory
abbrev pub IsUsual : Fault → Type 0
IsUsual (store_fault s) = ⊤
IsUsual want_of_memory = ⊤
IsUsual _ = ⊥

-- a fault of one of the two archives, or want of memory
abbrev pub IsArchiveFault : Fault → Type 0
IsArchiveFault (store_fault block_store) = ⊤
IsArchiveFault (store_fault cert_store) = ⊤
IsArchiveFault want_of_memory = ⊤
IsArchiveFault _ = ⊥

-- a fault that a read may have: of an archive or of the cache, or want of memory; the metadata is read in memory
abbrev pub IsReadFault : Fault → Type 0
IsReadFault (store_fault block_store) = ⊤
IsReadFault (store_fault cert_store) = ⊤
IsReadFault (store_fault cache_store) = ⊤
IsReadFault want_of_memory = ⊤
IsReadFault _ = ⊥

-- no store's fault
abbrev pub IsNoStores : Fault → Type 0
IsNoStores (store_fault s) = ⊥
IsNoStores _ = ⊤

-- the fault by which a store is lost
abbrev pub lost_fault : {W : Type 0} → StoreName → Lost W → Fault
lost_fault s (Broke w) = store_fault s
lost_fault s (Forgot w) = want_of_memory

-- and by which a read has no answer
abbrev pub missed_fault : StoreName → Miss → Fault
missed_fault s Missed = store_fault s
missed_fault s NoRoom = want_of_memory
