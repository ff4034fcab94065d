-- What one call of a rule does, and what it leaves where it fails.
use Rattle.std.specs.Prelude.{Bool, List, None, true, Option, Some, [], option_to_list, ◌++◌, ◌∷◌, ◌≡◌, ◌⊎◌, ◌-◌, ◌^◌, ◌≤◌, ℕ}
use Rattle.mar_types.specs.Epochs.{Epochs}
use Rattle.mar_types.specs.Round.{Round}
use Rattle.mar_cert.specs.Block.{Block}
use Rattle.mar_cert.specs.Finalization.{Finalization, Notarization}
use Rattle.mar_key.specs.Cutoff.{at_round, greatest_of}
use Rattle.mar_key.specs.Hears.{Hears}
use Rattle.mar_key.specs.Keys.{Call, above_height, retain}
use Rattle.mar_key.specs.Processed.{at_block}
use Rattle.mar_store.specs.Changes.{IsNested, Puts}
use Rattle.mar_model.specs.Acks.{Mark, after_oldest, with_mark}
use Rattle.mar_model.specs.Answers.{Sent, TicketAnswer, Value, finished_answers, sync_value, to, true_value}
use Rattle.mar_model.specs.Cache.{certified_covers, is_notarization_of, is_notarized_of, is_verified_of, notarized_where}
use Rattle.mar_model.specs.AllEntries.{LoadsEntries}
use Rattle.mar_model.specs.CacheCalls.{none_goes}
use Rattle.mar_model.specs.OpenSyncs.{AreStillOpen}
use Rattle.mar_model.specs.Cached.{Cached, finalization_entry, notarization_entry, notarized_entry, verified_entry}
use Rattle.mar_model.specs.Event.{retired, round_at}
use Rattle.mar_model.specs.Faults.{Fault, sync_kind, ticket_limit, want_of_memory}
use Rattle.mar_model.specs.Held.{AreCached, ArePassed, AreWritten, Ending, Grew, Held, IsArchiveFault, IsUsual, Loses, MakesSure, WithinWritten, Written, ended_on, nothing_written, written_block, written_both, written_cert, written_entry, written_pair, written_prunes}
use Rattle.mar_model.specs.Lives.{ArePicked, later_round}
use Rattle.mar_model.specs.Metadata.{pair_of}
use Rattle.mar_model.specs.Moves.{CachesFinalization, FinishesCacheSync, HearsFront, KeepsFor, PrunesCacheBy, StoresWhere, at_height, is_verified_in, lacks_finalization, pruned_by, risen_to, tips_above, with_cache_of}
use Rattle.mar_model.specs.Promise.{Heard}
use Rattle.mar_model.specs.Requests.{raise_asks}
use Rattle.mar_model.specs.Stored.{at_own_height, is_certified, is_held}
use Rattle.mar_model.specs.Writing.{with_all_covered, with_finished, with_started, with_write}
use Rattle.mar_model.specs.Scene.{Scene}

pub data CacheAct : Type 0 where
  put_finalization : Finalization → CacheAct
  keep_notarization : Notarization → CacheAct  -- and a sync that nobody waits for, as the next
  keep_notarized : Round → Block → CacheAct
  load_cache : CacheAct

-- those that answer a caller
pub data KeepAct : Type 0 where
  keep_verified : Round → Block → ℕ → KeepAct  -- for this ticket, with a sync that its holder waits for, as the next
  keep_certified : Round → Block → ℕ → KeepAct
  finish_kept : ℕ → KeepAct

pub data StoreAct : Type 0 where
  store : Finalization → Block → StoreAct  -- put both, and a write
  store_block : Block → StoreAct  -- put it alone, and a write
  store_late : Finalization → Block → StoreAct  -- put and synced, where it is missing
  start_sync : StoreAct
  sync_writes : StoreAct  -- sync both archives, where a write is uncovered
  finish_sync : ℕ → StoreAct

pub data ProgressAct : Type 0 where
  note : Round → ProgressAct  -- witness, raise, and the metadata sync
  mark : ℕ → Mark → ProgressAct  -- the block that was handed over under this ticket
  process : ℕ → ProgressAct  -- the oldest of the window, which stands at this height
  sync_progress : ProgressAct  -- the metadata sync alone

pub data Word : Type 0 where
  tell : Round → ℕ → List ℕ → Word  -- a tip, where it is above the last one
  ask : List Call → Word
  send : Sent → Word
  reply : TicketAnswer → Word

pub data Act : Type 0 where
  caches : CacheAct → Act
  keeps_for : KeepAct → Act
  stores : StoreAct → Act
  progresses : ProgressAct → Act
  says : Word → Act

-- WHERE IT GOES WELL

-- a put of both, in order
pub record StoresBoth (inner : List ℕ → List ℕ) (f : Finalization) (b : Block) (old new : Held) : Type 0 where
  pub blocks : Puts (is_held old.blocks.held b) old.blocks (at_own_height b) new.blocks
  pub certs : Puts (is_certified inner old.certs.held b.height (inner f.payload)) old.certs (at_height b.height f) new.certs
  pub same : new ≡ record old { blocks = new.blocks; certs = new.certs; writes = with_write b.height old.writes; watches = new.watches }

-- a put of the block alone
pub record StoresBlock (b : Block) (old new : Held) : Type 0 where
  pub blocks : Puts (is_held old.blocks.held b) old.blocks (at_own_height b) new.blocks
  pub same : new ≡ record old { blocks = new.blocks; writes = with_write b.height old.writes; watches = new.watches }

-- a finalization put and synced where it is missing
pub record StoresMissing (inner : List ℕ → List ℕ) (f : Finalization) (b : Block) (old new : Held) : Type 0 where
  pub certs : StoresWhere (lacks_finalization old b) (is_certified inner old.certs.held b.height (inner f.payload)) old.certs (at_height b.height f) new.certs
  pub same : new ≡ record old { certs = new.certs; watches = new.watches }

-- the sync of a ticket has finished
pub record FinishesBoth (ticket : ℕ) (old new : Held) : Type 0 where
  pub blocks : MakesSure old.blocks new.blocks
  pub certs : MakesSure old.certs new.certs
  pub written : AreWritten new
  pub same : new ≡ record old { blocks = new.blocks; certs = new.certs; writes = with_finished ticket old.writes; watches = new.watches }

-- Both archives were synced, which covers every write; open syncs stay open.
pub record SyncsBoth (old new : Held) : Type 0 where
  pub blocks : MakesSure old.blocks new.blocks
  pub certs : MakesSure old.certs new.certs
  pub written : AreWritten new
  pub same : new ≡ record old { blocks = new.blocks; certs = new.certs; writes = with_all_covered old.writes; watches = new.watches }

-- where a write is uncovered
abbrev pub SyncsUncovered : List ℕ → Held → Held → Type 0
SyncsUncovered [] old new = new ≡ record old { watches = new.watches }
SyncsUncovered (h ∷ uncovered) old new = SyncsBoth old new

abbrev pub IsStored : (List ℕ → List ℕ) → StoreAct → Held → Held → Type 0
IsStored inner (store f b) old new = StoresBoth inner f b old new
IsStored inner (store_block b) old new = StoresBlock b old new
IsStored inner (store_late f b) old new = StoresMissing inner f b old new
IsStored inner start_sync old new = new ≡ record old { writes = with_started old.writes; watches = new.watches }
IsStored inner (finish_sync t) old new = FinishesBoth t old new
IsStored inner sync_writes old new = SyncsUncovered old.writes.uncovered old new

-- an entry is kept with a sync of its archive that nobody waits for
abbrev pub KeepsAlone : ℕ → Cached → (Cached → Bool) → Held → Held → Type 0
KeepsAlone epoch x covered old new = (ticket : Option ℕ) × KeepsFor epoch (x ∷ []) covered None ticket old new

-- What a crash left of the cache was taken up.
pub record TakesUpCache (old new : Held) : Type 0 where
  pub loads : old.cache.fresh ≡ true → LoadsEntries old.cache.kept new.cache.kept
  pub by_luck : old.cache.fresh ≡ true → ArePicked old.cache.finds new.cache.kept.held
  pub loaded : new.cache.loaded ≡ true
  pub still_open : AreStillOpen none_goes old.cache.syncs new.cache.syncs
  pub same : new ≡ record old { cache = new.cache; watches = new.watches }

abbrev pub IsCached : CacheAct → Held → Held → Type 0
IsCached (put_finalization f) old new = CachesFinalization f old new
IsCached (keep_notarization f) old new = KeepsAlone f.round.epoch (notarization_entry f) (is_notarization_of f.round.epoch) old new
IsCached (keep_notarized r b) old new = KeepsAlone r.epoch (notarized_entry r b) (is_notarized_of r.epoch) old new
IsCached load_cache old new = TakesUpCache old new

-- the sync to wait for, or that there is none
abbrev pub kept_value : Option ℕ → Value
kept_value None = true_value
kept_value (Some t) = sync_value t

-- Entries were put into the cache for the holder of a ticket, who is answered which sync makes them durable.
pub record KeepsAndTells (epoch : ℕ) (put : List Cached) (covered : Cached → Bool) (ticket : ℕ) (old new : Held) (answered : List TicketAnswer) : Type 0 where
  pub sync : Option ℕ
  pub kept : KeepsFor epoch put covered (Some ticket) sync old new
  pub told : answered ≡ to ticket (kept_value sync) ∷ []

-- what was kept, and who was answered what
abbrev pub IsKept : KeepAct → Held → Held → List TicketAnswer → Type 0
IsKept (keep_verified r b t) old new answered = KeepsAndTells r.epoch (verified_entry r b ∷ []) (is_verified_of r.epoch) t old new answered
IsKept (keep_certified r b t) old new answered = KeepsAndTells r.epoch (notarized_where (is_verified_in old r b) r b) (certified_covers r.epoch (is_verified_in old r b)) t old new answered
IsKept (finish_kept t) old new answered = FinishesCacheSync t old new × (answered ≡ finished_answers t old.cache.syncs)

-- the rounds by which the cache is pruned as a height is processed
abbrev pub height_prunes : ℕ → Held → ℕ → List Round
height_prunes retention h height = pruned_by retention h.witnessed (option_to_list (round_at h.certs.held height))

-- The processed height is set: the cutoff rises to the round that finalized it, which is witnessed, and over the epochs that end
-- there.
pub record Processes (epochs : Epochs) (retention height : ℕ) (old new : Held) : Type 0 where
  pub prunes : PrunesCacheBy (height_prunes retention old height) old new
  pub same : new ≡ record (with_cache_of new old) {
    processed = Some (at_block height);
    cutoff = greatest_of old.cutoff (retired epochs old.certs.held height);
    witnessed = later_round old.witnessed (round_at old.certs.held height);
  }

-- processed height and cutoff were made durable
pub record SyncsProgress (old new : Held) : Type 0 where
  pub passed : ArePassed old.watches new.watches
  pub same : new ≡ record old { pairs = pair_of old.processed old.cutoff ∷ []; watches = new.watches }

-- a round was witnessed, the cutoff rose to it, and both were made durable
pub record Notes (r : Round) (retention : ℕ) (old new : Held) : Type 0 where
  pub prunes : PrunesCacheBy (pruned_by retention old.witnessed (r ∷ [])) old new
  pub passed : ArePassed old.watches new.watches
  pub same : new ≡ record (with_cache_of new old) { cutoff = greatest_of old.cutoff (at_round r ∷ []); witnessed = later_round old.witnessed (Some r); pairs = pair_of old.processed (greatest_of old.cutoff (at_round r ∷ [])) ∷ [] }

-- what an act writes, for what a failure leaves
abbrev pub written_stored : StoreAct → Written
written_stored (store f b) = written_both (at_own_height b) (at_height b.height f)
written_stored (store_block b) = written_block (at_own_height b)
written_stored (store_late f b) = written_cert (at_height b.height f)
written_stored start_sync = nothing_written
written_stored (finish_sync t) = nothing_written
written_stored sync_writes = nothing_written

abbrev pub written_cached : CacheAct → Written
written_cached (put_finalization f) = written_entry (finalization_entry f)
written_cached (keep_notarization f) = written_entry (notarization_entry f)
written_cached (keep_notarized r b) = written_entry (notarized_entry r b)
written_cached load_cache = nothing_written

abbrev pub written_kept : KeepAct → Written
written_kept (keep_verified r b t) = written_entry (verified_entry r b)
written_kept (keep_certified r b t) = written_entry (notarized_entry r b)
written_kept (finish_kept t) = nothing_written

-- whatever was written before since some start, this joins it
abbrev pub Joins : Held → Written → Held → Type 0
Joins old written new = (start : Held) (all : Written) → Grew start all old → WithinWritten written all → Grew start all new

abbrev pub LosesOver : Held → Written → Ending → Type 0
LosesOver old written e = (start : Held) (all : Written) → Grew start all old → WithinWritten written all → Loses start all e

-- the law of the stores
pub record AreLawful (h : Held) : Type 0 where
  pub blocks : IsNested h.blocks
  pub certs : IsNested h.certs
  pub written : AreWritten h
  pub cached : AreCached h

-- what a call makes of a scene where it goes well
abbrev pub IsDone : (List ℕ → List ℕ) → Act → Scene → Scene → Type 0
IsDone inner (caches a) s t = IsCached a s.held t.held × Joins s.held (written_cached a) t.held × AreLawful t.held × (t ≡ record s { held = t.held })
IsDone inner (keeps_for a) s t =
    (answered : List TicketAnswer) × IsKept a s.held t.held answered × Joins s.held (written_kept a) t.held × AreLawful t.held
    × (t ≡ record s { held = t.held; heard = record s.heard { answers = s.heard.answers ++ answered } })
IsDone inner (stores a) s t = IsStored inner a s.held t.held × Joins s.held (written_stored a) t.held × AreLawful t.held × (t ≡ record s { held = t.held })
IsDone inner (progresses (note r)) s t = Notes r s.life.sizes.retention s.held t.held × AreLawful t.held × Hears s.heard.asks (raise_asks s.held.cutoff (at_round r ∷ [])) t.heard.asks × (t ≡ record s { held = t.held; heard = record s.heard { asks = t.heard.asks } })
IsDone inner (progresses (mark ticket m)) s t = t ≡ record s { life = record s.life { out = with_mark ticket m s.life.out } }
IsDone inner (progresses (process h)) s t =
    Processes s.standing.epochs s.life.sizes.retention h s.held t.held × Joins s.held (written_prunes (height_prunes s.life.sizes.retention s.held h)) t.held × AreLawful t.held
    × Hears s.heard.asks (retain (above_height h) ∷ raise_asks s.held.cutoff (retired s.standing.epochs s.held.certs.held h)) t.heard.asks
    × (t ≡ record s { held = t.held; life = record s.life { out = after_oldest s.life.out }; heard = record s.heard { asks = t.heard.asks } })
IsDone inner (progresses sync_progress) s t = SyncsProgress s.held t.held × AreLawful t.held × (t ≡ record s { held = t.held })
IsDone inner (says (tell r h d)) s t = Hears s.heard.reports (tips_above s.life.tip r h d) t.heard.reports × (t ≡ record s { life = record s.life { tip = risen_to s.life.tip h }; heard = record s.heard { reports = t.heard.reports } })
IsDone inner (says (ask calls)) s t = Hears s.heard.asks calls t.heard.asks × (t ≡ record s { heard = record s.heard { asks = t.heard.asks } })
IsDone inner (says (send x)) s t = Hears s.heard.sends (x ∷ []) t.heard.sends × (t ≡ record s { heard = record s.heard { sends = t.heard.sends } })
IsDone inner (says (reply a)) s t = t ≡ record s { heard = record s.heard { answers = s.heard.answers ++ a ∷ [] } }

-- WHERE IT FAILS

-- a usual one; where a sync is started for what is kept of this epoch, there may be no ticket for it
abbrev pub IsKeepFault : ℕ → Held → Fault → Type 0
IsKeepFault epoch held fault = IsUsual fault ⊎ ((fault ≡ ticket_limit sync_kind) × (held.writes.next_sync ≡ 2 ^ 64 - 1) × (held.lowest ≤ epoch))

-- an archive's fault or want of memory; a sync that is started may find no ticket
abbrev pub IsFaultIn : StoreAct → Held → Fault → Type 0
IsFaultIn start_sync held fault = IsArchiveFault fault ⊎ ((fault ≡ ticket_limit sync_kind) × (held.writes.next_sync ≡ 2 ^ 64 - 1))
IsFaultIn _ held fault = IsArchiveFault fault

abbrev pub IsCacheFault : CacheAct → Held → Fault → Type 0
IsCacheFault (keep_notarization f) held fault = IsKeepFault f.round.epoch held fault
IsCacheFault (keep_notarized r b) held fault = IsKeepFault r.epoch held fault
IsCacheFault _ held fault = IsUsual fault

abbrev pub IsUnkept : KeepAct → Held → Fault → Type 0
IsUnkept (keep_verified r b t) held fault = IsKeepFault r.epoch held fault
IsUnkept (keep_certified r b t) held fault = IsKeepFault r.epoch held fault
IsUnkept (finish_kept t) held fault = IsUsual fault

-- what it leaves, and what was heard until then
abbrev pub IsLost : Act → Scene → Ending → Heard → Type 0
IsLost (caches a) s e heard = LosesOver s.held (written_cached a) e × IsCacheFault a s.held e.fault × (heard ≡ s.heard)
IsLost (keeps_for a) s e heard = LosesOver s.held (written_kept a) e × IsUnkept a s.held e.fault × (heard ≡ s.heard)
IsLost (stores a) s e heard = LosesOver s.held (written_stored a) e × IsFaultIn a s.held e.fault × (heard ≡ s.heard)
IsLost (progresses (note r)) s e heard =
    LosesOver s.held (record (written_pair (pair_of s.held.processed (greatest_of s.held.cutoff (at_round r ∷ [])))) { prunes = pruned_by s.life.sizes.retention s.held.witnessed (r ∷ []) }) e
    × IsUsual e.fault × HearsFront s.heard.asks (raise_asks s.held.cutoff (at_round r ∷ [])) heard.asks × (heard ≡ record s.heard { asks = heard.asks })
IsLost (progresses (mark ticket m)) s e heard = ⊥
IsLost (progresses (process h)) s e heard =
    LosesOver s.held (written_prunes (height_prunes s.life.sizes.retention s.held h)) e × IsUsual e.fault
    × HearsFront s.heard.asks (retain (above_height h) ∷ raise_asks s.held.cutoff (retired s.standing.epochs s.held.certs.held h)) heard.asks
    × (heard ≡ record s.heard { asks = heard.asks })
IsLost (progresses sync_progress) s e heard = LosesOver s.held (written_pair (pair_of s.held.processed s.held.cutoff)) e × IsUsual e.fault × (heard ≡ s.heard)
IsLost (says (tell r h d)) s e heard = (e ≡ ended_on want_of_memory s.held) × Hears s.heard.reports [] heard.reports × (heard ≡ record s.heard { reports = heard.reports })
IsLost (says (ask calls)) s e heard = (e ≡ ended_on want_of_memory s.held) × HearsFront s.heard.asks calls heard.asks × (heard ≡ record s.heard { asks = heard.asks })
IsLost (says (send x)) s e heard = (e ≡ ended_on want_of_memory s.held) × Hears s.heard.sends [] heard.sends × (heard ≡ record s.heard { sends = heard.sends })
IsLost (says (reply a)) s e heard = (e ≡ ended_on want_of_memory s.held) × (heard ≡ s.heard)
