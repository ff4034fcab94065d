-- The law of composition, and how a call's clauses give its task.
use Rattle.std.proofs.Common.{◌≡◌, inl, inr, ◌∷◌, [], List, Result, Ok, Err, IfErr, IfOk, OnOk, Option, Bool, true, false, Some, ℕ, arith, refl, sym, ◌∙◌, ap, subst}
use Rattle.mar_model.specs.Faults.{Fault, want_of_memory}
use Rattle.mar_model.specs.Held.{ArePassed, AreWritten, Ending, LosesSince, GoesOn, Held, IsArchiveFault, IsUsual, MakesSure, ended_on, nothing_written, written_both, written_cert, written_entry, written_pair}
use Rattle.mar_model.specs.Moves.{CachesFinalization, HearsUpTo, PrunesCacheBy, StoresWhere, at_height, lacks_finalization, pruned_by, with_cache_of}
use Rattle.mar_model.specs.Promise.{Heard, heard_with}
use Rattle.mar_model.specs.Answers.{Sent, TicketAnswer}
use Rattle.mar_model.specs.Step.{Report}
use Rattle.mar_key.specs.Keys.{Call}
use Rattle.mar_key.specs.Cutoff.{at_round, greatest_of}
use Rattle.mar_types.specs.Round.{Round}
use Rattle.mar_cert.specs.Block.{Block}
use Rattle.mar_cert.specs.Finalization.{Finalization}
use Rattle.mar_store.specs.Changes.{Puts}
use Rattle.mar_model.specs.Cached.{finalization_entry}
use Rattle.mar_model.specs.Lives.{later_round}
use Rattle.mar_model.specs.Metadata.{pair_of}
use Rattle.mar_model.specs.Requests.{raise_asks}
use Rattle.mar_model.specs.Stored.{at_own_height, is_certified, is_held}
use Rattle.mar_model.proofs.Handing.{Delivers as Dispatched}
use Rattle.mar_model.specs.Writing.{with_finished, with_write}
use Rattle.mar_model.specs.Acts.{AreLawful, IsFaultIn, IsStored, Joins, LosesOver, StoreAct, caches, ask, finish_sync, note, progresses, put_finalization, says, store, store_late, stores, written_stored}
use Rattle.mar_model.specs.Plans.{let_go_plan}
use Rattle.mar_model.specs.Ran.{Breaks, Does, DoesTask, FailsRead, FailsTask, Reached, Reads, Runs, Task, dispatches, does, ends}
use Rattle.mar_model.specs.Scene.{Scene, Standing, Window, scene, seen_of, windowed}

pub Reads-refl : (s : Scene) → Reads s s
Reads-refl s = record { joins = λ start all grew within. grew; same = refl }

pub Reads-then : (s t u : Scene) → Reads s t → Reads t u → Reads s u
Reads-then s t u first second = record {
  joins = λ start all grew within. second.joins start all (first.joins start all grew within) within;
  same = second.same ∙ ap (λ (x : Scene). record x { held = record x.held { watches = u.held.watches } }) first.same;
}

pub FailsRead-then : (s t : Scene) (e : Ending) (heard : Heard) → Reads s t → FailsRead t e heard → FailsRead s e heard
FailsRead-then s t e heard reads fails = record {
  loses = λ start all grew within. fails.loses start all (reads.joins start all grew within) within;
  usual = fails.usual;
  unsynced = fails.unsynced;
  same = fails.same ∙ ap (λ (x : Scene). x.heard) reads.same;
}

Runs-read : (inner : List ℕ → List ℕ) (plan : List Task) (s u t : Scene) → Reads s u → Runs inner u plan t → Runs inner s plan t
Runs-read inner [] s u t reads runs = Reads-then s u t reads runs
Runs-read inner (k ∷ plan) s u t reads (mid, after, read, did, runs) = (mid, after, Reads-then s u mid reads read, did, runs)

Breaks-read : (inner : List ℕ → List ℕ) (plan : List Task) (s u : Scene) (e : Ending) (heard : Heard) → Reads s u → Breaks inner u plan e heard → Breaks inner s plan e heard
Breaks-read inner [] s u e heard reads fails = FailsRead-then s u e heard reads fails
Breaks-read inner (k ∷ plan) s u e heard reads (inl fails) = inl (FailsRead-then s u e heard reads fails)
Breaks-read inner (k ∷ plan) s u e heard reads (inr (mid, read, how)) = inr (mid, Reads-then s u mid reads read, how)

-- reads are in no plan
pub Reached-read : (inner : List ℕ → List ℕ) (start : Scene) (whole rest : List Task) (old new : Scene) → Reached inner start whole rest old → Reads old new → Reached inner start whole rest new
Reached-read inner start whole rest old new reached reads = record { runs = λ t runs. reached.runs t (Runs-read inner rest old new t reads runs); breaks = λ e heard breaks. reached.breaks e heard (Breaks-read inner rest old new e heard reads breaks) }

pub Breaks-unread : (inner : List ℕ → List ℕ) (rest : List Task) {s : Scene} {e : Ending} {heard : Heard} → FailsRead s e heard → Breaks inner s rest e heard
Breaks-unread inner [] fails = fails
Breaks-unread inner (k ∷ rest) fails = inl fails

-- at its beginning all of a plan is left, and at its end nothing
pub Reached-first : (inner : List ℕ → List ℕ) (start : Scene) (whole : List Task) → Reached inner start whole whole start
Reached-first inner start whole = record { runs = λ t runs. runs; breaks = λ e heard breaks. breaks }

pub Reached-last : (inner : List ℕ → List ℕ) (start : Scene) (whole : List Task) (now : Scene) → Reached inner start whole [] now → Runs inner start whole now
Reached-last inner start whole now reached = reached.runs now (Reads-refl now)

-- one task more is done
pub Reached-more : (inner : List ℕ → List ℕ) (start : Scene) (whole : List Task) (k : Task) (rest : List Task) (old new : Scene) → Reached inner start whole (k ∷ rest) old → DoesTask inner k old new → Reached inner start whole rest new
Reached-more inner start whole k rest old new reached did = record { runs = λ t runs. reached.runs t (old, new, Reads-refl old, did, runs); breaks = λ e heard breaks. reached.breaks e heard (inr (old, Reads-refl old, inr (new, did, breaks))) }

-- or failed
pub Breaks-now : (inner : List ℕ → List ℕ) (start : Scene) (whole : List Task) (k : Task) (rest : List Task) (old : Scene) (e : Ending) (heard : Heard) → Reached inner start whole (k ∷ rest) old → FailsTask inner k old e heard → Breaks inner start whole e heard
Breaks-now inner start whole k rest old e heard reached fails = reached.breaks _ _ (inr (old, Reads-refl old, inl fails))

-- what does one task does a plan of one
pub Does-task : {T C : Type 0} (inner : List ℕ → List ℕ) (fault : C → Fault) (k : Task) (old new : Scene) (result : Result T C) → OnOk result (DoesTask inner k old new) → IfErr result (λ c. FailsTask inner k old (ended_on (fault c) new.held) new.heard) → Does inner fault (k ∷ []) old new result
Does-task inner fault k old new (Ok x) did fails = λ start whole rest reached. Reached-more inner start whole k rest old new reached did
Does-task inner fault k old new (Err c) did fails = λ start whole rest reached. Breaks-now inner start whole k rest old _ _ reached fails

-- the rules end the life
pub Breaks-ended : (inner : List ℕ → List ℕ) (start : Scene) (whole : List Task) (fault : Fault) (rest : List Task) (old : Scene) → Reached inner start whole (ends fault ∷ rest) old → Breaks inner start whole (ended_on fault old.held) old.heard
Breaks-ended inner start whole fault rest old reached = Breaks-now inner start whole (ends fault) rest old _ _ reached (refl, refl)

-- A CALL OF THE STORES ALONE

module _ {T C : Type 0} (inner : List ℕ → List ℕ) (fault : C → Fault) (old new : Held) (life : Window) (standing : Standing) (heard : Heard) where
  pub Does-stored : (a : StoreAct) (result : Result T C) → OnOk result (IsStored inner a old new) → OnOk result (AreLawful new) → GoesOn fault old (written_stored a) new result → IfErr result (λ c. IsFaultIn a old (fault c)) → Does inner fault (does (stores a) ∷ []) (scene old life standing heard) (scene new life standing heard) result
  Does-stored a (Ok x) is lawful goes usual = Does-task inner fault (does (stores a)) _ _ (Ok x) (is, goes, lawful, refl) tt
  Does-stored a (Err c) is lawful goes usual = Does-task {T = T} inner fault (does (stores a)) (scene old life standing heard) (scene new life standing heard) (Err c) tt (goes, usual, refl)

  -- the sync of a ticket, by the clauses of its call
  pub Does-finished : (t : ℕ) (result : Result T C) → OnOk result (MakesSure old.blocks new.blocks) → OnOk result (MakesSure old.certs new.certs) → OnOk result (AreWritten new) → OnOk result (new ≡ record old { blocks = new.blocks; certs = new.certs; writes = with_finished t old.writes; watches = new.watches }) → OnOk result (AreLawful new) → GoesOn fault old nothing_written new result → IfErr result (λ c. IsArchiveFault (fault c)) → Does inner fault (does (stores (finish_sync t)) ∷ []) (scene old life standing heard) (scene new life standing heard) result
  Does-finished t (Ok x) blocks certs written same lawful goes archive = Does-stored (finish_sync t) (Ok x) (record { blocks = blocks; certs = certs; written = written; same = same }) lawful goes archive
  Does-finished t (Err c) blocks certs written same lawful goes archive = Does-stored (finish_sync t) (Err c) tt tt goes archive

  pub Does-put : (f : Finalization) (b : Block) (result : Result T C) → OnOk result (Puts (is_held old.blocks.held b) old.blocks (at_own_height b) new.blocks) → OnOk result (Puts (is_certified inner old.certs.held b.height (inner f.payload)) old.certs (at_height b.height f) new.certs) → OnOk result (new ≡ record old { blocks = new.blocks; certs = new.certs; writes = with_write b.height old.writes; watches = new.watches }) → OnOk result (AreLawful new) → GoesOn fault old (written_both (at_own_height b) (at_height b.height f)) new result → IfErr result (λ c. IsArchiveFault (fault c)) → Does inner fault (does (stores (store f b)) ∷ []) (scene old life standing heard) (scene new life standing heard) result
  Does-put f b (Ok x) blocks certs same lawful goes archive = Does-stored (store f b) (Ok x) (record { blocks = blocks; certs = certs; same = same }) lawful goes archive
  Does-put f b (Err c) blocks certs same lawful goes archive = Does-stored (store f b) (Err c) tt tt goes archive

module _ (inner : List ℕ → List ℕ) (start : Scene) (whole rest : List Task) (old : Held) (life : Window) (standing : Standing) (heard : Heard) where
  pub cached-done : (f : Finalization) (new : Held) → Reached inner start whole (does (caches (put_finalization f)) ∷ rest) (scene old life standing heard) → CachesFinalization f old new → AreLawful new → Joins old (written_entry (finalization_entry f)) new → Reached inner start whole rest (scene new life standing heard)
  cached-done f new reached is lawful joins = Reached-more inner start whole _ rest _ _ reached (is, joins, lawful, refl)

  pub cached-failed : (f : Finalization) {e : Ending} → Reached inner start whole (does (caches (put_finalization f)) ∷ rest) (scene old life standing heard) → LosesOver old (written_entry (finalization_entry f)) e → IsUsual e.fault → Breaks inner start whole e heard
  cached-failed f reached goes usual = Breaks-now inner start whole _ rest _ _ _ reached (goes, usual, refl)

module _ {C : Type 0} (inner : List ℕ → List ℕ) (fault : C → Fault) (old new : Held) (life : Window) (standing : Standing) (heard : Heard) where
  pub Does-late : (f : Finalization) (b : Block) (result : Result Bool C) → IfOk result (λ r. r ≡ lacks_finalization old b) → IfOk result (λ r. StoresWhere r (is_certified inner old.certs.held b.height (inner f.payload)) old.certs (at_height b.height f) new.certs) → OnOk result (new ≡ record old { certs = new.certs; watches = new.watches }) → OnOk result (AreLawful new) → GoesOn fault old (written_cert (at_height b.height f)) new result → IfErr result (λ c. IsArchiveFault (fault c)) → Does inner fault (does (stores (store_late f b)) ∷ []) (scene old life standing heard) (scene new life standing heard) result
  Does-late f b (Ok r) lacked certs same lawful goes archive = Does-stored inner fault old new life standing heard (store_late f b) (Ok r) (record { certs = subst (λ c. StoresWhere c (is_certified inner old.certs.held b.height (inner f.payload)) old.certs (at_height b.height f) new.certs) lacked certs; same = same }) lawful goes archive
  Does-late f b (Err c) lacked certs same lawful goes archive = Does-stored {T = Bool} inner fault old new life standing heard (store_late f b) (Err c) tt tt goes archive

-- WORDS

module _ {T C : Type 0} (inner : List ℕ → List ℕ) (fault : C → Fault) (standing : Standing) (told : Option (List Report)) (asks asks' : Option (List Call)) (sends : Option (List Sent)) (answers : List TicketAnswer) where
  pub Does-asked : (held : Held) (life : Window) (calls : List Call) (result : Result T C) → HearsUpTo asks calls asks' result → IfErr result (λ c. fault c ≡ want_of_memory) → Does inner fault (does (says (ask calls)) ∷ []) (scene held life standing (heard_with told asks sends answers)) (scene held life standing (heard_with told asks' sends answers)) result
  Does-asked held life calls (Ok x) hears memory = Does-task inner fault (does (says (ask calls))) _ _ (Ok x) (hears, refl) tt
  Does-asked held life calls (Err c) hears memory = Does-task {T = T} inner fault (does (says (ask calls))) (scene held life standing (heard_with told asks sends answers)) (scene held life standing (heard_with told asks' sends answers)) (Err c) tt (ap (λ f. ended_on f held) memory, hears, refl)

  pub Does-noted : (old new : Held) (life : Window) (r : Round) (retention : ℕ) (result : Result T C) → life.sizes.retention ≡ retention → OnOk result (new ≡ record (with_cache_of new old) { cutoff = greatest_of old.cutoff (at_round r ∷ []); witnessed = later_round old.witnessed (Some r); pairs = pair_of old.processed (greatest_of old.cutoff (at_round r ∷ [])) ∷ [] }) → OnOk result (PrunesCacheBy (pruned_by retention old.witnessed (r ∷ [])) old new) → OnOk result (ArePassed old.watches new.watches) → OnOk result (AreLawful new) → HearsUpTo asks (raise_asks old.cutoff (at_round r ∷ [])) asks' result → LosesSince fault old (record (written_pair (pair_of old.processed (greatest_of old.cutoff (at_round r ∷ [])))) { prunes = pruned_by retention old.witnessed (r ∷ []) }) new result → IfErr result (λ c. IsUsual (fault c)) → Does inner fault (does (progresses (note r)) ∷ []) (scene old life standing (heard_with told asks sends answers)) (scene new life standing (heard_with told asks' sends answers)) result
  Does-noted old new life r retention (Ok x) is same prunes passed lawful hears lost usual = Does-task inner fault (does (progresses (note r))) _ _ (Ok x) (record { prunes = subst (λ k. PrunesCacheBy (pruned_by k old.witnessed (r ∷ [])) old new) (sym is) prunes; passed = passed; same = same }, lawful, hears, refl) tt
  Does-noted old new life r retention (Err c) is same prunes passed lawful hears lost usual = Does-task {T = T} inner fault (does (progresses (note r))) (scene old life standing (heard_with told asks sends answers)) (scene new life standing (heard_with told asks' sends answers)) (Err c) tt (subst (λ k. LosesOver old (record (written_pair (pair_of old.processed (greatest_of old.cutoff (at_round r ∷ [])))) { prunes = pruned_by k old.witnessed (r ∷ []) }) (ended_on (fault c) new)) (sym is) lost, usual, hears, refl)

-- the sync of a ticket, where it was open
module _ {C : Type 0} (inner : List ℕ → List ℕ) (fault : C → Fault) (old new : Held) (life : Window) (standing : Standing) (heard : Heard) where
  pub Does-let_go : (t : ℕ) (was_open : Bool) (result : Result Bool C) → IfOk result (λ r. r ≡ was_open) → IfOk result (λ r. r ≡ false → new ≡ old) → IfErr result (λ c. was_open ≡ true) → OnOk result (MakesSure old.blocks new.blocks) → OnOk result (MakesSure old.certs new.certs) → OnOk result (AreWritten new) → OnOk result (new ≡ record old { blocks = new.blocks; certs = new.certs; writes = with_finished t old.writes; watches = new.watches }) → OnOk result (AreLawful new) → GoesOn fault old nothing_written new result → IfErr result (λ c. IsArchiveFault (fault c)) → Does inner fault (let_go_plan was_open t) (scene old life standing heard) (scene new life standing heard) result
  Does-let_go t true result is closed failed blocks certs written same lawful goes archive = Does-finished inner fault old new life standing heard t result blocks certs written same lawful goes archive
  Does-let_go t false (Ok r) is closed failed blocks certs written same lawful goes archive = λ start whole rest reached. subst (λ h. Reached inner start whole rest (scene h life standing heard)) (sym (closed is)) reached
  Does-let_go t false (Err c) is closed failed blocks certs written same lawful goes archive = absurd (let no : false ≡ true = failed in cc)

-- BLOCKS ARE HANDED OVER

module _ (old new : Held) (life life' : Window) (standing : Standing) (asks : Option (List Call)) (sends : Option (List Sent)) (answers : List TicketAnswer) (told told' : Option (List Report)) where
  abbrev before : Scene
  before = scene old life standing (heard_with told asks sends answers)

  abbrev after : Scene
  after = scene new life' standing (heard_with told' asks sends answers)

  module _ (inner : List ℕ → List ℕ) (start : Scene) (whole rest : List Task) (reached : Reached inner start whole (dispatches ∷ rest) before) where
    pub handed-done : Dispatched (windowed old life) told told' (Ok (windowed new life')) → Reached inner start whole rest after
    handed-done (handed, heard, ran) = Reached-more inner start whole dispatches rest before after reached (record {
      handed = handed;
      heard = heard;
      ran = record {
        next = ran.next;
        below_barrier = ran.below_barrier;
        room = ran.room;
        same = ap (λ s. record (seen_of before) { held = s.held; life = s.life }) ran.same;
        grew = ran.grew;
        still = ran.still;
      };
      same = refl;
    })

    pub handed-stopped : (fault : Fault) → Dispatched (windowed old life) told told' (Err (ended_on fault new)) → Breaks inner start whole (ended_on fault new) (heard_with told' asks sends answers)
    handed-stopped fault (handed, heard, stops) = Breaks-now inner start whole dispatches rest before _ _ reached (record {
      handed = handed;
      told = heard;
      stops = record { next = stops.next; below_barrier = stops.below_barrier; room = stops.room; lost = stops.lost; kind = stops.kind };
      same = refl;
    })
