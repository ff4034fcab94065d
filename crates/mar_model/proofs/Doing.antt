-- How the clauses of a call give its task: of the cache, of progress, and of what is said.
use Rattle.std.proofs.Common.{◌≡◌, ◌∷◌, ◌++◌, [], List, Result, Ok, Err, IfErr, OnErr, OnOk, Option, Some, Bool, true, false, ℕ, refl, sym, ◌∙◌, ap, subst, append-nil, append_assoc}
use Rattle.mar_types.specs.Epochs.{Epochs}
use Rattle.mar_types.specs.Round.{Round}
use Rattle.mar_cert.specs.Block.{Block}
use Rattle.mar_key.specs.Cutoff.{greatest_of}
use Rattle.mar_key.specs.Keys.{Call, above_height, retain}
use Rattle.mar_key.specs.Processed.{at_block}
use Rattle.mar_model.specs.Acks.{Mark, after_oldest, with_mark}
use Rattle.mar_model.specs.Answers.{Sent, TicketAnswer}
use Rattle.mar_model.specs.Cache.{notarized_where}
use Rattle.mar_model.specs.Plans.{answer_plan, kept_plan}
use Rattle.mar_model.specs.Event.{retired, round_at}
use Rattle.mar_model.specs.Faults.{Fault, block_store, cache_store, cert_store, meta_store, store_fault, want_of_memory}
use Rattle.mar_model.specs.Held.{ArePassed, Ending, GoesOn, Held, IsReadFault, IsUsual, ended_on, nothing_written, written_entries, written_pair, written_prunes}
use Rattle.mar_model.specs.AllEntries.{LoadsEntries}
use Rattle.mar_model.specs.CacheCalls.{none_goes}
use Rattle.mar_model.specs.OpenSyncs.{AreStillOpen}
use Rattle.mar_key.specs.Hears.{Hears}
use Rattle.mar_model.specs.Lives.{ArePicked, later_round}
use Rattle.mar_model.specs.Metadata.{pair_of}
use Rattle.mar_model.specs.Moves.{HearsFront, KeepsNotarizedWhere, PrunesCacheBy, with_cache_of}
use Rattle.mar_model.specs.Promise.{Heard, heard_with}
use Rattle.mar_model.specs.Requests.{raise_asks}
use Rattle.mar_model.specs.Step.{Report}
use Rattle.mar_model.specs.Acts.{AreLawful, CacheAct, IsCacheFault, IsCached, IsKeepFault, IsKept, IsUnkept, Joins, KeepAct, LosesOver, TakesUpCache, caches, height_prunes, keep_notarized, keeps_for, mark, process, progresses, sync_progress, written_cached, written_kept}
use Rattle.mar_model.specs.Ran.{Breaks, Does, Reached, Task, does}
use Rattle.mar_model.specs.Scene.{Scene, Standing, Window, in_epochs, scene}
use Rattle.mar_model.proofs.Running.{Breaks-now, Breaks-unread, Does-task, Reached-more, Reached-read}

-- the law of the stores behind a call that left them whole
pub law_behind : {T C : Type 0} (new : Held) (result : Result T C) → OnOk result (new.intact ≡ true) → (new.intact ≡ true → AreLawful new) → OnOk result (AreLawful new)
law_behind new (Ok x) whole law = law whole
law_behind new (Err c) whole law = tt

-- a read's fault is a usual one, and none of the metadata's
pub usual_read : (fault : Fault) → IsReadFault fault → IsUsual fault
usual_read (store_fault block_store) is = tt
usual_read (store_fault cert_store) is = tt
usual_read (store_fault cache_store) is = tt
usual_read (store_fault meta_store) is = absurd is
usual_read want_of_memory is = tt
usual_read _ is = absurd is

pub unsynced_read : (fault : Fault) → IsReadFault fault → fault ≡ store_fault meta_store → ⊥
unsynced_read fault read is = subst IsReadFault is read

-- a read failed
pub read-failed : (inner : List ℕ → List ℕ) (start : Scene) (whole rest : List Task) (old : Held) (life : Window) (standing : Standing) (heard : Heard) {e : Ending} → Reached inner start whole rest (scene old life standing heard) → LosesOver old nothing_written e → IsReadFault e.fault → Breaks inner start whole e heard
read-failed inner start whole rest old life standing heard {e} reached goes read = reached.breaks _ _ (Breaks-unread inner rest (record { loses = goes; usual = usual_read e.fault read; unsynced = unsynced_read e.fault read; same = refl }))

-- THE CACHE

-- so does that of a notarized block
pub notarized_whole : {T C : Type 0} (v : Bool) (r : Round) (b : Block) (old new : Held) (result : Result T C) → old.intact ≡ true → OnOk result (KeepsNotarizedWhere v r b old new) → OnOk result (new.intact ≡ true)
notarized_whole true r b old new (Ok x) whole keeps = ap (λ h. h.intact) keeps ∙ whole
notarized_whole false r b old new (Ok x) whole (ticket, keeps) = ap (λ h. h.intact) keeps.same ∙ whole
notarized_whole true r b old new (Err c) whole keeps = tt
notarized_whole false r b old new (Err c) whole keeps = tt

module _ {T C : Type 0} (inner : List ℕ → List ℕ) (fault : C → Fault) (old new : Held) (life : Window) (standing : Standing) where
  -- what is kept for a caller, who is answered
  pub Does-kept : (told : Option (List Report)) (asks : Option (List Call)) (sends : Option (List Sent)) (answers answers' : List TicketAnswer) (a : KeepAct) (result : Result T C) → OnOk result ((answered : List TicketAnswer) × IsKept a old new answered × (answers' ≡ answers ++ answered)) → OnErr result (answers' ≡ answers) → OnOk result (AreLawful new) → GoesOn fault old (written_kept a) new result → IfErr result (λ c. IsUnkept a old (fault c)) → Does inner fault (does (keeps_for a) ∷ []) (scene old life standing (heard_with told asks sends answers)) (scene new life standing (heard_with told asks sends answers')) result
  Does-kept told asks sends answers answers' a (Ok x) (answered, is, all) none lawful goes kind = Does-task inner fault (does (keeps_for a)) _ _ (Ok x) (answered, is, goes, lawful, ap (λ xs. scene new life standing (heard_with told asks sends xs)) all) tt
  Does-kept told asks sends answers answers' a (Err c) is none lawful goes kind = Does-task {T = T} inner fault (does (keeps_for a)) (scene old life standing (heard_with told asks sends answers)) (scene new life standing (heard_with told asks sends answers')) (Err c) tt (goes, kind, ap (heard_with told asks sends) none)

  -- a notarized block is kept, unless it was verified in its round: that is read
  pub Does-notarized : (r : Round) (b : Block) (v : Bool) (heard : Heard) (result : Result T C) → OnOk result (KeepsNotarizedWhere v r b old new) → OnOk result (AreLawful new) → GoesOn fault old (written_entries (notarized_where v r b)) new result → IfErr result (λ c. IsKeepFault r.epoch old (fault c)) → IfErr result (λ c. v ≡ true → IsReadFault (fault c)) → Does inner fault (kept_plan r (record { block = Some b; is_verified = v })) (scene old life standing heard) (scene new life standing heard) result
  Does-notarized r b true heard (Ok x) keeps lawful goes kind read = λ start whole rest reached. Reached-read inner start whole rest _ _ reached (record { joins = goes; same = ap (λ h. scene h life standing heard) keeps })
  Does-notarized r b true heard (Err c) keeps lawful goes kind read = λ start whole rest reached. reached.breaks _ _ (Breaks-unread inner rest (record { loses = goes; usual = usual_read (fault c) (read refl); unsynced = unsynced_read (fault c) (read refl); same = refl }))
  Does-notarized r b false heard (Ok x) keeps lawful goes kind read = Does-task inner fault (does (caches (keep_notarized r b))) _ _ (Ok x) (keeps, goes, lawful, refl) tt
  Does-notarized r b false heard (Err c) keeps lawful goes kind read = Does-task {T = T} inner fault (does (caches (keep_notarized r b))) (scene old life standing heard) (scene new life standing heard) (Err c) tt (goes, kind, refl)

-- a cache act was done, or failed, where more is to come
module _ (inner : List ℕ → List ℕ) (start : Scene) (whole rest : List Task) (old : Held) (life : Window) (standing : Standing) (heard : Heard) (a : CacheAct) (reached : Reached inner start whole (does (caches a) ∷ rest) (scene old life standing heard)) where
  pub cache-done : (new : Held) → IsCached a old new → AreLawful new → Joins old (written_cached a) new → Reached inner start whole rest (scene new life standing heard)
  cache-done new is lawful joins = Reached-more inner start whole _ rest _ _ reached (is, joins, lawful, refl)

  pub cache-failed : {e : Ending} → LosesOver old (written_cached a) e → IsCacheFault a old e.fault → Breaks inner start whole e heard
  cache-failed goes kind = Breaks-now inner start whole _ rest _ _ _ reached (goes, kind, refl)

-- what a crash left was taken up
pub taken_up : (old new : Held) → (old.cache.fresh ≡ true → LoadsEntries old.cache.kept new.cache.kept) → (old.cache.fresh ≡ true → ArePicked old.cache.finds new.cache.kept.held) → new.cache.loaded ≡ true → AreStillOpen none_goes old.cache.syncs new.cache.syncs → new ≡ record old { cache = new.cache; watches = new.watches } → TakesUpCache old new
taken_up old new loads by_luck loaded still_open same = record { loads = loads; by_luck = by_luck; loaded = loaded; still_open = still_open; same = same }

-- PROGRESS

module _ (inner : List ℕ → List ℕ) (start : Scene) (whole rest : List Task) (old new : Held) (life : Window) (standing : Standing) (heard : Heard) (reached : Reached inner start whole (does (progresses sync_progress) ∷ rest) (scene old life standing heard)) where
  -- progress was made durable
  pub synced-done : new ≡ record old { pairs = pair_of old.processed old.cutoff ∷ []; watches = new.watches } → ArePassed old.watches new.watches → AreLawful new → Reached inner start whole rest (scene new life standing heard)
  synced-done same passed lawful = Reached-more inner start whole _ rest _ _ reached (record { passed = passed; same = same }, lawful, refl)

  -- or not
  pub synced-failed : {e : Ending} → LosesOver old (written_pair (pair_of old.processed old.cutoff)) e → IsUsual e.fault → Breaks inner start whole e heard
  synced-failed lost usual = Breaks-now inner start whole _ rest _ _ _ reached (lost, usual, refl)

module _ (inner : List ℕ → List ℕ) (start : Scene) (whole rest : List Task) (epochs : Epochs) (old new : Held) (life life' : Window) (standing : Standing) (told : Option (List Report)) (asks asks' : Option (List Call)) (sends : Option (List Sent)) (answers : List TicketAnswer) (h retention : ℕ) (is : life.sizes.retention ≡ retention)
    (reached : Reached inner start whole (does (progresses (process h)) ∷ rest) (scene old life (in_epochs epochs standing) (heard_with told asks sends answers))) where
  -- the oldest block is processed
  pub processed-done : life' ≡ record life { out = after_oldest life.out } → new ≡ record (with_cache_of new old) { processed = Some (at_block h); cutoff = greatest_of old.cutoff (retired epochs old.certs.held h); witnessed = later_round old.witnessed (round_at old.certs.held h) }
      → PrunesCacheBy (height_prunes retention old h) old new → AreLawful new → Hears asks (retain (above_height h) ∷ raise_asks old.cutoff (retired epochs old.certs.held h)) asks' → Joins old (written_prunes (height_prunes retention old h)) new
      → Reached inner start whole rest (scene new life' (in_epochs epochs standing) (heard_with told asks' sends answers))
  processed-done popped same prunes lawful hears joins = Reached-more inner start whole _ rest _ _ reached (
    record { prunes = subst (λ k. PrunesCacheBy (height_prunes k old h) old new) (sym is) prunes; same = same },
    subst (λ k. Joins old (written_prunes (height_prunes k old h)) new) (sym is) joins,
    lawful,
    hears,
    ap (λ w. scene new w (in_epochs epochs standing) (heard_with told asks' sends answers)) popped,
  )

  -- or not
  pub processed-failed : {e : Ending} → LosesOver old (written_prunes (height_prunes retention old h)) e → IsUsual e.fault → HearsFront asks (retain (above_height h) ∷ raise_asks old.cutoff (retired epochs old.certs.held h)) asks' → Breaks inner start whole e (heard_with told asks' sends answers)
  processed-failed {e} lost usual asked = Breaks-now inner start whole _ rest _ e _ reached (subst (λ k. LosesOver old (written_prunes (height_prunes k old h)) e) (sym is) lost, usual, asked, refl)

-- a block is marked
pub marked-done : (inner : List ℕ → List ℕ) (start : Scene) (whole rest : List Task) (held : Held) (life life' : Window) (standing : Standing) (told : Option (List Report)) (asks : Option (List Call)) (sends : Option (List Sent)) (answers : List TicketAnswer) (ticket : ℕ) (m : Mark) → life' ≡ record life { out = with_mark ticket m life.out } → Reached inner start whole (does (progresses (mark ticket m)) ∷ rest) (scene held life standing (heard_with told asks sends answers)) → Reached inner start whole rest (scene held life' standing (heard_with told asks sends answers))
marked-done inner start whole rest held life life' standing told asks sends answers ticket m same reached = Reached-more inner start whole _ rest _ _ reached (ap (λ w. scene held w standing (heard_with told asks sends answers)) same)

-- READS AND REPLIES

-- callers are answered, one after another
replies : (inner : List ℕ → List ℕ) (new : Held) (life : Window) (standing : Standing) (told : Option (List Report)) (asks : Option (List Call)) (sends : Option (List Sent)) (answers more : List TicketAnswer) (start : Scene) (whole rest : List Task) → Reached inner start whole (answer_plan more ++ rest) (scene new life standing (heard_with told asks sends answers)) → Reached inner start whole rest (scene new life standing (heard_with told asks sends (answers ++ more)))
replies inner new life standing told asks sends answers [] start whole rest reached = subst (λ xs. Reached inner start whole rest (scene new life standing (heard_with told asks sends xs))) (sym (append-nil answers)) reached
replies inner new life standing told asks sends answers (a ∷ more) start whole rest reached = subst (λ xs. Reached inner start whole rest (scene new life standing (heard_with told asks sends xs))) (append_assoc answers (a ∷ []) more) (replies inner new life standing told asks sends (answers ++ a ∷ []) more start whole rest (Reached-more inner start whole _ _ _ _ reached refl))

module _ {T C : Type 0} (inner : List ℕ → List ℕ) (fault : C → Fault) (old new : Held) (life : Window) (standing : Standing) where
  -- the stores were read
  pub Does-looked : (heard : Heard) (result : Result T C) → OnOk result (new ≡ record old { watches = new.watches }) → GoesOn fault old nothing_written new result → IfErr result (λ c. IsReadFault (fault c)) → Does inner fault [] (scene old life standing heard) (scene new life standing heard) result
  Does-looked heard (Ok x) same goes read = λ start whole rest reached. Reached-read inner start whole rest _ _ reached (record { joins = goes; same = ap (λ h. scene h life standing heard) same })
  Does-looked heard (Err c) same goes read = λ start whole rest reached. reached.breaks _ _ (Breaks-unread inner rest (record { loses = goes; usual = usual_read (fault c) read; unsynced = unsynced_read (fault c) read; same = refl }))

  -- and callers answered by what stands
  pub Does-replied : (told : Option (List Report)) (asks : Option (List Call)) (sends : Option (List Sent)) (answers answers' more : List TicketAnswer) (result : Result T C) → OnOk result (answers' ≡ answers ++ more) → OnErr result (answers' ≡ answers) → OnOk result (new ≡ record old { watches = new.watches }) → GoesOn fault old nothing_written new result → IfErr result (λ c. IsReadFault (fault c)) → Does inner fault (answer_plan more) (scene old life standing (heard_with told asks sends answers)) (scene new life standing (heard_with told asks sends answers')) result
  Does-replied told asks sends answers answers' more (Ok x) all none same goes read = λ start whole rest reached. subst (λ xs. Reached inner start whole rest (scene new life standing (heard_with told asks sends xs))) (sym all) (replies inner new life standing told asks sends answers more start whole rest (Reached-read inner start whole _ _ _ reached (record { joins = goes; same = ap (λ h. scene h life standing (heard_with told asks sends answers)) same })))
  Does-replied told asks sends answers answers' more (Err c) all none same goes read = λ start whole rest reached. subst (λ xs. Breaks inner start whole (ended_on (fault c) new) (heard_with told asks sends xs)) (sym none) (read-failed inner start whole _ old life standing _ reached goes read)
