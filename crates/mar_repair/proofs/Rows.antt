-- Acts in a row, by the calls that do them, and what is left as it was.
use Rattle.std.proofs.Common.{◌≡◌, ◌∷◌, ◌++◌, [], List, Result, Ok, Err, IfErr, OnErr, OnOk, Option, None, Some, Bool, true, false, cond, ℕ, refl, sym, ◌∙◌, ap, subst, Contains, bytes_eq, inl, inr}
use Rattle.std.specs.Prelude.{◌||◌}
use Rattle.std.specs.List.{AllByRecursion, list_any}
use Rattle.mar_key.specs.Processed.{height_of}
use Rattle.mar_key.specs.declared.requests.Fetch.{Fetch}
use Rattle.mar_repair.specs.Open.{IsOpen}
use Rattle.std.proofs.lemmas.List.Elements.{Contains-append_left}
use Rattle.mar_types.specs.Round.{Round}
use Rattle.mar_cert.specs.Block.{Block}
use Rattle.mar_cert.specs.Finalization.{Finalization}
use Rattle.mar_key.specs.Hears.{Hears}
use Rattle.mar_key.specs.Keys.{Call}
use Rattle.mar_store.specs.Changes.{Puts}
use Rattle.mar_store.specs.Kept.{At, Kept, has_height}
use Rattle.mar_model.specs.Acts.{Act, AreLawful, IsFaultIn, IsStored, Joins, LosesOver, StoreAct, StoresBlock, StoresBoth, ask, says, store, store_block, stores, tell, written_stored}
use Rattle.mar_model.specs.Answers.{Sent, TicketAnswer}
use Rattle.mar_model.specs.Faults.{Fault, want_of_memory}
use Rattle.mar_model.specs.Held.{Ending, GoesOn, Held, IsArchiveFault, IsReadFault, ended_on, nothing_written, written_block, written_both}
use Rattle.mar_model.specs.Moves.{at_height, risen_to, tips_above}
use Rattle.mar_model.specs.Promise.{Heard, heard_with}
use Rattle.mar_model.specs.Ran.{BreaksActs, FailsRead, Reads, RunsActs}
use Rattle.mar_model.specs.Repair.{cached_for, fill_acts, of_payload, search_of}
use Rattle.mar_model.specs.Scene.{Scene, Standing, Window, scene}
use Rattle.mar_model.specs.Step.{Report}
use Rattle.mar_model.specs.Stored.{at_own_height, is_certified, is_held}
use Rattle.mar_model.specs.Writing.{with_write}
use Rattle.mar_model.proofs.Acting.{BreaksActs-append, BreaksActs-read, RunsActs-append, RunsActs-read, acts_unread}
use Rattle.mar_model.proofs.Doing.{unsynced_read, usual_read}
use Rattle.mar_model.proofs.Running.{Reads-refl}
use Rattle.mar_repair.specs.Walk.{DoesActs, OnlyStores, at_tip}

-- WHAT IS LEFT AS IT WAS

pub only_block : (old new : Held) (h : ℕ) → new ≡ record old { blocks = new.blocks; writes = with_write h old.writes; watches = new.watches } → OnlyStores old new
only_block old new h same = subst (λ (n : Held). n ≡ record old { blocks = n.blocks; certs = n.certs; writes = n.writes; watches = n.watches }) (sym same) refl

pub only_read : (old new : Held) → new ≡ record old { watches = new.watches } → OnlyStores old new
only_read old new same = subst (λ (n : Held). n ≡ record old { blocks = n.blocks; certs = n.certs; writes = n.writes; watches = n.watches }) (sym same) refl

pub only_then : (a b c : Held) → OnlyStores a b → OnlyStores b c → OnlyStores a c
only_then a b c first second = subst (λ (h : Held). c ≡ record h { blocks = c.blocks; certs = c.certs; writes = c.writes; watches = c.watches }) first second

pub only_both : (old mid new : Held) → OnlyStores old mid → new ≡ record mid { certs = new.certs; watches = new.watches } → OnlyStores old new
only_both old mid new first second = only_then old mid new first (subst (λ (n : Held). n ≡ record mid { blocks = n.blocks; certs = n.certs; writes = n.writes; watches = n.watches }) (sym second) refl)

pub still_whole : (old new : Held) → OnlyStores old new → old.intact ≡ true → new.intact ≡ true
still_whole old new kept whole = ap (λ h. h.intact) kept ∙ whole

pub read_whole : (old new : Held) → new ≡ record old { watches = new.watches } → old.intact ≡ true → new.intact ≡ true
read_whole old new same whole = ap (λ h. h.intact) same ∙ whole

pub same_search : (inner : List ℕ → List ℕ) (buffer : List Block) (old new : Held) → OnlyStores old new → search_of inner buffer new ≡ search_of inner buffer old
same_search inner buffer old new kept = ap (search_of inner buffer) kept

-- what is said of a call that went well, and what follows
pub when_ok : {T E P Q : Type 0} (result : Result T E) → (P → Q) → OnOk result P → OnOk result Q
when_ok (Ok x) f said = f said
when_ok (Err e) f said = tt

pub when_both : {T E P Q R : Type 0} (result : Result T E) → (P → Q → R) → OnOk result P → OnOk result Q → OnOk result R
when_both (Ok x) f first second = f first second
when_both (Err e) f first second = tt

-- ACTS

module _ {T C : Type 0} (inner : List ℕ → List ℕ) (fault : C → Fault) where
  -- behind a read
  pub acts_read : (acts : List Act) (s u t : Scene) (result : Result T C) → Reads s u → DoesActs inner fault acts u t result → DoesActs inner fault acts s t result
  acts_read acts s u t (Ok x) reads runs = RunsActs-read inner acts s u t reads runs
  acts_read acts s u t (Err c) reads broke = BreaksActs-read inner acts s u _ _ reads broke

  -- one row, and then another
  pub acts_then : (xs ys : List Act) (s m t : Scene) (result : Result T C) → RunsActs inner s xs m → DoesActs inner fault ys m t result → DoesActs inner fault (xs ++ ys) s t result
  acts_then xs ys s m t (Ok x) first runs = RunsActs-append inner xs ys s m t first runs
  acts_then xs ys s m t (Err c) first broke = BreaksActs-append inner xs ys s m _ _ first broke

  -- a call of the stores
  pub acts_stored : (old new : Held) (life : Window) (standing : Standing) (heard : Heard) (a : StoreAct) (result : Result T C) → OnOk result (IsStored inner a old new) → OnOk result (AreLawful new) → GoesOn fault old (written_stored a) new result → IfErr result (λ c. IsFaultIn a old (fault c)) → DoesActs inner fault (stores a ∷ []) (scene old life standing heard) (scene new life standing heard) result
  acts_stored old new life standing heard a (Ok x) is lawful goes usual = (scene old life standing heard, scene new life standing heard, Reads-refl _, (is, goes, lawful, refl), Reads-refl _)
  acts_stored old new life standing heard a (Err c) is lawful goes usual = inr (scene old life standing heard, Reads-refl _, inl (goes, usual, refl))

-- a block is stored by whether its finalization was found, behind a read
pub filled_behind : {T C : Type 0} (inner : List ℕ → List ℕ) (fault : C → Fault) (old one : Held) (life : Window) (standing : Standing) (heard : Heard) (b : Block) (o o' : Option Finalization) (t : Scene) (result : Result T C) → one ≡ record old { watches = one.watches } → Joins old nothing_written one → o ≡ o' → DoesActs inner fault (fill_acts o b) (scene one life standing heard) t result → DoesActs inner fault (fill_acts o' b) (scene old life standing heard) t result
filled_behind inner fault old one life standing heard b o o' t result same joins is runs = subst (λ k. DoesActs inner fault (fill_acts k b) (scene old life standing heard) t result) is (acts_read inner fault (fill_acts o b) (scene old life standing heard) (scene one life standing heard) t result (record { joins = joins; same = ap (λ h. scene h life standing heard) same }) runs)

-- acts in other words
pub acts_as : {T C : Type 0} (inner : List ℕ → List ℕ) (fault : C → Fault) (acts acts' : List Act) (s t : Scene) (result : Result T C) → acts ≡ acts' → DoesActs inner fault acts s t result → DoesActs inner fault acts' s t result
acts_as inner fault acts acts' s t result is runs = subst (λ k. DoesActs inner fault k s t result) is runs

pub none_as : (inner : List ℕ → List ℕ) (acts : List Act) (s : Scene) → [] ≡ acts → RunsActs inner s acts s
none_as inner acts s is = subst (λ k. RunsActs inner s k s) is (Reads-refl s)

-- acts in other words, behind a read
pub acts_behind : {T C : Type 0} (inner : List ℕ → List ℕ) (fault : C → Fault) (old one : Held) (life : Window) (standing : Standing) (heard : Heard) (acts acts' : List Act) (t : Scene) (result : Result T C) → one ≡ record old { watches = one.watches } → Joins old nothing_written one → acts ≡ acts' → DoesActs inner fault acts (scene one life standing heard) t result → DoesActs inner fault acts' (scene old life standing heard) t result
acts_behind inner fault old one life standing heard acts acts' t result same joins is runs = subst (λ k. DoesActs inner fault k (scene old life standing heard) t result) is (acts_read inner fault acts (scene old life standing heard) (scene one life standing heard) t result (record { joins = joins; same = ap (λ h. scene h life standing heard) same }) runs)

-- none were done but a read
pub none_behind : (inner : List ℕ → List ℕ) (old one : Held) (life : Window) (standing : Standing) (heard : Heard) (acts : List Act) → one ≡ record old { watches = one.watches } → Joins old nothing_written one → [] ≡ acts → RunsActs inner (scene old life standing heard) acts (scene one life standing heard)
none_behind inner old one life standing heard acts same joins is = subst (λ k. RunsActs inner (scene old life standing heard) k (scene one life standing heard)) is (record { joins = joins; same = ap (λ h. scene h life standing heard) same })

-- what holds whatever a call answered
pub always : {T E P : Type 0} (result : Result T E) → P → OnOk result P
always (Ok x) said = said
always (Err e) said = tt

-- calls are asked for behind a read
pub asked_behind : {T C : Type 0} (inner : List ℕ → List ℕ) (fault : C → Fault) (old one : Held) (life : Window) (standing : Standing) (heard : Heard) (calls calls' : List Call) (t : Scene) (result : Result T C) → one ≡ record old { watches = one.watches } → Joins old nothing_written one → calls ≡ calls' → DoesActs inner fault (says (ask calls) ∷ []) (scene one life standing heard) t result → DoesActs inner fault (says (ask calls') ∷ []) (scene old life standing heard) t result
asked_behind inner fault old one life standing heard calls calls' t result same joins is runs = subst (λ k. DoesActs inner fault (says (ask k) ∷ []) (scene old life standing heard) t result) is (acts_read inner fault (says (ask calls) ∷ []) (scene old life standing heard) (scene one life standing heard) t result (record { joins = joins; same = ap (λ h. scene h life standing heard) same }) runs)

pub still_open : {D : Type 0} (old one : Held) (fs : List (Fetch D)) → one ≡ record old { watches = one.watches } → AllByRecursion (IsOpen (height_of old.processed)) fs → AllByRecursion (IsOpen (height_of one.processed)) fs
still_open old one fs same live = subst (λ p. AllByRecursion (IsOpen (height_of p)) fs) (sym (ap (λ h. h.processed) same)) live

-- a read failed
module _ (inner : List ℕ → List ℕ) where
  -- a call of the stores went well, or failed
  pub did_store : (a : StoreAct) (old new : Held) (life : Window) (standing : Standing) (heard : Heard) → IsStored inner a old new → AreLawful new → Joins old (written_stored a) new → RunsActs inner (scene old life standing heard) (stores a ∷ []) (scene new life standing heard)
  did_store a old new life standing heard is lawful joins = (scene old life standing heard, scene new life standing heard, Reads-refl _, (is, joins, lawful, refl), Reads-refl _)

  pub failed_store : (a : StoreAct) (old : Held) (life : Window) (standing : Standing) (heard : Heard) {e : Ending} → LosesOver old (written_stored a) e → IsFaultIn a old e.fault → BreaksActs inner (scene old life standing heard) (stores a ∷ []) e heard
  failed_store a old life standing heard loses kind = inr (scene old life standing heard, Reads-refl _, inl (loses, kind, refl))

  pub failed_read : (acts : List Act) (old : Held) (life : Window) (standing : Standing) (heard : Heard) {e : Ending} → LosesOver old nothing_written e → IsReadFault e.fault → BreaksActs inner (scene old life standing heard) acts e heard
  failed_read acts old life standing heard {e} goes read = acts_unread inner (scene old life standing heard) e heard acts (record { loses = goes; usual = usual_read e.fault read; unsynced = unsynced_read e.fault read; same = refl })

  -- WORDS

  module _ (held : Held) (life : Window) (standing : Standing) (told told' : Option (List Report)) (asks asks' : Option (List Call)) (sends : Option (List Sent)) (answers : List TicketAnswer) where
    pub did_tell : (last last' : ℕ) (r : Round) (h : ℕ) (d : List ℕ) → Hears told (tips_above last r h d) told' → last' ≡ risen_to last h → RunsActs inner (at_tip held life last standing (heard_with told asks sends answers)) (says (tell r h d) ∷ []) (at_tip held life last' standing (heard_with told' asks sends answers))
    did_tell last last' r h d hears rises = (at_tip held life last standing (heard_with told asks sends answers), at_tip held life last' standing (heard_with told' asks sends answers), Reads-refl _, (hears, ap (λ n. at_tip held life n standing (heard_with told' asks sends answers)) rises), Reads-refl _)

    pub failed_tell : (last : ℕ) (r : Round) (h : ℕ) (d : List ℕ) → Hears told [] told' → BreaksActs inner (at_tip held life last standing (heard_with told asks sends answers)) (says (tell r h d) ∷ []) (ended_on want_of_memory held) (heard_with told' asks sends answers)
    failed_tell last r h d hears = inr (at_tip held life last standing (heard_with told asks sends answers), Reads-refl _, inl (refl, hears, refl))

    pub did_ask : (calls : List Call) → Hears asks calls asks' → RunsActs inner (scene held life standing (heard_with told asks sends answers)) (says (ask calls) ∷ []) (scene held life standing (heard_with told asks' sends answers))
    did_ask calls hears = (scene held life standing (heard_with told asks sends answers), scene held life standing (heard_with told asks' sends answers), Reads-refl _, (hears, refl), Reads-refl _)

    pub failed_ask : (calls : List Call) → Hears asks [] asks' → BreaksActs inner (scene held life standing (heard_with told asks sends answers)) (says (ask calls) ∷ []) (ended_on want_of_memory held) (heard_with told asks' sends answers)
    failed_ask calls hears = inr (scene held life standing (heard_with told asks sends answers), Reads-refl _, inl (refl, ([], (calls, refl), hears), refl))

-- PUTS

pub put_block_alone : {T C : Type 0} (b : Block) (old new : Held) (result : Result T C) → OnOk result (Puts (is_held old.blocks.held b) old.blocks (at_own_height b) new.blocks) → OnOk result (new ≡ record old { blocks = new.blocks; writes = with_write b.height old.writes; watches = new.watches }) → OnOk result (StoresBlock b old new)
put_block_alone b old new (Ok x) puts same = record { blocks = puts; same = same }
put_block_alone b old new (Err c) puts same = tt

-- a put that is ignored
pub ignored_put : {T : Type 0} (kept : Kept (At T)) (x : At T) → Puts true kept x kept
ignored_put kept x = record { held = refl; sure = refl; may_kept = λ y has. has; may = λ y has. Contains-append_left kept.may (x ∷ []) y has }

-- a block whose finalization is held is put alone
pub put_certified_block : (inner : List ℕ → List ℕ) (f : Finalization) (b : Block) (old new : Held) → has_height old.certs.held b.height ≡ true → Puts (is_held old.blocks.held b) old.blocks (at_own_height b) new.blocks → new ≡ record old { blocks = new.blocks; writes = with_write b.height old.writes; watches = new.watches } → StoresBoth inner f b old new
put_certified_block inner f b old new has puts same = record {
  blocks = puts;
  certs = subst (λ (c : Bool). Puts c old.certs (at_height b.height f) new.certs) (sym is) (subst (λ k. Puts true old.certs (at_height b.height f) k) (sym (ap (λ h. h.certs) same)) (ignored_put old.certs (at_height b.height f)));
  same = subst (λ (h : Held). h ≡ record old { blocks = h.blocks; certs = h.certs; writes = with_write b.height old.writes; watches = h.watches }) (sym same) refl;
}
  where
    is : is_certified inner old.certs.held b.height (inner f.payload) ≡ true
    is = ap (λ (c : Bool). c || list_any (λ x. bytes_eq (inner x.value.payload) (inner f.payload)) old.certs.held) has
