-- What is told of a tip, and what was filled in made durable.
use Rattle.std.proofs.Common.{◌≡◌, ◌∷◌, [], List, Result, Ok, Err, Option, None, Some, OnOk, IfErr, Contains, MatchOption, arith, refl, sym, ap, subst, ℕ}
use Rattle.mar_key.specs.Hears.{Hears}
use Rattle.mar_key.specs.Keys.{Call}
use Rattle.mar_model.specs.Acts.{AreLawful, SyncsBoth, SyncsUncovered, says, stores, sync_writes, tell}
use Rattle.mar_model.specs.Answers.{Sent, TicketAnswer}
use Rattle.mar_model.specs.Faults.{Fault}
use Rattle.mar_model.specs.Held.{AreWritten, GoesOn, Held, IsArchiveFault, MakesSure, nothing_written}
use Rattle.mar_model.specs.Moves.{risen_to, tips_above}
use Rattle.mar_model.specs.Promise.{Heard, heard_with}
use Rattle.mar_model.specs.Ran.{Does, Reached, Task, does}
use Rattle.mar_model.specs.Scene.{Scene, Standing, Window, scene}
use Rattle.mar_model.specs.Step.{Report}
use Rattle.mar_model.specs.Writing.{with_all_covered}
use Rattle.mar_model.proofs.Running.{Does-stored, Reached-more}
use Rattle.mar_types.specs.Round.{Round}

-- a finalized block was told as the tip, where it is above the last one
pub tip_told : (inner : List ℕ → List ℕ) (held : Held) (life life' : Window) (standing : Standing) (told told' : Option (List Report)) (asks : Option (List Call)) (sends : Option (List Sent)) (answers : List TicketAnswer) (r : Round) (h : ℕ) (d : List ℕ)
    → life' ≡ record life { tip = risen_to life.tip h } → Hears told (tips_above life.tip r h d) told' → (start : Scene) (whole rest : List Task)
    → Reached inner start whole (does (says (tell r h d)) ∷ rest) (scene held life standing (heard_with told asks sends answers)) → Reached inner start whole rest (scene held life' standing (heard_with told' asks sends answers))
tip_told inner held life life' standing told told' asks sends answers r h d is hears start whole rest reached =
    Reached-more inner start whole _ rest _ _ reached (hears, ap (λ w. scene held w standing (heard_with told' asks sends answers)) is)

-- where nothing bars, no write waits for a sync
pub unbarred : (Below : ℕ → Type 0) (uncovered : List ℕ) (o : Option ℕ) → MatchOption o (uncovered ≡ []) (λ h. Contains uncovered h × Below h) → o ≡ None → uncovered ≡ []
unbarred Below uncovered None least none = least
unbarred Below uncovered (Some h) least none = absurd (let no : Some h ≡ None = none in cc)

syncs_some : (uncovered : List ℕ) (h : ℕ) (old new : Held) → Contains uncovered h → SyncsBoth old new → SyncsUncovered uncovered old new
syncs_some [] h old new (i, below, is) both = absurd (omega (arith, below))
syncs_some (k ∷ uncovered) h old new has both = both

-- and where a write bars, one does
syncs_barred : (Below : ℕ → Type 0) (uncovered : List ℕ) (o : Option ℕ) (h : ℕ) (old new : Held) → MatchOption o (uncovered ≡ []) (λ k. Contains uncovered k × Below k) → o ≡ Some h → SyncsBoth old new → SyncsUncovered uncovered old new
syncs_barred Below uncovered None h old new least is both = absurd (let no : None ≡ Some h = is in cc)
syncs_barred Below uncovered (Some k) h old new least is both = syncs_some uncovered k old new least.0 both

-- nothing was filled in
pub Does-unsynced : {T C : Type 0} (inner : List ℕ → List ℕ) (fault : C → Fault) (old : Held) (life : Window) (standing : Standing) (heard : Heard) (x : T) → AreLawful old → old.writes.uncovered ≡ [] → Does {T = T} {C = C} inner fault (does (stores sync_writes) ∷ []) (scene old life standing heard) (scene old life standing heard) (Ok x)
Does-unsynced {T} {C} inner fault old life standing heard x lawful none = Does-stored {T = T} {C = C} inner fault old old life standing heard sync_writes (Ok x) (subst (λ u. SyncsUncovered u old old) (sym none) refl) lawful (λ start all grew within. grew) tt

module _ {T C : Type 0} (inner : List ℕ → List ℕ) (fault : C → Fault) (old new : Held) (life : Window) (standing : Standing) (heard : Heard) where
  -- both archives were synced
  pub Does-synced : (Below : ℕ → Type 0) (o : Option ℕ) (h : ℕ) → MatchOption o (old.writes.uncovered ≡ []) (λ k. Contains old.writes.uncovered k × Below k) → o ≡ Some h → (result : Result T C) → OnOk result (MakesSure old.blocks new.blocks) → OnOk result (MakesSure old.certs new.certs) → OnOk result (AreWritten new)
      → OnOk result (new ≡ record old { blocks = new.blocks; certs = new.certs; writes = with_all_covered old.writes; watches = new.watches }) → OnOk result (AreLawful new) → GoesOn fault old nothing_written new result → IfErr result (λ c. IsArchiveFault (fault c))
      → Does inner fault (does (stores sync_writes) ∷ []) (scene old life standing heard) (scene new life standing heard) result
  Does-synced Below o h least is (Ok x) blocks certs written same lawful goes archive = Does-stored inner fault old new life standing heard sync_writes (Ok x) (syncs_barred Below old.writes.uncovered o h old new least is (record { blocks = blocks; certs = certs; written = written; same = same })) lawful goes archive
  Does-synced Below o h least is (Err c) blocks certs written same lawful goes archive = Does-stored {T = T} inner fault old new life standing heard sync_writes (Err c) tt tt goes archive

pub on_both : {T E P Q : Type 0} (result : Result T E) → (P → Q) → OnOk result P → OnOk result Q
on_both (Ok x) f said = f said
on_both (Err e) f said = tt
