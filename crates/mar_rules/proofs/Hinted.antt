-- What a hint asks: the finalization of its height, of its peers alone, unless it is held or the height is processed.
use Rattle.std.proofs.Common.{◌≡◌, ◌∷◌, [], List, Option, None, Some, Bool, true, false, if◌then◌else◌, is_some, not, ◌&&◌, ℕ, refl, sym, ◌∙◌, ◌++◌, ap, inl, subst, arith}
use Rattle.std.proofs.lemmas.Bool.Decides.{nat_tests}
use Rattle.mar_cert.specs.Finalization.{Finalization}
use Rattle.mar_key.specs.Hears.{Hears}
use Rattle.mar_key.specs.Keys.{Call, finalized_by_height, finalized_key}
use Rattle.mar_key.specs.Processed.{Processed}
use Rattle.mar_key.specs.Views.{targeted_of}
use Rattle.mar_key.specs.declared.annotations.Annotation.TheVariants as annotation
use Rattle.mar_key.specs.declared.annotations.Finalized.TheVariants.{ByHeight}
use Rattle.mar_key.specs.declared.keys.Key.TheVariants as key
use Rattle.mar_key.specs.declared.requests.Fetch.{Fetch}
use Rattle.mar_store.specs.Kept.{value_at}
use Rattle.mar_model.specs.Acts.{Joins, LosesOver, ask, says}
use Rattle.mar_model.specs.Answers.{Sent, TicketAnswer}
use Rattle.mar_model.specs.Faults.{Fault}
use Rattle.mar_model.specs.Floors.{Floors, is_processed, permits}
use Rattle.mar_model.specs.Held.{Held, IsReadFault, ended_on, nothing_written}
use Rattle.mar_model.specs.Plans.{hint_plan}
use Rattle.mar_model.specs.Promise.{heard_with}
use Rattle.mar_model.specs.Ran.{Breaks, Reached, Task, does}
use Rattle.mar_model.specs.Requests.{height_asks, hint_asks, permits_height}
use Rattle.mar_model.specs.Scene.{Scene, Standing, Window, scene}
use Rattle.mar_model.specs.Step.{Report}
use Rattle.mar_model.proofs.Doing.{unsynced_read, usual_read}
use Rattle.mar_model.proofs.Handing.{Hears-nothing}
use Rattle.mar_model.proofs.Running.{Reached-more, Reached-read}

-- the request for the finalization at a height
abbrev at_height : {D : Type 0} → ℕ → Fetch D
at_height h = record { key = key.Finalized h; subscriber = annotation.Finalized (ByHeight h) }

-- it lives where the height is above the processed one
is_permitted : (o : Option Processed) (h : ℕ) → (not (is_processed o (finalized_by_height h)) && true) ≡ permits_height o h
is_permitted None h = refl
is_permitted (Some p) h = grind (arith, nat_tests)

pub asked_of : {D : Type 0} (bytes : D → List ℕ) (s : Floors) (processed : Option Processed) (f : Fetch D) (h : ℕ) (peers : List ℕ) (told told' : Option (List Call))
    → s.processed ≡ processed → f ≡ at_height h → Hears told (if permits s f then targeted_of bytes f peers ∷ [] else []) told'
    → Hears told (height_asks processed (finalized_key h) (finalized_by_height h) h (Some peers)) told'
asked_of bytes s processed f h peers told told' processed_is is hears =
    subst (λ c. Hears told (if c then targeted_of bytes (at_height h) peers ∷ [] else []) told') (is_permitted s.processed h ∙ ap (λ o. permits_height o h) processed_is)
    (subst (λ g. Hears told (if permits s g then targeted_of bytes g peers ∷ [] else []) told') is hears)

-- where it is held nothing is asked
held_asks : (processed : Option Processed) (h : ℕ) (peers : List ℕ) (o : Option Finalization) → is_some o ≡ true → hint_asks processed h peers o ≡ []
held_asks processed h peers None some = absurd cc
held_asks processed h peers (Some f) some = refl

missing_asks : (processed : Option Processed) (h : ℕ) (peers : List ℕ) (o : Option Finalization) → is_some o ≡ false
    → hint_asks processed h peers o ≡ height_asks processed (finalized_key h) (finalized_by_height h) h (Some peers)
missing_asks processed h peers None none = refl
missing_asks processed h peers (Some f) none = absurd cc

module _ (inner : List ℕ → List ℕ) (old new : Held) (life : Window) (standing : Standing) (told : Option (List Report)) (asks : Option (List Call)) (sends : Option (List Sent))
    (answers : List TicketAnswer) (h : ℕ) (peers : List ℕ) (start : Scene) (whole rest : List Task)
    (reached : Reached inner start whole (hint_plan old h peers ++ rest) (scene old life standing (heard_with told asks sends answers))) where
  -- the store was read
  looked : (left : List Task) → new ≡ record old { watches = new.watches } → Joins old nothing_written new
      → Reached inner start whole left (scene old life standing (heard_with told asks sends answers)) → Reached inner start whole left (scene new life standing (heard_with told asks sends answers))
  looked left same joins before = Reached-read inner start whole left _ _ before (record { joins = joins; same = ap (λ k. scene k life standing (heard_with told asks sends answers)) same })

  -- the finalization is held, so nothing is asked
  pub hint-held : new ≡ record old { watches = new.watches } → Joins old nothing_written new → is_some (value_at old.certs.held h) ≡ true
      → Reached inner start whole rest (scene new life standing (heard_with told asks sends answers))
  hint-held same joins some = looked rest same joins (Reached-more inner start whole _ rest _ _ reached
      (subst (λ calls. Hears asks calls asks) (sym (held_asks old.processed h peers (value_at old.certs.held h) some)) (Hears-nothing asks), refl))

  -- it isn't, so the peers are to be asked
  pub hint-missing : new ≡ record old { watches = new.watches } → Joins old nothing_written new → is_some (value_at old.certs.held h) ≡ false
      → Reached inner start whole (does (says (ask (height_asks new.processed (finalized_key h) (finalized_by_height h) h (Some peers)))) ∷ rest)
      (scene new life standing (heard_with told asks sends answers))
  hint-missing same joins none = looked _ same joins
      (subst (λ calls. Reached inner start whole (does (says (ask calls)) ∷ rest) (scene old life standing (heard_with told asks sends answers)))
      (missing_asks old.processed h peers (value_at old.certs.held h) none ∙ ap (λ (k : Held). height_asks k.processed (finalized_key h) (finalized_by_height h) h (Some peers)) (sym same)) reached)

  -- the read failed
  pub hint-unread : (fault : Fault) → LosesOver old nothing_written (ended_on fault new) → IsReadFault fault → Breaks inner start whole (ended_on fault new) (heard_with told asks sends answers)
  hint-unread fault loses kind = reached.breaks _ _ (inl (record { loses = loses; usual = usual_read fault kind; unsynced = unsynced_read fault kind; same = refl }))
