-- An epoch that is opened holds what luck keeps of what was left of it.
use Rattle.std.proofs.Common.{◌≡◌, ◌∙◌, ℕ, Bool, true, false, List, Option, Result, Ok, Err, IfOk, ap, sym, subst}
use Rattle.mar_store.specs.Changes.{Left}
use Rattle.mar_store.specs.Watch.{Follows}
use Rattle.mar_store.specs.declared.Lost.{Lost}
use Rattle.mar_model.specs.Cached.{Cached}
use Rattle.mar_epochs.specs.EpochArchives.{Book}
use Rattle.mar_epochs.specs.EpochStates.{EpochState, EpochStates, PutsBack, shut}
use Rattle.mar_epochs.specs.Picks.{PicksEpoch, PicksHeld, follows_if, picks_by}

-- epochs go by luck where their archives do
picks_if : (is_certain : Bool) (keeps : Option Follows) (luck : ℕ) (l : Left Cached) (held : List Cached) → PicksHeld (picks_by keeps luck) l held → PicksHeld (picks_by (follows_if is_certain keeps) luck) l held
picks_if true keeps luck l held picked = picked
picks_if false keeps luck l held picked = tt

-- archives that were opened stand in the slot of their epoch
pub picks_back : {A W S L : Type 0} (book : A → Book) (left : W → Left Cached) (states : S → EpochStates) (lefts : L → List EpochStates) (luck_of : S → ℕ) (is_certain : Bool) (keeps : Option Follows) (luck e : ℕ) (old : EpochStates) (l : Left Cached) (answer : Result A (Lost W)) (r : Result S (Lost L))
    → PutsBack book left states lefts e old answer r → IfOk answer (λ v. PicksHeld (picks_by keeps luck) l (book v).kept.held) → IfOk r (λ s. luck_of s ≡ luck)
    → IfOk r (λ s. PicksEpoch (picks_by (follows_if is_certain keeps) luck) (shut l) (states s e) × (luck_of s ≡ luck))
picks_back book left states lefts luck_of is_certain keeps luck e old l (Ok v) (Ok s) back picked same = (subst (PicksEpoch (picks_by (follows_if is_certain keeps) luck) (shut l)) (sym back.0) (picks_if is_certain keeps luck l (book v).kept.held picked), same)
picks_back book left states lefts luck_of is_certain keeps luck e old l (Ok v) (Err m) back picked same = tt
picks_back book left states lefts luck_of is_certain keeps luck e old l (Err w) (Ok s) back picked same = absurd back
picks_back book left states lefts luck_of is_certain keeps luck e old l (Err w) (Err m) back picked same = tt

-- the same of what was seen otherwise of the epoch
pub picks_same : {S L : Type 0} (states : S → EpochStates) (luck_of : S → ℕ) (picks : Option (ℕ → Bool)) (luck e : ℕ) (t u : EpochState) (r : Result S L) → u ≡ t
    → IfOk r (λ s. PicksEpoch picks t (states s e) × (luck_of s ≡ luck)) → IfOk r (λ s. PicksEpoch picks u (states s e) × (luck_of s ≡ luck))
picks_same states luck_of picks luck e t u r is picked = subst (λ v. IfOk r (λ s. PicksEpoch picks v (states s e) × (luck_of s ≡ luck))) (sym is) picked

-- and of epochs with the same luck
pub picks_on : {S L : Type 0} (states : S → EpochStates) (luck_of : S → ℕ) (keeps : Option Follows) (luck now e : ℕ) (t u : EpochState) (r : Result S L) → u ≡ t → now ≡ luck
    → IfOk r (λ s. PicksEpoch (picks_by keeps now) t (states s e) × (luck_of s ≡ now)) → IfOk r (λ s. PicksEpoch (picks_by keeps luck) u (states s e) × (picks_by keeps (luck_of s) ≡ picks_by keeps luck))
picks_on states luck_of keeps luck now e t u (Ok s) is same picked = (subst (λ v. PicksEpoch (picks_by keeps luck) v (states s e)) (sym is) (subst (λ n. PicksEpoch (picks_by keeps n) t (states s e)) same picked.0), ap (picks_by keeps) (picked.1 ∙ same))
picks_on states luck_of keeps luck now e t u (Err l) is same picked = tt
