-- Which entries of an epoch a luck keeps where it is opened.
use Rattle.std.specs.Prelude.{Bool, Contains, List, None, Option, Some, if◌then◌else◌, is_some, length, map, option_map, ℕ, ⊤, ◌≡◌}
use Rattle.std.proofs.Common.{refl, true, false, ◌∙◌}
use Rattle.std.proofs.lemmas.List.{length-map}
use Rattle.mar_store.specs.Changes.{Left}
use Rattle.mar_store.specs.Luck.{keeps_by}
use Rattle.mar_store.specs.Watch.{Follows}
use Rattle.mar_model.specs.Cached.{Cached, epoch_of}
use Rattle.mar_model.specs.LuckyEntries.{lucky_entries}
use Rattle.mar_epochs.specs.EpochStates.{EpochState, opened, shut}

-- the numbers that a luck keeps, where archives go by luck
abbrev pub picks_by : Option Follows → ℕ → Option (ℕ → Bool)
picks_by keeps luck = option_map (λ follows. keeps_by follows luck) keeps

-- Archives that go by luck hold what it keeps of what was left of them, where all of that is of one epoch.
abbrev pub PicksHeld : Option (ℕ → Bool) → Left Cached → List Cached → Type 0
PicksHeld None left held = ⊤
PicksHeld (Some keeps) left held = (e : ℕ) → ((x : Cached) → Contains left.may x → epoch_of x ≡ e) → held ≡ lucky_entries keeps left

-- the same of an epoch that wasn't open and is
abbrev pub PicksEpoch : Option (ℕ → Bool) → EpochState → EpochState → Type 0
PicksEpoch picks (shut l) (opened b) = PicksHeld picks l b.kept.held
PicksEpoch picks _ _ = ⊤

-- Epochs over a depot go by luck as their archives do, where a crash leaves the names of the depot in one way.
abbrev pub follows_if : Bool → Option Follows → Option Follows
follows_if is_certain keeps = if is_certain then keeps else None

pub one_certain : {A B : Type 0} (f : A → B) (ways : List A) (is_certain : Bool) (keeps : Option Follows) → (is_certain ≡ true → length ways ≡ 1) → is_some (follows_if is_certain keeps) ≡ true → length (map f ways) ≡ 1
one_certain f ways true keeps one goes = length-map ways f ∙ one refl
one_certain f ways false keeps one goes = absurd cc

-- they go by luck only where their archives do
pub goes_below : (is_certain : Bool) (keeps : Option Follows) → is_some (follows_if is_certain keeps) ≡ true → is_some keeps ≡ true
goes_below true keeps goes = goes
goes_below false keeps goes = absurd cc
