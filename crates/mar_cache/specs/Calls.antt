-- What the calls of a shelf make of it.
use Rattle.std.specs.Prelude.{List, [], if◌then◌else◌, nat_le, ℕ, ◌++◌, ◌∷◌, ◌≡◌}
use Rattle.std.specs.List.{AllByRecursion}
use Rattle.mar_store.specs.Changes.{Within}
use Rattle.mar_model.specs.Cached.{Cached, epoch_of}
use Rattle.mar_cache.specs.Bounds.{Bounds}
use Rattle.mar_model.specs.Sections.{section_of}
use Rattle.mar_cache.specs.Shelved.{DoesAt, LeavesEpochs, at_epoch, nothing_gone, raised}
use Rattle.mar_epochs.specs.EpochStates.{EpochStates}
use Rattle.mar_epochs.specs.declared.Change.TheVariants.{Put, Sync}

-- an entry is put in its epoch, which is opened where it isn't open; then its archive is synced
abbrev pub IsPut : Cached → EpochStates → EpochStates → Type 0
IsPut x old new = DoesAt (λ y. y) (epoch_of x) (Put x ∷ []) old new

abbrev pub IsPutAndSynced : Cached → EpochStates → EpochStates → Type 0
IsPutAndSynced x old new = DoesAt (λ y. y) (epoch_of x) (Put x ∷ Sync (section_of x) ∷ []) old new

-- where an epoch is above the highest, that rises to it, and is durable
abbrev pub Raises : ℕ → Bounds → List Bounds → Bounds → List Bounds → Type 0
Raises e bounds left new new_left = (new ≡ raised e bounds) × (new_left ≡ (if nat_le e bounds.highest then left else raised e bounds ∷ []))

-- what a put that failed leaves of the epochs
abbrev pub PutLeaves : Cached → EpochStates → List EpochStates → Type 0
PutLeaves x old ways = AllByRecursion (LeavesEpochs (at_epoch (epoch_of x) (x ∷ [])) nothing_gone old) ways

-- and of the bounds
abbrev pub PutBounds : Cached → Bounds → List Bounds → List Bounds → Type 0
PutBounds x bounds old left = Within left (old ++ raised (epoch_of x) bounds ∷ [])
