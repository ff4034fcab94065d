-- What calls of a cache make of its entries, those of all epochs together.
use Rattle.std.specs.List.{list_any}
use Rattle.std.specs.Prelude.{Bool, Contains, IsTrue, List, None, Option, Some, [], false, filter, if◌then◌else◌, nat_lt, not, ⊤, ◌&&◌, ◌++◌, ◌==◌, ◌||◌, ◌∷◌, ◌≡◌}
use Rattle.mar_types.specs.Round.{Round}
use Rattle.mar_cert.specs.Block.{Block}
use Rattle.mar_store.specs.Changes.{Within}
use Rattle.mar_store.specs.Kept.{Kept}
use Rattle.mar_model.specs.Cached.{Cached, epoch_of, same_place, verified_entry}
use Rattle.mar_model.specs.Cache.{first_verified, is_below, same_archive}
use Rattle.mar_model.specs.Sections.{stands_before}

-- an entry that stands in the place of another in its epoch
abbrev pub is_in_place : Cached → Cached → Bool
is_in_place x y = epoch_of y == epoch_of x && same_place x y

-- the first of a place is kept
abbrev pub with_own_entry : List Cached → Cached → List Cached
with_own_entry held x = if list_any (is_in_place x) held then held else held ++ x ∷ []

-- An entry was put. Of what was sure all is sure, and no more may be left but the entry.
pub record PutsEntry (x : Cached) (old new : Kept Cached) : Type 0 where
  pub held : Within (with_own_entry old.held x) new.held
  pub only : Within new.held (with_own_entry old.held x)
  pub others : (passes : Cached → Bool) → passes x ≡ false → filter passes new.held ≡ filter passes old.held  -- in their order
  pub firsts : (r : Round) → first_verified new.held r ≡ first_verified (with_own_entry old.held x) r
  pub sure : Within old.sure new.sure
  pub may : Within new.may (old.may ++ x ∷ [])

-- An entry was put, and its archive synced: what that holds is sure.
pub record PutsEntryNow (x : Cached) (old new : Kept Cached) : Type 0 where
  pub puts : PutsEntry x old new
  pub synced : (y : Cached) → IsTrue (same_archive x y) → Contains new.held y → Contains new.sure y

-- the block that was verified first at a round, where it is still held
abbrev pub FirstsStay : List Cached → List Cached → Type 0
FirstsStay old new = (r : Round) (b : Block) → first_verified old r ≡ Some b → Contains new (verified_entry r b) → first_verified new r ≡ Some b

-- A prune: what the test passes is gone, and nothing else. Of what was sure the rest is sure, and no more may be left.
pub record PrunesEntries (test : Cached → Bool) (old new : Kept Cached) : Type 0 where
  pub held : new.held ≡ filter (λ x. not (test x)) old.held
  pub sure : (x : Cached) → Contains old.sure x → test x ≡ false → Contains new.sure x
  pub may : Within new.may old.may

-- prunes by these rounds, one after another
abbrev pub PrunesByAll : List Round → Kept Cached → Kept Cached → Type 0
PrunesByAll [] old new = new ≡ old
PrunesByAll (r ∷ rounds) old new = (mid : Kept Cached) × PrunesEntries (is_below r) old mid × PrunesByAll rounds mid new

-- What a call that failed leaves: what was sure is sure, but for what the test passes, and no more may be left but what was
-- to be put.
pub record LeavesEntries (put : List Cached) (gone : Cached → Bool) (old : Kept Cached) (sure may : List Cached) : Type 0 where
  pub stays : (y : Cached) → Contains old.sure y → gone y ≡ false → Contains sure y
  pub held : (y : Cached) → Contains old.held y → gone y ≡ false → Contains may y
  pub within : Within may (old.may ++ put)

-- no two stand in one place
abbrev pub EachOnce : List Cached → Type 0
EachOnce [] = ⊤
EachOnce (x ∷ xs) = (list_any (is_in_place x) xs ≡ false) × EachOnce xs

-- What a crash left was taken up: one list with all that was sure, of what might be left.
pub record LoadsEntries (old new : Kept Cached) : Type 0 where
  pub with_sure : Within old.sure new.held
  pub within_may : Within new.held old.may
  pub sure : Within new.held new.sure
  pub may : Within new.may new.held
  pub once : EachOnce new.held

-- WHAT A SEARCH FINDS

-- in a newer epoch, or there in an earlier archive, or there at a lower view or height
abbrev pub is_sooner : Cached → Cached → Bool
is_sooner x y = nat_lt (epoch_of y) (epoch_of x) || (epoch_of x == epoch_of y && stands_before x y)

abbrev pub sooner_of : Cached → Option Cached → Option Cached
sooner_of x None = Some x
sooner_of x (Some y) = if is_sooner y x then Some y else Some x

-- the entry that a search finds among those that pass: no other is sooner, and of several that stand alike it was put first
abbrev pub soonest : (Cached → Bool) → List Cached → Option Cached
soonest passes [] = None
soonest passes (x ∷ xs) = if passes x then sooner_of x (soonest passes xs) else soonest passes xs
