-- The five archives that a cache keeps of an epoch, and where an entry stands in them.
use Rattle.std.specs.Prelude.{Bool, List, None, Option, Some, [], if◌then◌else◌, nat_lt, ℕ, ◌&&◌, ◌==◌, ◌||◌, ◌∷◌}
use Rattle.mar_model.specs.Cached.{Cached, certified_entry, finalization_entry, notarization_entry, notarized_entry, verified_entry}
use Rattle.mar_model.specs.declared.section.Section.{Section}
use Rattle.mar_model.specs.declared.section.Section.TheVariants.{Certified, Finalizations, Notarizations, Notarized, Verified}

-- the order in which the archives are searched
abbrev pub rank : Section → ℕ
rank Verified = 0
rank Notarized = 1
rank Certified = 2
rank Notarizations = 3
rank Finalizations = 4

abbrev pub section_of : Cached → Section
section_of (verified_entry r b) = Verified
section_of (notarized_entry r b) = Notarized
section_of (certified_entry e b) = Certified
section_of (notarization_entry f) = Notarizations
section_of (finalization_entry f) = Finalizations

-- an entry of that archive
abbrev pub is_in : Section → Cached → Bool
is_in s x = rank (section_of x) == rank s

-- the view or the height that it stands at
abbrev pub index_of : Cached → ℕ
index_of (verified_entry r b) = r.view
index_of (notarized_entry r b) = r.view
index_of (certified_entry e b) = b.height
index_of (notarization_entry f) = f.round.view
index_of (finalization_entry f) = f.round.view

-- found before another: in an earlier archive, or there at a lower view or height
abbrev pub stands_before : Cached → Cached → Bool
stands_before x y = nat_lt (rank (section_of x)) (rank (section_of y)) || (rank (section_of x) == rank (section_of y) && nat_lt (index_of x) (index_of y))

abbrev pub earlier_of : Cached → Option Cached → Option Cached
earlier_of x None = Some x
earlier_of x (Some y) = if stands_before y x then Some y else Some x

-- Of the entries of an epoch that pass, the one that is found: that of the earliest archive, there the one at the lowest
-- view or height, and of those the one put first.
abbrev pub first_found : (Cached → Bool) → List Cached → Option Cached
first_found passes [] = None
first_found passes (x ∷ xs) = if passes x then earlier_of x (first_found passes xs) else first_found passes xs
