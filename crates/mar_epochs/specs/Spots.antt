-- Where the entry stands that a search finds, as an index keeps it.
use Rattle.std.specs.Prelude.{Bool, List, None, Option, Some, [], false, if◌then◌else◌, nat_lt, slice_get, suc, ℕ, ◌&&◌, ◌==◌, ◌||◌, ◌∷◌}
use Rattle.mar_model.specs.Cached.{Cached}
use Rattle.mar_model.specs.Sections.{index_of, rank, section_of}
use Rattle.mar_epochs.specs.declared.index.Spot.{Spot}
use Rattle.mar_epochs.specs.declared.keys.Keys.{Keys}

-- found before the entry at another spot
abbrev pub spot_before : Spot → Spot → Bool
spot_before s t = nat_lt s.rank t.rank || (s.rank == t.rank && nat_lt s.index t.index)

-- what is found, one entry more being put at the end
abbrev pub sooner : Option Spot → Spot → Option Spot
sooner None s = Some s
sooner (Some t) s = if spot_before s t then Some s else Some t

abbrev pub spot_at : ℕ → Cached → Spot
spot_at n x = record { rank = rank (section_of x); index = index_of x; place = n }

-- the same over entries whose places are counted from n on
abbrev pub found_from : (Cached → Bool) → ℕ → Option Spot → List Cached → Option Spot
found_from passes n found [] = found
found_from passes n found (x ∷ xs) = found_from passes (suc n) (if passes x then sooner found (spot_at n x) else found) xs

-- the spot of the entry that is found of those that pass
abbrev pub spot_found : (Cached → Bool) → List Cached → Option Spot
spot_found passes xs = found_from passes 0 None xs

abbrev pub at_spot : List Cached → Option Spot → Option Cached
at_spot xs None = None
at_spot xs (Some s) = slice_get xs s.place

-- the key that there may be is equal to another
abbrev pub is_keyed : {K : Type 0} → (K → K → Bool) → Option K → K → Bool
is_keyed eq None k = false
is_keyed eq (Some j) k = eq j k

-- one of the keys is equal to another
abbrev pub is_among : {K : Type 0} → (K → K → Bool) → Keys K → K → Bool
is_among eq keys k = eq keys.place k || (is_keyed eq keys.round k || (is_keyed eq keys.digest k || is_keyed eq keys.commitment k))
