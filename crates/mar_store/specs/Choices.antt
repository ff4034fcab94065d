-- Which entries of a pile stay.
use Rattle.std.specs.Prelude.{Bool, List, None, Option, Some, [], if◌then◌else◌, nat_le, nat_lt, suc, ℕ, ◌-◌, ◌||◌, ◌∷◌}
use Rattle.mar_store.specs.Luck.{is_lucky}
use Rattle.mar_store.specs.declared.entry.Entry.{Entry}
use Rattle.mar_store.specs.declared.choice.Choice.{Choice}
use Rattle.mar_store.specs.declared.choice.Choice.TheVariants.{From, Lucky}

-- whether the entry at a place stays that has this index
abbrev pub keeps_at : Choice → ℕ → ℕ → Bool
keeps_at (From min) place index = nat_le min index
keeps_at (Lucky sure half) place index = nat_lt place sure || is_lucky half (place - sure)

abbrev pub stays : {T : Type 0} → Choice → ℕ → Entry T → Bool
stays choice place e = keeps_at choice place e.index

-- of entries whose places are counted from k on, those that stay
abbrev pub chosen : {T : Type 0} → (ℕ → Entry T → Bool) → ℕ → List (Entry T) → List (Entry T)
chosen p k [] = []
chosen p k (e ∷ es) = if p k e then e ∷ chosen p (suc k) es else chosen p (suc k) es

-- a place, where it is below an end
abbrev pub place_below : ℕ → Option ℕ → Option ℕ
place_below end None = None
place_below end (Some place) = if nat_lt place end then Some place else None
