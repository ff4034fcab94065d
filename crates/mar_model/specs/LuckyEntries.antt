-- Which entries of a cache a luck keeps of what a crash left.
use Rattle.std.specs.List.{list_any}
use Rattle.std.specs.Prelude.{Bool, List, [], filter, if◌then◌else◌, length, ℕ, ◌∷◌}
use Rattle.mar_store.specs.Changes.{Left}
use Rattle.mar_model.specs.AllEntries.{is_in_place}
use Rattle.mar_model.specs.Cache.{same_archive}
use Rattle.mar_model.specs.Cached.{Cached}

-- an entry is sure where one that is stands in its place, since no archive holds two of one place
abbrev pub is_sure_in : List Cached → Cached → Bool
is_sure_in sure x = list_any (is_in_place x) sure

-- how many entries of the archive of this one there are
abbrev pub count_beside : Cached → List Cached → ℕ
count_beside x xs = length (filter (same_archive x) xs)

-- Of entries in the order of their puts those that are sure are found, and of the others those whose number is kept: it counts
-- the entries of the same archive that aren't sure and were put before.
abbrev pub lucky_behind : (ℕ → Bool) → List Cached → List Cached → List Cached → List Cached
lucky_behind keeps sure before [] = []
lucky_behind keeps sure before (x ∷ xs) =
    if is_sure_in sure x then x ∷ lucky_behind keeps sure before xs
    else (if keeps (count_beside x before) then x ∷ lucky_behind keeps sure (x ∷ before) xs else lucky_behind keeps sure (x ∷ before) xs)

-- what is found of what is left of a cache
abbrev pub lucky_entries : (ℕ → Bool) → Left Cached → List Cached
lucky_entries keeps left = lucky_behind keeps left.sure [] left.may
