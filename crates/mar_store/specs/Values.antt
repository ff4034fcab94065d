-- What a metadata store holds: values of some keys, and the maps that a crash may leave.
use Rattle.std.specs.Prelude.{◌≡◌, ℕ, ◌<◌, ◌==◌, if◌then◌else◌, filter, List, [], ◌∷◌, ◌++◌, length, not, Option, None, Some}
use Rattle.std.specs.List.{list_any}
use Rattle.mar_store.specs.Changes.{Within}

-- the value of each key that has one
abbrev pub Values : Type 0
Values = ℕ → Option ℕ

abbrev pub no_values : Values
no_values key = None

-- the greatest key that has a value, where one has
abbrev pub IsLastKey : Values → Option ℕ → Type 0
IsLastKey values None = (key : ℕ) → values key ≡ None
IsLastKey values (Some last) = (values last ≡ None → ⊥) × ((key : ℕ) → last < key → values key ≡ None)

-- the value of one key is set or removed, each other stays
abbrev pub SetsValue : Values → ℕ → Option ℕ → Values → Type 0
SetsValue old key value new = (k : ℕ) → new k ≡ (if k == key then value else old k)

-- what the last sync that succeeded left, or the last reopening read
abbrev pub synced_values : List Values → Values
synced_values [] = no_values
synced_values (values ∷ others) = values

-- What a call that failed leaves: what was left, with what was synced first, and nothing new but what it was to write.
pub record LeavesValues (old more left : List Values) : Type 0 where
  pub some : 0 < length left
  pub synced : synced_values left ≡ synced_values old
  pub kept : Within old left
  pub within : Within left (old ++ more)

-- the list without that key
abbrev pub others_of : ℕ → List ℕ → List ℕ
others_of key keys = filter (λ k. not (k == key)) keys

-- the list with that key, which is added at the end where it isn't in it
abbrev pub with_key : ℕ → List ℕ → List ℕ
with_key key keys = if list_any (λ k. k == key) keys then keys else keys ++ key ∷ []
