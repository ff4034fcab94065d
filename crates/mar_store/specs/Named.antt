-- Values that an archive keeps at an index and under a digest, which is their name.
use Rattle.std.specs.Prelude.{Bool, IsNone, List, None, Option, Some, [], bytes_eq, find, is_some, map, max, ℕ, ⊤, ◌||◌, ◌∷◌}
use Rattle.mar_store.specs.Kept.{At, has_height, value_at}
use Rattle.mar_store.specs.declared.identifier.Identifier.{Identifier}
use Rattle.mar_store.specs.declared.identifier.Identifier.TheVariants.{Index, Key}

-- the first value of this name
abbrev pub value_named : {T : Type 0} → (T → List ℕ) → List (At T) → List ℕ → Option T
value_named name xs digest = find (λ v. bytes_eq (name v) digest) (map (λ x. x.value) xs)

-- the value that an identifier finds
abbrev pub value_found : {T K : Type 0} → (T → List ℕ) → (K → List ℕ) → List (At T) → Identifier K → Option T
value_found name bytes xs (Index h) = value_at xs h
value_found name bytes xs (Key k) = value_named name xs (bytes k)

-- a value is held at that index or under that name
abbrev pub is_taken : {T : Type 0} → (T → List ℕ) → List (At T) → At T → Bool
is_taken name xs x = has_height xs x.height || is_some (value_named name xs (name x.value))

-- no name stands twice
abbrev pub EachNameOnce : {T : Type 0} → (T → List ℕ) → List (At T) → Type 0
EachNameOnce name [] = ⊤
EachNameOnce name (x ∷ xs) = IsNone (value_named name xs (name x.value)) × EachNameOnce name xs

abbrev pub greatest_of : ℕ → Option ℕ → ℕ
greatest_of h None = h
greatest_of h (Some k) = max h k

-- the greatest index
abbrev pub last_index : {T : Type 0} → List (At T) → Option ℕ
last_index [] = None
last_index (x ∷ xs) = Some (greatest_of x.height (last_index xs))
