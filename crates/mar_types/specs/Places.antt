-- Where an entry of a list stands.
use Rattle.std.specs.Prelude.{Bool, List, None, Option, Some, [], bytes_eq, if◌then◌else◌, option_map, slice_get, suc, ℕ, ◌∷◌, ◌≡◌}

-- the place of the first entry that passes
abbrev pub first_place : {T : Type 0} → (T → Bool) → List T → Option ℕ
first_place passes [] = None
first_place passes (x ∷ xs) = if passes x then Some 0 else option_map suc (first_place passes xs)

-- the first of two places, or the second where there is no first
abbrev pub or_place : Option ℕ → Option ℕ → Option ℕ
or_place None other = other
or_place (Some place) other = Some place

-- the entry that a place gives
abbrev pub at_place : {T : Type 0} → List T → Option ℕ → Option T
at_place xs None = None
at_place xs (Some place) = slice_get xs place

-- each name is placed where the first entry of that name stands
abbrev pub PlacesFirst : {D T : Type 0} → (D → List ℕ) → (T → List ℕ) → List T → (D → Option ℕ) → Type 0
PlacesFirst bytes name_of xs place = (d : _) → place d ≡ first_place (λ x. bytes_eq (name_of x) (bytes d)) xs
