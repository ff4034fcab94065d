-- What a store holds, what a crash leaves of it.
use Rattle.std.specs.Prelude.{Bool, Contains, IsNone, List, None, Option, Some, [], if◌then◌else◌, is_some, nat_le, ℕ, ⊤, ◌==◌, ◌∷◌, ◌≡◌}

-- a value at a height
pub record At (T : Type 0) : Type 0 where
  pub height : ℕ
  pub value : T

-- Held is what a get gives, sure is what every crash leaves, may is all that a crash can leave.
pub record Kept (T : Type 0) : Type 0 where
  pub held : List T
  pub sure : List T
  pub may : List T

-- the value at a height: the first that stands there
abbrev pub value_at : {T : Type 0} → List (At T) → ℕ → Option T
value_at [] h = None
value_at (x ∷ xs) h = if x.height == h then Some x.value else value_at xs h

-- some entry has this height
abbrev pub has_height : {T : Type 0} → List (At T) → ℕ → Bool
has_height xs h = is_some (value_at xs h)

abbrev pub higher_of : {T : Type 0} → At T → Option (At T) → Option (At T)
higher_of x None = Some x
higher_of x (Some y) = if nat_le x.height y.height then Some y else Some x

-- the entry of the greatest height at or below this one
abbrev pub newest_upto : {T : Type 0} → List (At T) → ℕ → Option (At T)
newest_upto [] h = None
newest_upto (x ∷ xs) h = if nat_le x.height h then higher_of x (newest_upto xs h) else newest_upto xs h

-- no height stands twice
abbrev pub EachHeightOnce : {T : Type 0} → List (At T) → Type 0
EachHeightOnce [] = ⊤
EachHeightOnce (x ∷ xs) = IsNone (value_at xs x.height) × EachHeightOnce xs

-- m is what a reopening may find
pub record Reopens {T : Type 0} (sure may m : List (At T)) : Type 0 where
  pub with_sure : (h : ℕ) (v : T) → value_at sure h ≡ Some v → value_at m h ≡ Some v
  pub within_may : (h : ℕ) (v : T) → value_at m h ≡ Some v → Contains may (record { height = h; value = v })
  pub once : EachHeightOnce m

-- a store just reopened on m
abbrev pub reopened_store : {T : Type 0} → List T → Kept T
reopened_store m = record { held = m; sure = m; may = m }
