-- What the calls of a store change, over what it holds and what a crash leaves of it.
use Rattle.std.specs.Prelude.{◌≡◌, ◌≤◌, ◌⊎◌, ℕ, List, [], ◌∷◌, ◌++◌, Some, Bool, if◌then◌else◌, Contains, filter, length, map, nat_le, take}
use Rattle.mar_store.specs.Kept.{At, Kept, value_at, EachHeightOnce, Reopens, reopened_store}

-- what is left of a store: what every crash leaves, and all that a crash can leave
pub record Left (T : Type 0) : Type 0 where
  pub sure : List T
  pub may : List T

-- each value of the first list is in the second
abbrev pub Within : {T : Type 0} → List T → List T → Type 0
Within xs ys = (x : _) → Contains xs x → Contains ys x

-- each value that stands at a height of the first list stands there in the second
abbrev pub KeepsValues : {T : Type 0} → List (At T) → List (At T) → Type 0
KeepsValues xs ys = (h : ℕ) (v : _) → value_at xs h ≡ Some v → value_at ys h ≡ Some v

-- A put is held at once, unless it is ignored; it is not yet sure. What might be left may still be left.
pub record Puts {T : Type 0} (ignored : Bool) (old : Kept (At T)) (x : At T) (new : Kept (At T)) : Type 0 where
  pub held : new.held ≡ (if ignored then old.held else old.held ++ x ∷ [])
  pub sure : new.sure ≡ old.sure
  pub may_kept : Within old.may new.may
  pub may : Within new.may (old.may ++ x ∷ [])

-- A sync that finished makes sure all that is held, and nothing else may be left.
pub record Syncs {T : Type 0} (old new : Kept (At T)) : Type 0 where
  pub held : new.held ≡ old.held
  pub sure : new.sure ≡ old.held
  pub may : Within new.may old.held

-- A call that failed leaves what was sure and what might be left, and nothing new but what it was to write.
pub record Fails {T : Type 0} (old : Left (At T)) (more : List (At T)) (left : Left (At T)) : Type 0 where
  pub sure : left.sure ≡ old.sure
  pub may_kept : Within old.may left.may
  pub may : Within left.may (old.may ++ more)

abbrev pub left_of : {T : Type 0} → Kept T → Left T
left_of kept = record { sure = kept.sure; may = kept.may }

-- What is left is what was left, or that with one more value behind it.
abbrev pub IsStillOr : {T : Type 0} → Left (At T) → At T → Left (At T) → Type 0
IsStillOr old x left = (left ≡ old) ⊎ (left ≡ record { sure = old.sure; may = old.may ++ x ∷ [] })

-- what is left of a put that was written as its call failed: the value behind the others, unless it is ignored
abbrev pub left_put : {T : Type 0} → Bool → Left (At T) → At T → Left (At T)
left_put ignored old x = if ignored then old else record { sure = old.sure; may = old.may ++ x ∷ [] }

-- A reopening finds one list with all that was sure, of what may be left.
pub record IsReopened {T : Type 0} (old : Left (At T)) (new : Kept (At T)) : Type 0 where
  pub found : List (At T)
  pub found_may : Reopens old.sure old.may found
  pub is : new ≡ reopened_store found

-- No height stands twice; what is sure is held, and what is held may be left.
pub record IsNested {T : Type 0} (kept : Kept (At T)) : Type 0 where
  pub once : EachHeightOnce kept.held
  pub sure_once : EachHeightOnce kept.sure
  pub sure_held : KeepsValues kept.sure kept.held
  pub held_may : Within kept.held kept.may

-- the heights in a list
abbrev pub heights : {T : Type 0} → List (At T) → List ℕ
heights xs = map (λ x. x.height) xs

-- Values at or above a bound stay, and nothing comes.
pub record KeepsFrom {T : Type 0} (min : ℕ) (old new : List (At T)) : Type 0 where
  pub from : (h : ℕ) (v : T) → min ≤ h → value_at old h ≡ Some v → value_at new h ≡ Some v
  pub only : KeepsValues new old

-- A prune keeps all at or above its bound. What it removes may still be left.
pub record Prunes {T : Type 0} (min : ℕ) (old new : Kept (At T)) : Type 0 where
  pub held : KeepsFrom min old.held new.held
  pub sure : KeepsFrom min old.sure new.sure
  pub may_from : (x : At T) → Contains old.may x → min ≤ x.height → Contains new.may x
  pub may : Within new.may old.may

-- A sync that finished makes sure what it covers, and nothing more. Where that is sure it changes nothing.
pub record Finishes {T : Type 0} (more : List (At T)) (old new : Kept (At T)) : Type 0 where
  pub held : new.held ≡ old.held
  pub sure : KeepsValues old.sure new.sure
  pub covered : KeepsValues more new.sure
  pub only : (h : ℕ) (v : T) → value_at new.sure h ≡ Some v → (value_at old.sure h ≡ Some v) ⊎ (value_at more h ≡ Some v)
  pub may : Within new.may old.may
  pub same : KeepsValues more old.sure → new ≡ old

-- the second list begins with the first
abbrev pub BeginsWith : {T : Type 0} → List T → List T → Type 0
BeginsWith front whole = take (length front) whole ≡ front

-- Just what is held may be left, in the order of the puts, and what is sure stands in front of the rest.
pub record IsQueue {T : Type 0} (kept : Kept (At T)) : Type 0 where
  pub may : kept.may ≡ kept.held
  pub front : BeginsWith kept.sure kept.held

-- the values at or above a bound, in their order
abbrev pub from_bound : {T : Type 0} → ℕ → List (At T) → List (At T)
from_bound min xs = filter (λ x. nat_le min x.height) xs

-- a store of which a prune took out all below its bound, and nothing else
abbrev pub pruned_store : {T : Type 0} → ℕ → Kept (At T) → Kept (At T)
pruned_store min kept = record { held = from_bound min kept.held; sure = from_bound min kept.sure; may = from_bound min kept.may }
