-- What stands under the names of a depot, and what its calls change of it.
use Rattle.std.specs.Prelude.{Bool, IsSomeAnd, IsTrue, MatchOption, None, Option, [], if◌then◌else◌, length, option_map, ℕ, ◌<◌, ◌==◌, ◌∷◌, ◌≡◌, ◌≢◌, ◌⊎◌}
use Rattle.std.proofs.Common.{arith}
use Rattle.std.specs.Ordering.{nat_cmp}
use Rattle.std.specs.BTreeMap.{BTreeMap, get}

-- what stands under each name that there is
abbrev pub Names : Type 0 → Type 0
Names T = ℕ → Option T

abbrev pub names_of : {T : Type 0} → BTreeMap ℕ T → Names T
names_of m name = get nat_cmp m name

-- under each name stands what stood there
abbrev pub KeepsNames : {T : Type 0} → Names T → Names T → Type 0
KeepsNames old new = (k : ℕ) → new k ≡ old k

-- the same, but under one name
abbrev pub KeepsOthers : {T : Type 0} → Names T → ℕ → Names T → Type 0
KeepsOthers old name new = (k : ℕ) → k ≢ name → new k ≡ old k

-- under one name that stands, or nothing; under each other name the same
abbrev pub SetsName : {T : Type 0} → Names T → ℕ → Option T → Names T → Type 0
SetsName old name content new = (k : ℕ) → new k ≡ (if k == name then content else old k)

-- An opening hands out what stood under a name, or an empty one; the name stands from then on, with an empty one.
pub record Opens {T : Type 0} (is_empty : T → Bool) (old : Names T) (name : ℕ) (given : T) (new : Names T) : Type 0 where
  pub handed : MatchOption (old name) (IsTrue (is_empty given)) (λ content. given ≡ content)
  pub stands : IsSomeAnd (new name) (λ content. IsTrue (is_empty content))
  pub others : KeepsOthers old name new

-- What was handed out stands under its name again, where there is that name.
abbrev pub Closes : {T : Type 0} → Names T → ℕ → T → Names T → Type 0
Closes old name content new = (k : ℕ) → new k ≡ (if k == name then option_map (λ other. content) (old k) else old k)

-- A name was added, with an empty one.
pub record Adds {T : Type 0} (is_empty : T → Bool) (old : Names T) (name : ℕ) (new : Names T) : Type 0 where
  pub lacked : old name ≡ None
  pub stands : IsSomeAnd (new name) (λ content. IsTrue (is_empty content))
  pub others : KeepsOthers old name new

-- What an opening that failed leaves: what was there, or that with the name.
abbrev pub IsOpenedOrNot : {T : Type 0} → (T → Bool) → Names T → ℕ → Names T → Type 0
IsOpenedOrNot is_empty old name new = KeepsNames old new ⊎ Adds is_empty old name new

-- What a removal that failed leaves: what was there, or that without the name.
abbrev pub IsDestroyedOrNot : {T : Type 0} → Names T → ℕ → Names T → Type 0
IsDestroyedOrNot old name new = KeepsNames old new ⊎ SetsName old name None new

pub one_left : {T : Type 0} (names : Names T) → 0 < length (names ∷ [])
one_left names = omega arith
