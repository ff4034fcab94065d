-- What a started sync will make sure, by the number of its ticket.
use Rattle.std.specs.Prelude.{List, ℕ, ◌-◌, ◌<◌, ◌^◌, ◌≡◌, ◌≤◌}
use Rattle.mar_store.specs.Kept.{At}
use Rattle.mar_store.specs.Changes.{KeepsFrom}

-- where ticket numbers stop
abbrev pub last_number : ℕ
last_number = 2 ^ 64 - 1

-- Each earlier ticket covers what it covered, but one that stands at the last number.
abbrev pub KeepsCovers : {T : Type 0} → ℕ → (ℕ → List (At T)) → (ℕ → List (At T)) → Type 0
KeepsCovers number old new = (t : ℕ) → t ≤ number → t < last_number → new t ≡ old t

-- Of what each ticket covers, the same stays at or above a bound.
abbrev pub KeepsCoversFrom : {T : Type 0} → ℕ → ℕ → (ℕ → List (At T)) → (ℕ → List (At T)) → Type 0
KeepsCoversFrom min number old new = (t : ℕ) → t ≤ number → KeepsFrom min (old t) (new t)
