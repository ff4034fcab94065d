-- Entries in the order of their puts: what is held and sure of them, and what a ticket covers.
use Rattle.std.specs.Prelude.{Bool, List, [], filter, map, min, nat_le, nat_lt, take, true, ℕ, ⊤, ◌+◌, ◌==◌, ◌∷◌, ◌≡◌, ◌||◌}
use Rattle.std.specs.List.{AllByRecursion}
use Rattle.mar_store.specs.Kept.{At, Kept}
use Rattle.mar_store.specs.Tickets.{last_number}
use Rattle.mar_store.specs.declared.entry.Entry.{Entry}

-- an entry as it is seen
abbrev pub seen : {T : Type 0} → Entry T → At T
seen e = record { height = e.index; value = e.item }

-- entries of which so many are sure
abbrev pub kept_of : {T : Type 0} → List (Entry T) → ℕ → Kept (At T)
kept_of items synced = record { held = map seen items; sure = take synced (map seen items); may = map seen items }

-- whether the ticket of a number covers an entry: it was put before; the last number covers all
abbrev pub is_covered : {T : Type 0} → ℕ → Entry T → Bool
is_covered t e = nat_lt e.number t || t == last_number

abbrev pub covered_by : {T : Type 0} → List (Entry T) → ℕ → List (At T)
covered_by items t = map seen (filter (is_covered t) items)

-- the number that the next entry gets; it stops at the last one
abbrev pub next_number : ℕ → ℕ
next_number n = min (n + 1) last_number

-- no number is below one before it
abbrev pub Ascend : {T : Type 0} → List (Entry T) → Type 0
Ascend [] = ⊤
Ascend (e ∷ es) = AllByRecursion (λ f. nat_le e.number f.number ≡ true) es × Ascend es

-- no number is above this one
abbrev pub AreUpto : {T : Type 0} → ℕ → List (Entry T) → Type 0
AreUpto n items = AllByRecursion (λ e. nat_le e.number n ≡ true) items

-- the ticket of this number covers all
abbrev pub AreCounted : {T : Type 0} → ℕ → List (Entry T) → Type 0
AreCounted n items = AllByRecursion (λ e. is_covered n e ≡ true) items

-- each value may stand at its index
abbrev pub AreFitting : {T : Type 0} → (ℕ → T → Bool) → List (At T) → Type 0
AreFitting fits xs = AllByRecursion (λ x. fits x.height x.value ≡ true) xs
