-- Filling free places, one after another.
use Rattle.std.proofs.Common.{List, None, Option, Some, [], ap, arith, inl, inr, length, map, refl, suc, sym, zero, ℕ, ◌++◌, ◌-◌, ◌<◌, ◌∷◌, ◌≡◌, ◌≤◌, ⊎_elim}
use Rattle.std.proofs.lemmas.List.{length_push, map-append}
use Rattle.std.specs.Prelude.{option_map}
use Rattle.mar_key.specs.Places.{Fills, filled}

-- no place is free
pub fills_full : {T W : Type 0} (gives : W → Option T → W → Type 0) (capacity : ℕ) (ready : List T) (waiting : W) → capacity ≤ length ready
    → Fills gives (capacity - length ready) ready waiting ready waiting
fills_full gives capacity ready waiting full = by_room (capacity - length ready) (omega (arith, full))
  where
    by_room : (room : ℕ) → room ≡ 0 → Fills gives room ready waiting ready waiting
    by_room zero none = (refl, refl)
    by_room (suc room) none = absurd (omega (arith, none))

-- nothing is next
pub fills_none : {T W : Type 0} (gives : W → Option T → W → Type 0) (capacity : ℕ) (ready : List T) (waiting rest : W) → length ready < capacity
    → gives waiting None rest → Fills gives (capacity - length ready) ready waiting ready rest
fills_none gives capacity ready waiting rest free none = by_room (capacity - length ready) (omega (arith, free))
  where
    by_room : (room : ℕ) → 0 < room → Fills gives room ready waiting ready rest
    by_room zero some = absurd (omega (arith, some))
    by_room (suc room) some = inr (none, refl)

-- one comes, and then the others
pub fills_one : {T W : Type 0} (gives : W → Option T → W → Type 0) (capacity : ℕ) (ready more : List T) (x : T) (waiting rest : W) (ready' : List T) (waiting' : W)
    → length ready < capacity → more ≡ ready ++ x ∷ [] → gives waiting (Some x) rest
    → Fills gives (capacity - length more) more rest ready' waiting' → Fills gives (capacity - length ready) ready waiting ready' waiting'
fills_one gives capacity ready more x waiting rest ready' waiting' free is some others =
    by_room (capacity - length ready) (capacity - length more) (omega (arith, free, ap length is, length_push ready x)) others
  where
    by_room : (room left : ℕ) → room ≡ suc left → Fills gives left more rest ready' waiting' → Fills gives room ready waiting ready' waiting'
    by_room zero left one h = absurd (omega (arith, one))
    by_room (suc room) left one h =
        let same : room ≡ left = omega (arith, one) in
        inl (x, rest, some, rw (same, ← is) h)

-- where what is next is told by a function of plain data, so is what the places are filled with
pub filled_so : {T W X V : Type 0} (gives : W → Option T → W → Type 0) (plain : T → X) (seen : W → V) (next : V → Option X × V)
    → ((waiting : W) (given : Option T) (rest : W) → gives waiting given rest → next (seen waiting) ≡ (option_map plain given, seen rest))
    → (room : ℕ) (ready : List T) (waiting : W) (ready' : List T) (waiting' : W)
    → Fills gives room ready waiting ready' waiting' → filled next room (map plain ready) (seen waiting) ≡ (map plain ready', seen waiting')
filled_so gives plain seen next told zero ready waiting ready' waiting' h = λ i. (map plain (sym h.0 i), seen (sym h.1 i))
filled_so {T = T} {W = W} gives plain seen next told (suc room) ready waiting ready' waiting' h =
    ⊎_elim
    (λ (o : (x : T) × (rest : W) × gives waiting (Some x) rest × Fills gives room (ready ++ x ∷ []) rest ready' waiting').
    rw (told waiting (Some o.0) o.1 o.2, ← map-append plain ready (o.0 ∷ [])) (filled_so gives plain seen next told room (ready ++ o.0 ∷ []) o.1 ready' waiting' o.3))
    (λ (o : gives waiting None waiting' × (ready' ≡ ready)). rw (told waiting None waiting' o.0) (λ i. (map plain (sym o.1 i), seen waiting')))
    h
