-- How the free places of a queue are filled with what waits behind them.
use Rattle.std.specs.Prelude.{Bool, List, None, Option, Some, [], if◌then◌else◌, length, nat_lt, suc, zero, ℕ, ◌&&◌, ◌++◌, ◌∷◌, ◌≡◌, ◌⊎◌}

-- a message enters the ready list where nothing waits and a place is free
abbrev pub has_room : {T : Type 0} → Bool → ℕ → List T → Bool
has_room nothing_waits capacity ready = nothing_waits && nat_lt (length ready) capacity

-- of those that wait the first that is kept, and those behind it
abbrev pub next_kept : {T : Type 0} → (T → Bool) → List T → Option T × List T
next_kept keeps [] = (None, [])
next_kept keeps (x ∷ xs) = if keeps x then (Some x, xs) else next_kept keeps xs

abbrev pub fill_with : {T W : Type 0} → List T → Option T × W → (List T → W → List T × W) → List T × W
fill_with ready given others = elim given.0 [ None ↦ (ready, given.1) | Some x ↦ others (ready ++ x ∷ []) given.1 ]

-- so many free places, each filled with what `next` gives, until it gives none
abbrev pub filled : {T W : Type 0} → (W → Option T × W) → ℕ → List T → W → List T × W
filled next zero ready waiting = (ready, waiting)
filled next (suc room) ready waiting = fill_with ready (next waiting) (λ more rest. filled next room more rest)

-- the same by a relation: `gives` says what is next of what waits, and what waits then
abbrev pub Fills : {T W : Type 0} → (W → Option T → W → Type 0) → ℕ → List T → W → List T → W → Type 0
Fills gives zero ready waiting ready' waiting' = (ready' ≡ ready) × (waiting' ≡ waiting)
Fills {T = T} {W = W} gives (suc room) ready waiting ready' waiting' =
    ((x : T) × (rest : W) × gives waiting (Some x) rest × Fills gives room (ready ++ x ∷ []) rest ready' waiting')
    ⊎ (gives waiting None waiting' × (ready' ≡ ready))
