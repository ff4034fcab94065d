-- What contracts see of stores in their places.
use Rattle.std.specs.Prelude.{Bool, Err, List, Ok, Result, [], false, map, true, ⊤, ◌≡◌, ◌⊎◌}
use Rattle.mar_types.specs.Causes.{Rose}
use Rattle.mar_store.specs.Changes.{Left}
use Rattle.mar_store.specs.Kept.{Kept}
use Rattle.mar_store.specs.Values.{Values}
use Rattle.mar_store.specs.Watch.{Strikes, Watch, counted, is_due, unfailing}
use Rattle.mar_store.specs.declared.lost.Lost.{Lost}
use Rattle.mar_store.specs.declared.lost.Lost.TheVariants.{Fault as Broke, Memory as NoRoom}
use Rattle.mar_store.specs.declared.lost.Miss.{Miss}
use Rattle.mar_store.specs.declared.lost.Miss.TheVariants.{Fault as Missed, Memory as Forgot}
use Rattle.mar_model.specs.Metadata.{Pair, Streamed, pair_at}
use Rattle.mar_model.specs.declared.place.Place.{Place}
use Rattle.mar_model.specs.declared.place.Place.TheVariants.{Away, Lost as Gone, Open}

-- the store is there
abbrev pub is_open : {S W : Type 0} → Place S W → Bool
is_open (Open s) = true
is_open _ = false

-- of a store that is lost nothing is held, and a crash leaves what is left of it
abbrev pub kept_at : {S W T : Type 0} → (S → Kept T) → (W → Left T) → Place S W → Kept T
kept_at stored left (Open s) = stored s
kept_at stored left (Gone w) = record { held = []; sure = (left w).sure; may = (left w).may }
kept_at stored left Away = record { held = []; sure = []; may = [] }

abbrev pub watch_at : {S W : Type 0} → (S → Watch) → (W → Watch) → Place S W → Watch
watch_at of left (Open s) = of s
watch_at of left (Gone w) = left w
watch_at of left Away = unfailing

-- the store is there, or what is left of it
abbrev pub is_there : {S W : Type 0} → Place S W → Bool
is_there Away = false
is_there _ = true

-- what a crash can leave of the processed height and the cutoff
abbrev pub pairs_at : {W : Type 0} → (W → List Values) → Place Streamed W → List Pair
pairs_at left (Open s) = s.left
pairs_at left (Gone w) = map pair_at (left w)
pairs_at left Away = []

-- where the stream is there it reads this pair
abbrev pub Reads : {W : Type 0} → Place Streamed W → Pair → Type 0
Reads (Open s) pair = s.pair ≡ pair
Reads (Gone w) pair = ⊤
Reads Away pair = ⊥

-- A call in place that isn't counted answers no fault where only armed calls fail; want of memory may come at any time.
abbrev pub IsCalmOn : {T : Type 0} → Watch → Watch → Result T Miss → Type 0
IsCalmOn old now (Ok x) = now ≡ old
IsCalmOn old now (Err Missed) = Rose old.faults now.faults × (old.only_armed ≡ true → ⊥) × (now ≡ record old { faults = now.faults })
IsCalmOn old now (Err Forgot) = now ≡ old

-- A sync in place is counted as any call, but where all is durable already it does nothing.
abbrev pub HeedsOrIdlesOn : {T : Type 0} → Watch → Watch → Result T Miss → Type 0
HeedsOrIdlesOn old now (Ok x) = (now ≡ old) ⊎ ((is_due old.due ≡ false) × (now ≡ counted old))
HeedsOrIdlesOn old now (Err Missed) = Strikes old now
HeedsOrIdlesOn old now (Err Forgot) = (now ≡ old) ⊎ ((is_due old.due ≡ false) × (now ≡ counted old))

-- why a store is lost
abbrev pub why_lost : {W : Type 0} → Lost W → Miss
why_lost (Broke w) = Missed
why_lost (NoRoom w) = Forgot
