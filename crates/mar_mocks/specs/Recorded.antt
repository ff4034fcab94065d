-- What a store has kept of the calls that it was asked.
use Rattle.std.specs.Prelude.{Err, List, Ok, Result, [], ⊤, ◌++◌, ◌∷◌, ◌⊎◌, ◌≡◌}
use Rattle.mar_store.specs.Lost.{wreck_of}
use Rattle.mar_store.specs.declared.Lost.{Lost}
use Rattle.mar_store.specs.declared.Lost.TheVariants.{Fault, Memory}
use Rattle.mar_store.specs.declared.Miss.{Miss}

-- A read is kept at the end, whatever it answers. Where the list has no room for it, the list stays and there is no value.
abbrev pub KeepsRead : {T Op : Type 0} → Result T Miss → List Op → Op → List Op → Type 0
KeepsRead (Ok v) old op new = new ≡ old ++ op ∷ []
KeepsRead (Err m) old op new = (new ≡ old ++ op ∷ []) ⊎ (new ≡ old)

-- the store is lost for want of memory
abbrev pub IsForgotten : {W : Type 0} → Lost W → Type 0
IsForgotten (Fault w) = ⊥
IsForgotten (Memory w) = ⊤

-- A put is kept at the end, whatever comes of it. Where the list has no room for it, the list stays and memory ran out.
abbrev pub KeepsPut : {S W Op : Type 0} → (S → List Op) → (W → List Op) → List Op → Op → Result S (Lost W) → Type 0
KeepsPut now left old op (Ok s) = now s ≡ old ++ op ∷ []
KeepsPut now left old op (Err l) = (left (wreck_of l) ≡ old ++ op ∷ []) ⊎ ((left (wreck_of l) ≡ old) × IsForgotten l)

-- Any other call keeps the list as it was, whatever comes of it.
abbrev pub KeepsAll : {S W Op : Type 0} → (S → List Op) → (W → List Op) → List Op → Result S (Lost W) → Type 0
KeepsAll now left old (Ok s) = now s ≡ old
KeepsAll now left old (Err l) = left (wreck_of l) ≡ old
