-- A wait as the definitions see it.
use Rattle.std.specs.Prelude.{List, option_map, ℕ}
use Rattle.mar_key.specs.declared.subscription.Subscription.{Subscription}
use Rattle.mar_parts.specs.Waits.{Wait}
use Rattle.mar_parts.specs.declared.waiters.Waiting.{Waiting}

-- the bytes of the name of which a buffer has promised to tell
abbrev pub name_of : {K : Type 0} → (K → List ℕ) → Subscription K → List ℕ
name_of bytes s = bytes s.name

abbrev pub wait_of : {S : Type 0} → (S → List ℕ) → Waiting S → Wait
wait_of name w = record { tickets = w.tickets.items; promise = option_map name w.subscription }
