-- What is left of a store that is lost.
use Rattle.std.specs.Prelude.{Bool, false, ⊤, ◌≡◌}
use Rattle.mar_store.specs.Kept.{At}
use Rattle.mar_store.specs.Changes.{Left, left_put}
use Rattle.mar_store.specs.declared.lost.Lost.{Lost}
use Rattle.mar_store.specs.declared.lost.Lost.TheVariants.{Fault, Memory}

-- what is left of a lost store
abbrev pub wreck_of : {W : Type 0} → Lost W → W
wreck_of (Fault w) = w
wreck_of (Memory w) = w

-- What a put that failed leaves, where luck is told: at a fault just what it was to write, unless memory ran out over that.
abbrev pub LeavesPut : {T W : Type 0} → (W → Left (At T)) → (W → Bool) → Bool → Left (At T) → At T → Lost W → Type 0
LeavesPut left short ignored old x (Fault w) = short w ≡ false → left w ≡ left_put ignored old x
LeavesPut left short ignored old x (Memory w) = ⊤
