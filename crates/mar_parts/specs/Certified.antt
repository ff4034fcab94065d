-- Commitments that are known as certified.
use Rattle.std.specs.List.{flat_map, list_any}
use Rattle.std.specs.Map.{lookup}
use Rattle.std.specs.Option.{unwrap_or}
use Rattle.std.specs.Prelude.{Bool, List, None, Option, Some, [], bytes_eq, map, ℕ, ◌==◌}
use Rattle.std.specs.declared.vec.Vec.{Vec}
use Rattle.mar_model.specs.Node.{CertifiedCommitment}

-- What contracts see of the commitments that are known: those of each height, and the least height that is kept.
pub record Certified (C : Type 0) : Type 0 where
  pub commitments : List (ℕ × List C)
  pub min : ℕ

-- the commitments that are known at a height
abbrev pub known_at : {C : Type 0} → Certified C → ℕ → List C
known_at s h = unwrap_or (lookup (λ k. k == h) s.commitments) []

-- a commitment of these bytes is among some
abbrev pub is_listed : {C : Type 0} → (C → List ℕ) → List C → List ℕ → Bool
is_listed bytes known commitment = list_any (λ c. bytes_eq (bytes c) commitment) known

-- this commitment is known as certified at this height
abbrev pub is_known : {C : Type 0} → (C → List ℕ) → Certified C → ℕ → List ℕ → Bool
is_known bytes s h commitment = is_listed bytes (known_at s h) commitment

-- every known commitment with its height: for each height that has some, those that are known there
abbrev pub known_list : {C : Type 0} → (C → List ℕ) → Certified C → List CertifiedCommitment
known_list bytes s = flat_map (λ e. map (λ c. record { height = e.0; commitment = bytes c }) (known_at s e.0)) s.commitments

-- the lists of commitments as contracts see them, by height
abbrev pub by_height : {C Z : Type 0} → List (ℕ × Vec C Z) → List (ℕ × List C)
by_height lists = map (λ e. (e.0, e.1.items)) lists

-- the commitments of a height, which has none where it has no list
abbrev pub listed : {C Z : Type 0} → Option (Vec C Z) → List C
listed None = []
listed (Some known) = known.items
