-- What the gate stands for beside the writes: each batch for some of the uncovered heights, and the deferred height for the rest.
use Rattle.std.specs.List.{AllByRecursion, concat}
use Rattle.std.specs.Prelude.{List, Some, [], length, max, take, ℕ, ⊤, ◌++◌, ◌+◌, ◌-◌, ◌∷◌, ◌≡◌, ◌≤◌}
use Rattle.mar_gate.specs.Gate.{Batch, Gate, IsLeastOf}
use Rattle.mar_gate.specs.declared.writes.OpenSync.{OpenSync}

-- batches are numbered from `first` on, and each has the lowest height of its part
abbrev pub StandFor : ℕ → List (List ℕ) → List Batch → Type 0
StandFor first [] [] = ⊤
StandFor first [] (b ∷ bs) = ⊥
StandFor first (part ∷ parts) [] = ⊥
StandFor first (part ∷ parts) (b ∷ bs) = (b.number ≡ first) × IsLeastOf part (Some b.lowest) × StandFor (first + 1) parts bs

-- An open sync covers the parts of the batches that there were at its start, which are numbered below its number of batches.
abbrev pub Reaches : ℕ → ℕ → List (List ℕ) → OpenSync → Type 0
Reaches covered first parts s = max covered s.position ≡ covered + length (concat (take (s.batches - first) parts))

pub record IsGated (covered : ℕ) (uncovered : List ℕ) (syncs : List OpenSync) (gate : Gate) : Type 0 where
  pub first : ℕ
  pub parts : List (List ℕ)
  pub rest : List ℕ
  pub heights : uncovered ≡ concat parts ++ rest
  pub batches : StandFor first parts gate.inflight
  pub next : gate.next ≡ first + length parts
  pub unsynced : IsLeastOf rest gate.unsynced
  pub reach : AllByRecursion (λ s. (s.batches ≤ gate.next) × Reaches covered first parts s) syncs
