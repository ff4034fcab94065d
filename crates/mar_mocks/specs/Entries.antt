-- Values under keys, as the list of their entries.
use Rattle.std.specs.Prelude.{List, Option, Some, if◌then◌else◌, ◌≡◌}
use Rattle.std.specs.Map.{lookup}
use Rattle.std.specs.Ordering.{is_eq}
use Rattle.std.specs.declared.cmp.Ordering.{Ordering}

-- the value under a key
abbrev pub value_of : {K V : Type 0} → (K → K → Ordering) → List (K × V) → K → Option V
value_of cmp entries key = lookup (λ k. is_eq (cmp key k)) entries

-- the value stands under its key, and each other key has what it had
abbrev pub HasPut : {K V : Type 0} → (K → K → Ordering) → List (K × V) → K → V → List (K × V) → Type 0
HasPut {K} cmp old key value new = (k : K)
    → value_of cmp new k ≡ (if is_eq (cmp key k) then Some value else value_of cmp old k)
