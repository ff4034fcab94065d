-- Maps of the code as values, and what is left of a store in memory.
use Rattle.std.specs.Prelude.{List, None, Option, Some, [], length, ℕ, ◌<◌, ◌∷◌}
use Rattle.std.proofs.Common.{arith}
use Rattle.std.specs.Ordering.{nat_cmp}
use Rattle.std.specs.BTreeMap.{BTreeMap, get}
use Rattle.mar_store.specs.Values.{Values}

abbrev pub values_of : BTreeMap ℕ ℕ → Values
values_of m key = get nat_cmp m key

-- the synced map, and after it that of a sync that failed
abbrev pub left_with : BTreeMap ℕ ℕ → Option (BTreeMap ℕ ℕ) → List Values
left_with synced None = values_of synced ∷ []
left_with synced (Some failed) = values_of synced ∷ values_of failed ∷ []

pub some_left : (synced : BTreeMap ℕ ℕ) (failed : Option (BTreeMap ℕ ℕ)) → 0 < length (left_with synced failed)
some_left synced None = omega arith
some_left synced (Some failed) = omega arith
