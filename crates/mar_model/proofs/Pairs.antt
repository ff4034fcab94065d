-- The pairs that stored values stand for.
use Rattle.std.proofs.Common.{Bool, List, Some, false, true, [], arith, length, map, refl, ap, ◌++◌, ◌<◌, ◌∷◌, ◌≡◌}
use Rattle.std.proofs.lemmas.List.{length-map, map-append}
use Rattle.mar_store.specs.Values.{LeavesValues, Values, synced_values}
use Rattle.mar_store.specs.Luck.{lucky_values}
use Rattle.mar_model.specs.Metadata.{LeavesPairs, first_pair, lucky_pair, pair_at}
use Rattle.mar_model.proofs.CacheChanges.{map_within}

synced_pairs : (old left : List Values) → 0 < length old → 0 < length left → synced_values left ≡ synced_values old → first_pair (map pair_at left) ≡ first_pair (map pair_at old)
synced_pairs [] left some_old some same = absurd (omega arith)
synced_pairs (v ∷ old) [] some_old some same = absurd (omega arith)
synced_pairs (v ∷ old) (w ∷ left) some_old some same = ap (λ x. first_pair (pair_at x ∷ [])) same

-- what a call that failed leaves, as pairs
pub leaves_pairs : (old more left : List Values) → 0 < length old → LeavesValues old more left → LeavesPairs (map pair_at old) (map pair_at more) (map pair_at left)
leaves_pairs old more left some h = record {
  some = rw length-map h.some;
  synced = synced_pairs old left some h.some h.synced;
  kept = map_within pair_at old left h.kept;
  within = rw (← map-append) (map_within pair_at left (old ++ more) h.within);
}

-- what luck finds of values, as pairs
pub lucky_pair_of : (keeps : Bool) (left : List Values) → 0 < length left → Some (pair_at (lucky_values keeps left)) ≡ lucky_pair keeps (map pair_at left)
lucky_pair_of keeps [] some = absurd (omega (arith, some))
lucky_pair_of true (synced ∷ []) some = refl
lucky_pair_of false (synced ∷ []) some = refl
lucky_pair_of true (synced ∷ failed ∷ others) some = refl
lucky_pair_of false (synced ∷ failed ∷ others) some = refl
