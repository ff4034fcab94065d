use Rattle.std.proofs.Common.{◌≡◌, ◌≤◌, ◌-◌, ℕ, take, length}
use Rattle.std.specs.Prelude.{bytes_eq, ◌==◌}
use Rattle.mar_store.specs.Choices.{chosen, stays}
use Rattle.std.specs.Ordering.{nat_cmp}
use Rattle.std.specs.BTreeMap.{get}
use Rattle.mar_types.specs.Places.{first_place}
use Rattle.mar_store.proofs.survey.places_from.Given as goal

abbrev pub decreases-loop-place : goal.decreases-loop-place
decreases-loop-place g l = length l.items - l.place

abbrev pub invariant-loop-place : goal.invariant-loop-place
invariant-loop-place g l = record {
  within : l.place ≤ length l.items;
  below : l.count ≤ l.place;
  count : l.count ≡ length (chosen (stays l.choice) 0 (take l.place l.items));
  indexes : (h : ℕ) → get nat_cmp l.places.by_index h ≡ first_place (λ e. e.index == h) (chosen (stays l.choice) 0 (take l.place l.items));
  keys : (k : _) → get g.T.Key.Ord.cmp l.places.by_key k ≡ first_place (λ e. bytes_eq (g.T.Item.name e.item) (g.T.Key.Named.bytes k)) (chosen (stays l.choice) 0 (take l.place l.items));
}
