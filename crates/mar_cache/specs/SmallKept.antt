-- As what may be left of each epoch is small enough for a store, so is that of all together.
use Rattle.std.specs.Prelude.{Contains, List, [], suc, zero, ℕ, ◌∷◌}
use Rattle.std.proofs.Common.{inl, inr, arith, refl}
use Rattle.std.proofs.lemmas.List.Elements.{Contains-append_cases}
use Rattle.mar_model.specs.SmallEntries.{AreSmallEntries}
use Rattle.mar_epochs.specs.EpochStates.{EpochStates, may_in}
use Rattle.mar_epochs.specs.SmallStates.{AreSmallEpochs, small_none}
use Rattle.mar_cache.specs.AsOne.{kept_of, may_of_some, up_to}
use Rattle.mar_cache.specs.Nested.{of_up_to}

pub small_kept : (states : EpochStates) (h : ℕ) → AreSmallEpochs states → AreSmallEntries (kept_of states h).may
small_kept states h small x has = let (k, within, found) = of_up_to (λ k. may_in (states k)) h x has in small k x found

-- in each way in which epochs may be left
pub small_left : (ways : List EpochStates) (h : ℕ) → ((states : EpochStates) → Contains ways states → AreSmallEpochs states) → AreSmallEntries (may_of_some ways h)
small_left [] h small x has = small_none x has
small_left (way ∷ []) h small x has = small_kept way h (small way (zero, omega arith, refl)) x has
small_left (way ∷ other ∷ ways) h small x has = elim (Contains-append_cases (up_to (λ k. may_in (way k)) h) (may_of_some (other ∷ ways) h) x has) [
  | inl here ↦ small_kept way h (small way (zero, omega arith, refl)) x here
  | inr there ↦ small_left (other ∷ ways) h (λ states (n, less, is). small states (suc n, omega (arith, less), is)) x there
]
