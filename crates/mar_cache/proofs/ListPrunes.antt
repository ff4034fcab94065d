-- A prune by view, seen over all epochs.
use Rattle.std.proofs.Common.{◌≡◌, inl, inr, ◌<◌, ◌==◌, ◌&&◌, ◌||◌, nat_lt, not, ℕ, zero, suc, List, [], ◌∷◌, Bool, true, false, Contains, cond, refl, ap, ap₂, sym, subst, filter, arith, ◌∙◌}
use Rattle.std.proofs.lemmas.Bool.{cases_lt, le-ltb, lt-ltb, ne_eqb}
use Rattle.mar_types.specs.Round.{Round, round_lt}
use Rattle.mar_model.specs.Cached.{Cached, certified_entry, epoch_of, finalization_entry, notarization_entry, notarized_entry, verified_entry}
use Rattle.mar_model.specs.Cache.{is_below}
use Rattle.mar_cache.specs.AsOne.{up_to}
use Rattle.mar_cache.proofs.EpochLists.{filter_up_to, up_to_same}

-- WHAT A ROUND PRUNES

below_older : (s p : Round) → s.epoch < p.epoch → round_lt s p ≡ true
below_older s p less = ap (λ b. b || (s.epoch == p.epoch && nat_lt s.view p.view)) (lt-ltb s.epoch p.epoch less)

above_newer : (s p : Round) → p.epoch < s.epoch → round_lt s p ≡ false
above_newer s p less = ap₂ (λ b c. b || (c && nat_lt s.view p.view)) (le-ltb s.epoch p.epoch (omega (arith, less))) (ne_eqb s.epoch p.epoch (λ same. omega (arith, same, less)))

-- what stands in an older epoch
pub older_below : (p : Round) (x : Cached) → epoch_of x < p.epoch → is_below p x ≡ true
older_below p (finalization_entry f) less = below_older f.round p less
older_below p (verified_entry r b) less = below_older r p less
older_below p (notarized_entry r b) less = below_older r p less
older_below p (certified_entry e b) less = lt-ltb e p.epoch less
older_below p (notarization_entry n) less = below_older n.round p less

pub newer_stays : (p : Round) (x : Cached) → p.epoch < epoch_of x → is_below p x ≡ false
newer_stays p (finalization_entry f) less = above_newer f.round p less
newer_stays p (verified_entry r b) less = above_newer r p less
newer_stays p (notarized_entry r b) less = above_newer r p less
newer_stays p (certified_entry e b) less = le-ltb e p.epoch (omega (arith, less))
newer_stays p (notarization_entry n) less = above_newer n.round p less

pub filter_none : {T : Type 0} (test : T → Bool) (xs : List T) → ((x : T) → Contains xs x → test x ≡ false) → filter test xs ≡ []
filter_none test [] none = refl
filter_none {T} test (x ∷ xs) none = ap (λ b. cond b (x ∷ filter test xs) (filter test xs)) (none x (zero, omega arith, refl)) ∙ filter_none test xs (λ y (k, lt, is). none y (suc k, omega (arith, lt), is))

filter_all : {T : Type 0} (test : T → Bool) (xs : List T) → ((x : T) → Contains xs x → test x ≡ true) → filter test xs ≡ xs
filter_all test [] all = refl
filter_all {T} test (x ∷ xs) all = ap (λ b. cond b (x ∷ filter test xs) (filter test xs)) (all x (zero, omega arith, refl)) ∙ ap (λ ys. x ∷ ys) (filter_all test xs (λ y (k, lt, is). all y (suc k, omega (arith, lt), is)))

-- older epochs are gone, in its own what stands below the round, and newer ones are as they were
pub prunes_all : (p : Round) (old new : ℕ → List Cached) (h j : ℕ) → ((k : ℕ) (y : Cached) → Contains (old k) y → epoch_of y ≡ k)
    → new p.epoch ≡ filter (λ x. not (is_below p x)) (old p.epoch) → ((k : ℕ) → p.epoch < k → new k ≡ old k) → ((k : ℕ) → k < p.epoch → new k ≡ [])
    → up_to new h ≡ filter (λ x. not (is_below p x)) (up_to old h)
prunes_all p old new h j own here newer older = up_to_same new (λ k. filter (λ x. not (is_below p x)) (old k)) h (λ k within. each k) ∙ sym (filter_up_to (λ x. not (is_below p x)) old h)
  where
    each : (k : ℕ) → new k ≡ filter (λ x. not (is_below p x)) (old k)
    each k = elim (cases_lt k p.epoch) [
      | inl less ↦ older k less ∙ sym (filter_none (λ x. not (is_below p x)) (old k) (λ x has. ap not (older_below p x (omega (arith, less, own k x has)))))
      | inr from ↦ elim (cases_lt p.epoch k) [
        | inl above ↦ newer k above ∙ sym (filter_all (λ x. not (is_below p x)) (old k) (λ x has. ap not (newer_stays p x (omega (arith, above, own k x has)))))
        | inr to ↦ let same : p.epoch ≡ k = omega (arith, from, to) in subst (λ i. new i ≡ filter (λ x. not (is_below p x)) (old i)) same here
      ]
    ]
