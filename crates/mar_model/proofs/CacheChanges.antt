-- What a change of the cache of a life leaves, since some start.
use Rattle.std.proofs.Common.{◌≡◌, ◌⊎◌, inl, inr, map, ⊎_elim, ℕ, List, [], ◌∷◌, Bool, true, false, ◌||◌, Contains, IsTrue, subst, ap, ◌∙◌, refl, zero, suc, arith}
use Rattle.std.specs.List.{list_any}
use Rattle.std.proofs.lemmas.Bool.{or_right}
use Rattle.std.proofs.lemmas.List.Elements.{Contains-append_cases, Contains-append_right}
use Rattle.mar_types.specs.Round.{Round}
use Rattle.mar_store.specs.Changes.{Left, Within, left_of}
use Rattle.mar_store.specs.Kept.{Kept}
use Rattle.mar_store.specs.Watch.{Watch}
use Rattle.mar_model.specs.AllEntries.{LeavesEntries}
use Rattle.mar_model.specs.Cache.{is_below}
use Rattle.mar_model.specs.Cached.{Cached}
use Rattle.mar_model.specs.Faults.{Fault, cache_store}
use Rattle.mar_model.specs.Held.{Grew, Held, HeldCache, LeavesCache, Loses, Passes, WithinWritten, Written, ended_of}
use Rattle.mar_model.proofs.Passing.{ArePassed-store, ArePassed-then, FailsBy-store, FailsBy-then}
use Rattle.mar_model.proofs.StoredValues.{any_place}
use Rattle.mar_model.proofs.StoreLosses.{IsHow}

-- A call that was to put and to prune so much, and what it leaves: what was sure and isn't pruned is sure, and no more may be
-- left; the lowest epoch is one that it might be, or a prune's.
pub record ChangesCache (written : Written) (old : Kept Cached) (lowests : List ℕ) (left : Left Cached) (now : List ℕ) : Type 0 where
  pub gone : Cached → Bool
  pub pruned : (x : Cached) → gone x ≡ true → list_any (λ r. is_below r x) written.prunes ≡ true
  pub leaves : LeavesEntries written.cached gone old left.sure left.may
  pub lowest : (k : ℕ) → Contains now k → Contains lowests k ⊎ Contains (map (λ r. r.epoch) written.prunes) k

-- what passes a test of these passes it of more
any_more : {T : Type 0} (test : T → Bool) (ys : List T) (x : T) → Contains ys x → test x ≡ true → list_any test ys ≡ true
any_more test [] x (k, lt, is) passes = absurd (omega (arith, lt))
any_more test (y ∷ ys) x (zero, lt, is) passes = ap (λ c. c || list_any test ys) (ap test is ∙ passes)
any_more test (y ∷ ys) x (suc k, lt, is) passes = or_right (test y) (list_any test ys) (any_more test ys x (k, omega (arith, lt), is) passes)

pub any_within : {T : Type 0} (test : T → Bool) (xs ys : List T) → Within xs ys → list_any test xs ≡ true → list_any test ys ≡ true
any_within test xs ys within any = let (x, there, passes) = any_place test xs any in any_more test ys x (within x there) passes

mapped : {T S : Type 0} (f : T → S) (ys : List T) (x : T) → Contains ys x → Contains (map f ys) (f x)
mapped f [] x (k, lt, is) = absurd (omega (arith, lt))
mapped f (y ∷ ys) x (zero, lt, is) = (zero, omega arith, ap f is)
mapped f (y ∷ ys) x (suc k, lt, is) = let (j, under, same) = mapped f ys x (k, omega (arith, lt), is) in (suc j, omega (arith, under), same)

pub map_within : {T S : Type 0} (f : T → S) (xs ys : List T) → Within xs ys → Within (map f xs) (map f ys)
map_within f [] ys within y (k, lt, is) = absurd (omega (arith, lt))
map_within f (x ∷ xs) ys within y (zero, lt, is) = subst (Contains (map f ys)) is (mapped f ys x (within x (zero, omega arith, refl)))
map_within f (x ∷ xs) ys within y (suc k, lt, is) = map_within f xs ys (λ z (j, under, same). within z (suc j, omega (arith, under), same)) y (k, omega (arith, lt), is)

module _ (start : Held) (all : Written) (old : Held) (grew : Grew start all old) (written : Written) (within : WithinWritten written all) where
  changed : (left : Left Cached) (now : List ℕ) → ChangesCache written old.cache.kept old.lowests left now → LeavesCache (left_of start.cache.kept) start.lowests all.cached all.prunes left now
  changed left now changes = record {
    sure = λ x has. ⊎_elim (λ stays. by x (changes.gone x) refl stays) (λ goes. inr goes) (grew.leaves.cache.sure x has);
    may = λ x has. ⊎_elim (λ before. grew.leaves.cache.may x before) (λ put. Contains-append_right start.cache.kept.may all.cached x (within.cached x put)) (Contains-append_cases old.cache.kept.may written.cached x (changes.leaves.within x has));
    lowest = λ k has. ⊎_elim (λ before. grew.leaves.cache.lowest k before) (λ new. Contains-append_right start.lowests (map (λ r. r.epoch) all.prunes) k (map_within (λ (r : Round). r.epoch) written.prunes all.prunes within.prunes k new)) (changes.lowest k has);
  }
    where
      by : (x : Cached) (c : Bool) → changes.gone x ≡ c → Contains old.cache.kept.sure x → Contains left.sure x ⊎ IsTrue (list_any (λ r. is_below r x) all.prunes)
      by x true is has = inr (any_within (λ r. is_below r x) written.prunes all.prunes within.prunes (changes.pruned x is))
      by x false is has = inl (changes.leaves.stays x has is)

  -- it went well
  pub Grew-cached : (cache : HeldCache) (lowest : ℕ) (lowests : List ℕ) (w : Watch) → ChangesCache written old.cache.kept old.lowests (left_of cache.kept) lowests → Passes old.watches.cache w → Grew start all (record old { cache = cache; lowest = lowest; lowests = lowests; watches = record old.watches { cache = w } })
  Grew-cached cache lowest lowests w changes passes = record {
    leaves = record {
      blocks = grew.leaves.blocks;
      certs = grew.leaves.certs;
      pairs = grew.leaves.pairs;
      cache = changed (left_of cache.kept) lowests changes;
    };
    blocks = grew.blocks;
    certs = grew.certs;
    passed = ArePassed-then start.watches old.watches (record old.watches { cache = w }) grew.passed (ArePassed-store old.watches cache_store w passes);
  }

  -- or it failed
  pub Loses-cache : (left : Left Cached) (lowests : List ℕ) (fault : Fault) (w : Watch) → ChangesCache written old.cache.kept old.lowests left lowests → IsHow cache_store old.watches.cache fault w → Loses start all (record { fault = fault; remains = record { ended = ended_of (left_of old.blocks) (left_of old.certs) left lowests old.pairs; watches = record old.watches { cache = w } } })
  Loses-cache left lowests fault w changes how = record {
    leaves = record {
      blocks = grew.leaves.blocks;
      certs = grew.leaves.certs;
      pairs = grew.leaves.pairs;
      cache = changed left lowests changes;
    };
    cause = FailsBy-then start.watches old.watches _ _ grew.passed (FailsBy-store old.watches cache_store w _ _ refl how);
  }
