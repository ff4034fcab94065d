-- What a search finds in a cache whose entries are small is small.
use Rattle.std.proofs.Common.{Bool, Contains, List, None, Option, Some, [], arith, cond, false, refl, subst, suc, true, zero, ℕ, ◌∷◌, ◌≡◌}
use Rattle.std.specs.Prelude.{option_and_then}
use Rattle.mar_cert.specs.Block.{Block}
use Rattle.mar_store.specs.Kept.{Kept}
use Rattle.mar_store.specs.Sizes.{IsSmall}
use Rattle.mar_model.specs.AllEntries.{is_sooner, sooner_of, soonest}
use Rattle.mar_model.specs.CacheCalls.{IsNestedCache}
use Rattle.mar_model.specs.Cached.{Cached, cached_block, certified_entry, finalization_entry, notarization_entry, notarized_entry, verified_entry}
use Rattle.mar_model.specs.SmallEntries.{AreSmallEntries, IsSmallEntry}

-- what is held may be left
pub small_held : (kept : Kept Cached) (lowest : ℕ) (loaded : Bool) → IsNestedCache kept lowest loaded → AreSmallEntries kept.may → AreSmallEntries kept.held
small_held kept lowest loaded nested small x has = small x (nested.held_may x has)

is_it : (x y : Cached) → ◌≡◌ {A = Option Cached} (Some x) (Some y) → x ≡ y
is_it x y is = cc

pub soonest_held : (p : Cached → Bool) (xs : List Cached) (x : Cached) → soonest p xs ≡ Some x → Contains xs x
soonest_held p [] x is = absurd cc
soonest_held p (y ∷ ys) x is = by (p y) (soonest p ys) (soonest_held p ys x) is
  where
    more : Contains ys x → Contains (y ∷ ys) x
    more (k, less, at) = (suc k, omega (arith, less), at)

    first : (c : Bool) (z : Cached) → (Some z ≡ Some x → Contains ys x) → cond c (Some z) (Some y) ≡ Some x → Contains (y ∷ ys) x
    first true z rest e = more (rest e)
    first false z rest e = (zero, omega arith, is_it y x e)

    by : (b : Bool) (o : Option Cached) → (o ≡ Some x → Contains ys x) → cond b (sooner_of y o) o ≡ Some x → Contains (y ∷ ys) x
    by true None rest e = (zero, omega arith, is_it y x e)
    by true (Some z) rest e = first (is_sooner z y) z rest e
    by false o rest e = more (rest e)

pub small_found : (p : Cached → Bool) (xs : List Cached) (x : Cached) → AreSmallEntries xs → soonest p xs ≡ Some x → IsSmallEntry x
small_found p xs x small is = small x (soonest_held p xs x is)

-- the block of an entry that is found
pub small_block : (p : Cached → Bool) (xs : List Cached) (b : Block) → AreSmallEntries xs → option_and_then cached_block (soonest p xs) ≡ Some b → IsSmall b.encoded
small_block p xs b small is = by (soonest p xs) (λ x. small_found p xs x small) is
  where
    same : (c : Block) → ◌≡◌ {A = Option Block} (Some c) (Some b) → IsSmall c.encoded → IsSmall b.encoded
    same c e small_c = let same_c : c ≡ b = cc in subst (λ y. IsSmall y.encoded) same_c small_c

    of_entry : (x : Cached) → IsSmallEntry x → cached_block x ≡ Some b → IsSmall b.encoded
    of_entry (finalization_entry f) small_x e = absurd cc
    of_entry (verified_entry r c) small_x e = same c e small_x
    of_entry (notarized_entry r c) small_x e = same c e small_x
    of_entry (certified_entry k c) small_x e = same c e small_x
    of_entry (notarization_entry n) small_x e = absurd cc

    by : (o : Option Cached) → ((x : Cached) → o ≡ Some x → IsSmallEntry x) → option_and_then cached_block o ≡ Some b → IsSmall b.encoded
    by None small_o e = absurd cc
    by (Some x) small_o e = of_entry x (small_o x refl) e
