-- What stands in an archive of blocks: each at its own height, under the digest that its commitment names, and small.
use Rattle.std.specs.Prelude.{Bool, List, [], bytes_eq, length, nat_le, true, ℕ, ◌&&◌, ◌==◌, ◌∷◌, ◌≡◌}
use Rattle.std.specs.List.{AllByRecursion}
use Rattle.std.proofs.Common.{eqb-true, false, leb-true, refl}
use Rattle.std.proofs.lemmas.Slice.Eq.{bytes_eq-Decides}
use Rattle.mar_store.specs.Kept.{At}
use Rattle.mar_cert.specs.Block.{Block}
use Rattle.mar_model.specs.Stored.{AreOwn}
use Rattle.mar_store.specs.Sizes.{IsSmall}

-- the block may stand at this index
abbrev pub fits_at : (List ℕ → List ℕ) → ℕ → Block → Bool
fits_at inner index b = b.height == index && (bytes_eq (inner b.commitment) b.digest && nat_le (length b.encoded) 1048576)

left_of_and : (a b : Bool) → (a && b) ≡ true → a ≡ true
left_of_and true b both = refl
left_of_and false b both = both

right_of_and : (a b : Bool) → (a && b) ≡ true → b ≡ true
right_of_and true b both = both
right_of_and false true both = refl
right_of_and false false both = both

own_heights : (inner : List ℕ → List ℕ) (xs : List (At Block)) → AllByRecursion (λ x. fits_at inner x.height x.value ≡ true) xs → AllByRecursion (λ x. x.value.height ≡ x.height) xs
own_heights inner [] all = tt
own_heights inner (x ∷ xs) all = (eqb-true x.value.height x.height (left_of_and _ _ all.0), own_heights inner xs all.1)

own_digests : (inner : List ℕ → List ℕ) (xs : List (At Block)) → AllByRecursion (λ x. fits_at inner x.height x.value ≡ true) xs → AllByRecursion (λ x. inner x.value.commitment ≡ x.value.digest) xs
own_digests inner [] all = tt
own_digests inner (x ∷ xs) all = ((bytes_eq-Decides (inner x.value.commitment) x.value.digest).0 (left_of_and _ _ (right_of_and _ _ all.0)), own_digests inner xs all.1)

own_sizes : (inner : List ℕ → List ℕ) (xs : List (At Block)) → AllByRecursion (λ x. fits_at inner x.height x.value ≡ true) xs → AllByRecursion (λ x. IsSmall x.value.encoded) xs
own_sizes inner [] all = tt
own_sizes inner (x ∷ xs) all = (leb-true (length x.value.encoded) 1048576 (right_of_and _ _ (right_of_and _ _ all.0)), own_sizes inner xs all.1)

pub own_blocks : (inner : List ℕ → List ℕ) (xs : List (At Block)) → AllByRecursion (λ x. fits_at inner x.height x.value ≡ true) xs → AreOwn inner xs
own_blocks inner xs all = record { heights = own_heights inner xs all; digests = own_digests inner xs all; small = own_sizes inner xs all }
