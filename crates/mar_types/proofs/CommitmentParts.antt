-- The parts that a commitment is made of.
use Rattle.std.proofs.Common.{List, ap, length, refl, sym, ℕ, ◌∙◌, ◌≡◌}
use Rattle.std.specs.List.{AllByRecursion}
use Rattle.mar_types.specs.Digest.{IsByte, IsBytes}
use Rattle.mar_types.specs.Coding.{commitment_bytes}

-- what spells a digest of one size is so many bytes
pub digest_is_bytes : (size : ℕ) (encoded bytes : List ℕ) → encoded ≡ bytes → length encoded ≡ size → AllByRecursion IsByte bytes → IsBytes size bytes
digest_is_bytes size encoded bytes spelled sized all = (ap length (sym spelled) ∙ sized, all)

-- parts that are the same make the same
pub parts_are : (block root context config block' root' context' config' : List ℕ) → block ≡ block' → root ≡ root' → context ≡ context' → config ≡ config' → commitment_bytes block root context config ≡ commitment_bytes block' root' context' config'
parts_are block root context config block' root' context' config' b r c k = rw (b, r, c, k) refl
