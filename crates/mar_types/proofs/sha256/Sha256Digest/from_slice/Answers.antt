use Rattle.mar_types.specs.DigestLemmas.{is_bytes}
use Rattle.mar_types.proofs.sha256.Sha256Digest.from_slice.Goals as goal

pub invariant_of-result : goal.invariant_of-result
invariant_of-result c = rw c.copy_from_slice.ensures.after (record { is_digest = is_bytes 32 _ c.requires (λ k. (c.type_inv.slice k).fits) })
