use Rattle.std.proofs.Common.{◌∙◌}
use Rattle.mar_types.specs.CommitmentLemmas.{joins_parts}
use Rattle.mar_types.proofs.CommitmentParts.{digest_is_bytes, parts_are}
use Rattle.mar_types.proofs.commitments.CommitmentFromTuple4DigestCommitmentDigestCodingConfig.from.Goals as goal

pub returns : goal.returns
returns g c =
    let parts = c.args.parts in
    joins_parts _ _ _ _ _ _ _ _ _ _ _
    (c.from_slice.ensures ∙ c.assemble.ensures ∙ parts_are _ _ _ _ _ _ _ _ c.field_bytes.ensures.bytes c.field_bytes-2.ensures.bytes c.field_bytes-3.ensures.bytes c.to_bytes.ensures.bytes)
    (digest_is_bytes _ _ _ (g.met.B.Digest.Digest.spelled parts.0) (g.met.B.Digest.FixedSize.sized parts.0) (g.met.B.Digest.Digest.are_bytes parts.0)) g.met.B.Digest.FieldDigest.fits_field
    (digest_is_bytes _ _ _ (g.met.C.Commitment.Digest.spelled parts.1) (g.met.C.Commitment.FixedSize.sized parts.1) (g.met.C.Commitment.Digest.are_bytes parts.1)) g.met.C.Commitment.FieldDigest.fits_field
    (digest_is_bytes _ _ _ (g.met.H.Digest.Digest.spelled parts.2) (g.met.H.Digest.FixedSize.sized parts.2) (g.met.H.Digest.Digest.are_bytes parts.2)) g.met.H.Digest.FieldDigest.fits_field
    (rw c.to_bytes.ensures.bytes at c.to_bytes.ensures.spelled)
