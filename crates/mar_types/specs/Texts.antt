-- The words that a refusal prints.
use Rattle.std.specs.Prelude.{List, codes, ℕ}
use Rattle.mar_types.specs.declared.error.Kind.{Kind}
use Rattle.mar_types.specs.declared.error.Kind.TheVariants.{Block, Certificate, Commitment}
use Rattle.mar_types.specs.declared.error.Reason.{Reason}
use Rattle.mar_types.specs.declared.error.Reason.TheVariants.{BlockDigest, CodingConfig, CodingRoot, ContextDigest, DigestMismatch, DigestPadding, Signers}

abbrev pub kind_text : Kind → List ℕ
kind_text Block = codes "Block"
kind_text Certificate = codes "Certificate"
kind_text Commitment = codes "Commitment"

abbrev pub reason_text : Reason → List ℕ
reason_text DigestMismatch = codes "digest mismatch"
reason_text Signers = codes "signers"
reason_text BlockDigest = codes "invalid block digest"
reason_text CodingRoot = codes "invalid coding root"
reason_text ContextDigest = codes "invalid context digest"
reason_text DigestPadding = codes "non-zero digest padding"
reason_text CodingConfig = codes "invalid embedded CodingConfig"
