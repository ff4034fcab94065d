-- A block as plain data, and what it looks like as bytes.
use Rattle.std.specs.Int.{to_be_bytes, w64}
use Rattle.std.specs.Prelude.{List, ℕ, ◌++◌, ◌≡◌}
use Rattle.sha2.specs.Sha256.{sha256}
use Rattle.mar_cert.specs.Finalization.{Finalization, finalization_bytes}
use Rattle.mar_types.specs.Varint.{IsNumber, varint}
use Rattle.mar_types.specs.Digest.{IsDigest}

-- a block's parts; `encoded` is what it looks like as bytes
pub record Block : Type 0 where
  pub digest : List ℕ
  pub commitment : List ℕ
  pub height : ℕ
  pub parent : List ℕ
  pub parent_commitment : List ℕ
  pub encoded : List ℕ

-- A block of parent, height and timestamp. Its commitment is its digest.
pub record IsBlock (b : Block) : Type 0 where
  pub timestamp : ℕ
  pub timestamp_fits : IsNumber timestamp
  pub height_fits : IsNumber b.height
  pub parent_fits : IsDigest b.parent
  pub bytes : b.encoded ≡ b.parent ++ varint b.height ++ varint timestamp
  pub digest_is : b.digest ≡ sha256 (b.parent ++ to_be_bytes w64 b.height ++ to_be_bytes w64 timestamp)
  pub commitment_is : b.commitment ≡ b.digest
  pub parent_commitment_is : b.parent_commitment ≡ b.parent

-- a finalization, then a block; a notarization, then a block
abbrev pub certified_bytes : Finalization → Block → List ℕ
certified_bytes f b = finalization_bytes f ++ b.encoded
