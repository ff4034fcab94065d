-- The bytes of a block spell that block alone.
use Rattle.std.proofs.Common.{List, ap, append_assoc, arith, length, length-append, refl, sym, ℕ, ◌++◌, ◌+◌, ◌∙◌, ◌≡◌, ◌≤◌}
use Rattle.sha2.specs.Sha256.{sha256}
use Rattle.mar_types.specs.Codec.{IsUnambiguous, Joined}
use Rattle.mar_types.specs.CodecLemmas.{joined_unambiguous}
use Rattle.mar_types.specs.Digest.{IsDigest}
use Rattle.mar_types.specs.Varint.{IsVarint, varint}
use Rattle.mar_types.specs.VarintLemmas.{length-varint, varint-injective, varint_unambiguous}
use Rattle.mar_cert.specs.SignersLemmas.{same_rest, varint_rest}
use Rattle.mar_cert.specs.Block.{Block, IsBlock}
use Rattle.mar_block.specs.EmptyBlock.{SpellsBlock, block_bytes, block_message}

pub block_unambiguous : (Parent : List ℕ → Type 0) → IsUnambiguous Parent → IsUnambiguous (SpellsBlock Parent)
block_unambiguous Parent one = joined_unambiguous Parent (Joined IsVarint IsVarint) one (joined_unambiguous IsVarint IsVarint varint_unambiguous varint_unambiguous)

-- a block takes at most 20 bytes beside its parent
pub length-block_bytes-within : (parent : List ℕ) (height timestamp size : ℕ) → length parent ≡ size → length (block_bytes parent height timestamp) ≤ size + 20
length-block_bytes-within parent height timestamp size long =
    omega (arith, long, length-append (parent ++ varint height) (varint timestamp), length-append parent (varint height), length-varint height, length-varint timestamp)

-- two blocks of one spelling have one parent, one height and one timestamp, and so one digest
pub block_identified : (digest_of : List ℕ → List ℕ) (parent parent' : List ℕ) (height timestamp height' timestamp' : ℕ) (bytes bytes' : List ℕ) → length parent ≡ length parent' → parent ≡ bytes → parent' ≡ bytes'
    → block_bytes parent height timestamp ≡ block_bytes parent' height' timestamp' → digest_of (block_message bytes height timestamp) ≡ digest_of (block_message bytes' height' timestamp')
block_identified digest_of parent parent' height timestamp height' timestamp' bytes bytes' long is is' e =
    let joined = sym (append_assoc parent (varint height) (varint timestamp)) ∙ e ∙ append_assoc parent' (varint height') (varint timestamp') in
    let parents = same_rest parent parent' (varint height ++ varint timestamp) (varint height' ++ varint timestamp') long joined in
    let heights = varint_rest height height' (varint timestamp) (varint timestamp') parents.1 in
    let timestamps = varint-injective timestamp timestamp' heights.1 in
    ap (λ p. digest_of (block_message p height timestamp)) (sym is ∙ parents.0 ∙ is')
    ∙ ap (λ h. digest_of (block_message bytes' h timestamp)) heights.0
    ∙ ap (λ t. digest_of (block_message bytes' height' t)) timestamps

-- a block at SHA-256 takes at most 52 bytes
pub length-block_bytes : (parent : List ℕ) (height timestamp : ℕ) → length parent ≡ 32 → length (block_bytes parent height timestamp) ≤ 52
length-block_bytes parent height timestamp long =
    omega (arith, long, length-append (parent ++ varint height) (varint timestamp), length-append parent (varint height), length-varint height, length-varint timestamp)

-- a block has a spelling
pub spelled_block : (b : Block) → IsBlock b → SpellsBlock IsDigest b.encoded
spelled_block b is = record {
  first = b.parent;
  second = varint b.height ++ varint is.timestamp;
  first_is = is.parent_fits;
  second_is = record {
    first = varint b.height;
    second = varint is.timestamp;
    first_is = record { number = b.height; fits = is.height_fits; spelled = refl };
    second_is = record { number = is.timestamp; fits = is.timestamp_fits; spelled = refl };
    spelled = refl;
  };
  spelled = is.bytes ∙ append_assoc b.parent (varint b.height) (varint is.timestamp);
}

-- and what is such a spelling is a block's
pub block_spelled : (bytes : List ℕ) → SpellsBlock IsDigest bytes → (b : Block) × IsBlock b × (b.encoded ≡ bytes)
block_spelled bytes is =
    let parent = is.first in
    let height = is.second_is.first_is in
    let timestamp = is.second_is.second_is in
    let digest = sha256 (block_message parent height.number timestamp.number) in
    let spelled = is.spelled ∙ ap (λ bs. parent ++ bs) (is.second_is.spelled ∙ ap (λ bs. bs ++ is.second_is.second) height.spelled ∙ ap (λ bs. varint height.number ++ bs) timestamp.spelled)
    ∙ sym (append_assoc parent (varint height.number) (varint timestamp.number)) in (
      record { digest = digest; commitment = digest; height = height.number; parent = parent; parent_commitment = parent; encoded = block_bytes parent height.number timestamp.number },
      record {
        timestamp = timestamp.number;
        timestamp_fits = timestamp.fits;
        height_fits = height.fits;
        parent_fits = is.first_is;
        bytes = refl;
        digest_is = refl;
        commitment_is = refl;
        parent_commitment_is = refl;
      },
      sym spelled,
    )

block_is : (b : Block) (is : IsBlock b) → b ≡ record {
  digest = sha256 (block_message b.parent b.height is.timestamp);
  commitment = sha256 (block_message b.parent b.height is.timestamp);
  height = b.height;
  parent = b.parent;
  parent_commitment = b.parent;
  encoded = block_bytes b.parent b.height is.timestamp;
}
block_is b is =
    ap (λ d. record { digest = d; commitment = b.commitment; height = b.height; parent = b.parent; parent_commitment = b.parent_commitment; encoded = b.encoded }) is.digest_is
    ∙ ap (λ d. record { digest = message; commitment = d; height = b.height; parent = b.parent; parent_commitment = b.parent_commitment; encoded = b.encoded }) (is.commitment_is ∙ is.digest_is)
    ∙ ap (λ d. record { digest = message; commitment = message; height = b.height; parent = b.parent; parent_commitment = d; encoded = b.encoded }) is.parent_commitment_is
    ∙ ap (λ d. record { digest = message; commitment = message; height = b.height; parent = b.parent; parent_commitment = b.parent; encoded = d }) is.bytes
  where
    message : List ℕ
    message = sha256 (block_message b.parent b.height is.timestamp)

-- two blocks of the same bytes are one
pub same_block : (b c : Block) → IsBlock b → IsBlock c → b.encoded ≡ c.encoded → b ≡ c
same_block b c is also e =
    let joined = sym (append_assoc b.parent (varint b.height) (varint is.timestamp)) ∙ sym is.bytes ∙ e ∙ also.bytes ∙ append_assoc c.parent (varint c.height) (varint also.timestamp) in
    let parents = same_rest b.parent c.parent (varint b.height ++ varint is.timestamp) (varint c.height ++ varint also.timestamp) (is.parent_fits.0 ∙ sym also.parent_fits.0) joined in
    let heights = varint_rest b.height c.height (varint is.timestamp) (varint also.timestamp) parents.1 in
    let timestamps = varint-injective is.timestamp also.timestamp heights.1 in
    block_is b is
    ∙ ap (λ p. made p b.height is.timestamp) parents.0
    ∙ ap (λ h. made c.parent h is.timestamp) heights.0
    ∙ ap (λ t. made c.parent c.height t) timestamps
    ∙ sym (block_is c also)
  where
    made : List ℕ → ℕ → ℕ → Block
    made p h t = record {
      digest = sha256 (block_message p h t);
      commitment = sha256 (block_message p h t);
      height = h;
      parent = p;
      parent_commitment = p;
      encoded = block_bytes p h t;
    }
