-- The bytes that are a block without content of a commitment, and those that are none.
use Rattle.std.proofs.Common.{Bool, List, ap, inl, inr, refl, subst, sym, ℕ, ◌∙◌, ◌≡◌, ◌⊎◌}
use Rattle.sha2.specs.Sha256.{sha256}
use Rattle.mar_types.specs.Digest.{IsDigest}
use Rattle.mar_types.specs.Epochs.{Epochs}
use Rattle.mar_types.specs.declared.Sha256.{Sha256}
use Rattle.mar_types.specs.declared.Sha256Digest.{Sha256Digest}
use Rattle.mar_cert.specs.Block.{Block, IsBlock}
use Rattle.mar_cert.specs.Finalization.{Finalization}
use Rattle.mar_block.specs.EmptyBlock.{SpellsBlock, block_bytes, block_message}
use Rattle.mar_block.specs.EmptyBlockLemmas.{same_block, spelled_block}
use Rattle.mar_block.specs.Expected.{Decodes}
use Rattle.mar_block.specs.Standard.{HasDigest, made_standard}
use Rattle.mar_block.specs.declared.EmptyBlock.{EmptyBlock}
use Rattle.mar_judge.specs.MockReading.{mock_rules}
use Rattle.mar_judge.specs.Rules.{IsBlockOf, IsNoBlockOf}

abbrev digest_of : EmptyBlock Sha256 Sha256Digest → List ℕ
digest_of b = sha256 (block_message b.parent.bytes b.height b.timestamp)

abbrev bytes_of : EmptyBlock Sha256 Sha256Digest → List ℕ
bytes_of b = block_bytes b.parent.bytes b.height b.timestamp

abbrev made_of : EmptyBlock Sha256 Sha256Digest → List ℕ → Block
made_of = made_standard digest_of (λ b. b.height) (λ b. b.parent.bytes) bytes_of

-- what a reader of such blocks takes
abbrev pub IsDecoded : List ℕ → List ℕ → Block → Type 0
IsDecoded = Decodes (SpellsBlock IsDigest) bytes_of (HasDigest digest_of) made_of

pub block_of : (n : ℕ) (epochs : Epochs) (scoped : ℕ → Bool) (verifies notarized : Finalization → Bool) (bytes commitment : List ℕ) (b : Block) → IsBlock b → IsDecoded bytes commitment b
    → IsBlockOf (mock_rules n epochs scoped verifies notarized) bytes commitment b
block_of n epochs scoped verifies notarized bytes commitment b is decoded =
    let spelled : b.encoded ≡ bytes = ap (λ c. c.encoded) decoded.made_is ∙ decoded.spelled in
    let digest : b.digest ≡ commitment = ap (λ c. c.digest) decoded.made_is ∙ decoded.commits in
    record {
      is = is;
      spelled = sym spelled;
      commitment_is = is.commitment_is ∙ digest;
      digest_is = digest;
      only = λ c also whole. ap (λ d. d.height) (same_block c b also is (sym whole ∙ sym spelled));
    }

pub no_block_of : (n : ℕ) (epochs : Epochs) (scoped : ℕ → Bool) (verifies notarized : Finalization → Bool) (bytes commitment : List ℕ) → ((b : Block) → IsDecoded bytes commitment b → ⊥)
    → IsNoBlockOf (mock_rules n epochs scoped verifies notarized) bytes commitment
no_block_of n epochs scoped verifies notarized bytes commitment none b is whole named =
    none (made_of read commitment) (record {
      application = read;
      in_grammar = subst (SpellsBlock IsDigest) (sym whole) (spelled_block b is);
      spelled = sym is.bytes ∙ sym whole;
      commits = sym is.digest_is ∙ digest named;
      made_is = refl;
    })
  where
    read : EmptyBlock Sha256 Sha256Digest
    read = record { parent = record { bytes = b.parent; is_digest = is.parent_fits }; height = b.height; timestamp = is.timestamp }

    digest : (b.commitment ≡ commitment) ⊎ (b.digest ≡ commitment) → b.digest ≡ commitment
    digest (inl e) = sym is.commitment_is ∙ e
    digest (inr e) = e
