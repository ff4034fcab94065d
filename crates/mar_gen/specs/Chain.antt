-- The chain that a seed makes: its blocks, and the finalization of each height.
use Rattle.std.specs.Prelude.{List, [], replicate, suc, zero, ℕ, ◌%◌, ◌++◌, ◌+◌, ◌/◌, ◌∷◌}
use Rattle.sha2.specs.Sha256.{sha256}
use Rattle.mar_types.specs.Round.{Round, round_bytes}
use Rattle.mar_types.specs.Varint.{varint}
use Rattle.mar_cert.specs.Block.{Block}
use Rattle.mar_cert.specs.Finalization.{Finalization, finalize}
use Rattle.mar_cert.specs.MockScheme.{Signer, tag_over}
use Rattle.mar_cert.specs.MockViews.{plain_signers}
use Rattle.mar_cert.specs.Signers.{certificate_bytes}
use Rattle.mar_cert.specs.Views.{final_of}
use Rattle.mar_cert.specs.declared.Finalization.{Finalization as FinalizationCode}
use Rattle.mar_cert.specs.declared.MockCertificate.{MockCertificate}
use Rattle.mar_types.specs.declared.Sha256.{Sha256}
use Rattle.mar_types.specs.declared.Sha256Digest.{Sha256Digest}
use Rattle.mar_block.specs.EmptyBlock.{block_bytes, block_message, standard_block}
use Rattle.mar_block.specs.declared.EmptyBlock.{EmptyBlock}
use Rattle.mar_model.specs.Chain.{Chain, Final}
use Rattle.mar_gen.specs.Draws.{drawn}

-- the blocks and finalizations of the code as plain data
abbrev pub plain_block : EmptyBlock Sha256 Sha256Digest → Block
plain_block b =
    standard_block (λ e. sha256 (block_message e.parent.bytes e.height e.timestamp)) (λ e. e.height) (λ e. e.parent.bytes) (λ e. block_bytes e.parent.bytes e.height e.timestamp) b

abbrev pub plain_finalization : FinalizationCode Sha256Digest MockCertificate → Finalization
plain_finalization f = final_of (λ digest. digest.bytes) (λ c. certificate_bytes (plain_signers c)) f

-- the block of this parent, height and timestamp
abbrev pub block_of : List ℕ → ℕ → ℕ → Block
block_of parent height timestamp = record {
  digest = sha256 (block_message parent height timestamp);
  commitment = sha256 (block_message parent height timestamp);
  height = height;
  parent = parent;
  parent_commitment = parent;
  encoded = block_bytes parent height timestamp;
}

-- block 0 has no parent and the seed as its timestamp; each later one has the digest before it and a draw
unfoldable pub made_block : ℕ → ℕ → Block
made_block seed zero = block_of (replicate 32 0) 0 seed
made_block seed (suc i) = block_of (made_block seed i).digest (suc i) (drawn seed (suc i))

-- blocks 0 to n
unfoldable pub made_blocks : ℕ → ℕ → List Block
made_blocks seed zero = made_block seed 0 ∷ []
made_blocks seed (suc n) = made_blocks seed n ++ made_block seed (suc n) ∷ []

-- epochs have ten heights; a height is finalized in its epoch, in the view of its place there, counted from 1
abbrev pub round_of : ℕ → Round
round_of h = record { epoch = h / 10; view = h % 10 + 1 }

-- heights 1 to n, each in its round
unfoldable pub made_finals : ℕ → List Final
made_finals zero = []
made_finals (suc n) = made_finals n ++ record { round = round_of (suc n); height = suc n } ∷ []

abbrev pub made_chain : ℕ → ℕ → Chain
made_chain seed n = record { blocks = made_blocks seed n; finals = made_finals n }

-- a member's part of a certificate over this payload at this height
abbrev pub signed : ℕ → List ℕ → ℕ → Signer
signed h payload member = record { member = member; tag = tag_over finalize (round_bytes (round_of h) ++ varint (h % 10) ++ payload) member }

-- three of four members finalize this payload at this height
abbrev pub finalized : ℕ → List ℕ → Finalization
finalized h payload = record {
  round = round_of h;
  parent = h % 10;
  payload = payload;
  certificate = certificate_bytes (signed h payload 0 ∷ signed h payload 1 ∷ signed h payload 2 ∷ []);
}

-- the finalization of this height
abbrev pub made_finalization : ℕ → ℕ → Finalization
made_finalization seed h = finalized h (made_block seed h).digest
