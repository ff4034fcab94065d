-- Finalizations and blocks of the code as plain data.
use Rattle.sha2.specs.Sha256.{sha256}
use Rattle.mar_types.specs.declared.Sha256.{Sha256}
use Rattle.mar_types.specs.declared.Sha256Digest.{Sha256Digest}
use Rattle.mar_cert.specs.Block.{Block}
use Rattle.mar_cert.specs.Finalization.{Finalization}
use Rattle.mar_cert.specs.MockViews.{plain_signers}
use Rattle.mar_cert.specs.Signers.{certificate_bytes}
use Rattle.mar_cert.specs.Views.{final_of}
use Rattle.mar_cert.specs.declared.Finalization.{Finalization as FinalizationCode}
use Rattle.mar_cert.specs.declared.MockCertificate.{MockCertificate}
use Rattle.mar_block.specs.EmptyBlock.{block_bytes, block_message, standard_block}
use Rattle.mar_block.specs.declared.EmptyBlock.{EmptyBlock}

abbrev pub plain_block : EmptyBlock Sha256 Sha256Digest → Block
plain_block b =
    standard_block (λ e. sha256 (block_message e.parent.bytes e.height e.timestamp)) (λ e. e.height) (λ e. e.parent.bytes)
    (λ e. block_bytes e.parent.bytes e.height e.timestamp) b

abbrev pub plain_finalization : FinalizationCode Sha256Digest MockCertificate → Finalization
plain_finalization f = final_of (λ digest. digest.bytes) (λ c. certificate_bytes (plain_signers c)) f
