-- Segments of the code as plain data.
use Rattle.std.specs.Prelude.{List, map}
use Rattle.sha2.specs.Sha256.{sha256}
use Rattle.mar_types.specs.declared.Sha256.{Sha256}
use Rattle.mar_types.specs.declared.Sha256Digest.{Sha256Digest}
use Rattle.mar_cert.specs.Block.{Block}
use Rattle.mar_cert.specs.Finalization.{Finalization}
use Rattle.mar_cert.specs.MockViews.{plain_signers}
use Rattle.mar_cert.specs.Signers.{certificate_bytes}
use Rattle.mar_cert.specs.Views.{final_of}
use Rattle.mar_cert.specs.declared.Finalization.{Finalization as FinalizationCode}
use Rattle.mar_cert.specs.declared.MockCertificate.{MockCertificate}
use Rattle.mar_block.specs.EmptyBlock.{block_bytes, block_message, standard_block}
use Rattle.mar_block.specs.declared.EmptyBlock.{EmptyBlock}
use Rattle.mar_follower.specs.Segments.{Segment}
use Rattle.mar_follower.specs.declared.segment.Segment.{Segment as SegmentCode}

abbrev pub plain_block : EmptyBlock Sha256 Sha256Digest → Block
plain_block b =
    standard_block (λ e. sha256 (block_message e.parent.bytes e.height e.timestamp)) (λ e. e.height) (λ e. e.parent.bytes) (λ e. block_bytes e.parent.bytes e.height e.timestamp) b

abbrev pub plain_blocks : List (EmptyBlock Sha256 Sha256Digest) → List Block
plain_blocks blocks = map plain_block blocks

abbrev pub plain_finalization : FinalizationCode Sha256Digest MockCertificate → Finalization
plain_finalization f = final_of (λ digest. digest.bytes) (λ c. certificate_bytes (plain_signers c)) f

abbrev pub plain_segment : SegmentCode → Segment
plain_segment s = record { finalization = plain_finalization s.finalization; top = plain_block s.top; others = plain_blocks s.others.items }
