use Rattle.std.proofs.Common.{ap, arith, length, sym, ◌∙◌, ◌≤◌}
use Rattle.mar_key.specs.KeyBytes.{length-key_bytes}
use Rattle.mar_block.proofs.PayloadBounds.{not_stopped, ok_both, sizes_enough}
use Rattle.mar_block.proofs.payload_sizes.max_backfill_size.Goals as goal

pub returns-clause-enough : goal.returns-clause-enough
returns-clause-enough g c =
    let of_key = length-key_bytes g.V.Commitment.Named.bytes g.V.Commitment.FixedSize.SIZE (λ d. sym (ap length (g.met.V.Commitment.Digest.spelled d)) ∙ g.met.V.Commitment.FixedSize.sized d) in
    let of_signed = c.max_encode_size-signed.ensures.within in
    ok_both c.backfill_size.result _ _ _
    (λ n is fits. sizes_enough _ _ _ _ _ _ _ _ (λ a. length (g.V.ApplicationBlock.Write.encoded a) ≤ c.args.application) _ _ _ c.args.application n of_key of_signed
    (λ m. of_signed (record { proposal = m.proposal; certificate = m.certificate }))
    (λ a commitment commits short. g.met.V.WireVariant.backfills a commitment c.args.application commits short) (λ a short. short)
    (not_stopped _ _ _ _ _ _ _ _ _ c.MAX_ENCODE_SIZE-key.ensures c.max_encode_size-signed.ensures.size (omega arith) c.max_backfill_block_size-block.ensures is fits))
    c.backfill_size.ensures.formula c.backfill_size.ensures.fits
