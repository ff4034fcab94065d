use Rattle.std.proofs.Common.{ap, arith, drop, length, length-append, rules, ◌+◌, ◌≡◌}
use Rattle.std.specs.List.{flat_map}
use Rattle.mar_types.specs.Varint.{varint}
use Rattle.mar_types.specs.VarintLemmas.{length-varint}
use Rattle.mar_cert.specs.MockScheme.{signer_bytes}
use Rattle.mar_cert.specs.MockViews.{plain_signer}
use Rattle.mar_cert.specs.declared.signer.Signer.{Signer}
use Rattle.mar_cert.proofs.PartsWritten.{flat_map-drop}
use Rattle.mar_cert.proofs.SignerSteps.{certificate_parts}
use Rattle.mar_cert.proofs.mock.MockCertificateEncodeSize.encode_size.Goals as goal

pub signers-init : goal.signers-init
signers-init c =
    let long : length c.args.self.now.signers.items ≡ c.len.result = search rules in
    let parts = certificate_parts _ _ _ long c.deref-signer-items.ensures.value in
    record {
      sized = omega (arith, ap length parts, length-append (varint c.len.result) (flat_map (λ s. signer_bytes (plain_signer s)) c.deref-signer-items.result.now), c.encode_size-size.ensures);
      within = omega (arith, c.encode_size-size.ensures, length-varint c.len.result);
    }

pub overflow_add-size : goal.overflow_add-size
overflow_add-size c = omega (arith, c.deref-signer-items.type_inv, c.signers.invariant.within, c.encode_size-size-in-signers.ensures.within)

pub signers-preserved : goal.signers-preserved
signers-preserved c =
    let bytes = λ (s : Signer). signer_bytes (plain_signer s) in
    let items = c.deref-signer-items.result.now in
    let next = flat_map-drop bytes items c.signers.signer-index c.signer-item.result c.signers-test.true c.signer-item.is in
    record {
      sized = omega (arith, ap length next, length-append (bytes c.signer-item.result) (flat_map bytes (drop (c.signers.signer-index + 1) items)), c.encode_size-size-in-signers.ensures.size, c.signers.invariant.sized);
      within = omega (arith, c.signers.invariant.within, c.encode_size-size-in-signers.ensures.within);
    }
