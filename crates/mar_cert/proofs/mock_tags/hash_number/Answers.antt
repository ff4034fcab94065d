use Rattle.std.proofs.Common.{append_assoc, ap, arith, sym, [], ◌%◌, ◌+◌, ◌++◌, ◌/◌, ◌∙◌, ◌∷◌}
use Rattle.mar_types.specs.Varint.{varint}
use Rattle.mar_types.specs.VarintLemmas.{varint-large, varint-small}
use Rattle.mar_cert.proofs.mock_tags.hash_number.Goals as goal

pub bytes-preserved : goal.bytes-preserved
bytes-preserved g c = record {
  fits = omega (arith, c.bytes.invariant.fits);
  held = λ before start.
      let before_now = c.bytes.invariant.held before start in
      let byte = c.bytes.left % 128 + 128 in (
        before_now.0 ++ byte ∷ [],
        rw (← append_assoc before before_now.0 (byte ∷ [])) (c.update.ensures (before ++ before_now.0) before_now.1),
        before_now.2 ∙ ap (λ rest. before_now.0 ++ rest) (varint-large c.bytes.left c.bytes-test.true c.bytes.invariant.fits) ∙ sym (append_assoc before_now.0 (byte ∷ []) (varint (c.bytes.left / 128))),
      );
}

pub returns : goal.returns
returns g c = λ before start.
    let before_now = c.bytes.invariant.held before start in
    let spelled = before_now.2 ∙ ap (λ rest. before_now.0 ++ rest) (varint-small c.bytes.left c.bytes-test.false) in
    rw (spelled, ← append_assoc before before_now.0 (c.bytes.left ∷ [])) (c.update-2.ensures (before ++ before_now.0) before_now.1)
