use Rattle.std.proofs.Common.{ap, map, sym, ◌∙◌}
use Rattle.mar_cert.specs.MockScheme.{is_ascending_from}
use Rattle.mar_cert.specs.MockViews.{plain_signer}
use Rattle.mar_cert.proofs.Verdicts.{below_low, next_in_order, no_member}
use Rattle.mar_cert.proofs.mock_scheme.is_ascending.Goals as goal
use Rattle.mar_cert.proofs.mock_scheme.is_ascending.Goals.{then-signer-low-via-then-signer-low, then-signer-low-via-else-signer-low+then-signer-members}

pub returns-then-signer-low : goal.returns-then-signer-low
returns-then-signer-low c =
    let here = ap (λ signers. is_ascending_from c.args.members 0 (map plain_signer signers)) (sym c.deref-signer-items.ensures.value) ∙ c.signers.invariant
    ∙ next_in_order c.args.members c.signers.low c.signers.signer-index c.deref-signer-items.result.now c.signer-item.result c.signers-test.true c.signer-item.is in
    elim c.then-signer-low.branch [
      | then-signer-low-via-then-signer-low w ↦ sym (here ∙ below_low _ _ _ _ w.if-signer-low.true)
      | then-signer-low-via-else-signer-low+then-signer-members w ↦ sym (here ∙ no_member _ _ _ _ w.if-signer-members.true)
    ]
