use Rattle.std.proofs.Common.{arith, length, rules, sym, ◌<◌, ◌^◌, ◌∙◌, ◌≡◌, refl}
use Rattle.std.proofs.lemmas.Bool.{leb-true}
use Rattle.mar_cert.specs.MockViews.{plain_signers}
use Rattle.mar_cert.specs.Signers.{certificate_bytes}
use Rattle.mar_cert.specs.Views.{certified_of, plain_subject, proposal_of}
use Rattle.mar_cert.proofs.Verdicts.{by_tags, exactly, not_in_order, too_few}
use Rattle.mar_cert.proofs.mock_scheme.MockSchemeScheme.verify.Goals as goal
use Rattle.mar_cert.proofs.mock_scheme.MockSchemeScheme.verify.Goals.{else-len-quorum, then-len-quorum}

pub returns-then-is_ascending-clause-verdict : goal.returns-then-is_ascending-clause-verdict
returns-then-is_ascending-clause-verdict g c =
    let signers = c.args.certificate.now.signers.items in
    let subject = plain_subject c.args.subject.now in
    let f = certified_of g.D.Named.bytes (λ k. certificate_bytes (plain_signers k)) (proposal_of c.args.subject.now) c.args.certificate.now in
    let long : length signers ≡ c.len.result = search rules in
    let count : length signers < 2 ^ 64 = omega (arith, long, c.len.type_inv) in
    rw (← c.self.view_is) (
    elim c.if-len-quorum.branch [
      | then-len-quorum w ↦ by_tags c.self.inside.members subject f signers c.is_signed.result count refl
          (omega (arith, long, c.quorum.ensures, w.if-len-quorum.true)) (sym w.is_ascending.ensures ∙ sym w.value-is ∙ c.if-is_ascending.true) c.is_signed.ensures
      | else-len-quorum w ↦ absurd (omega (arith, leb-true c.quorum.result c.len.result (sym w.value-is ∙ c.if-is_ascending.true), w.if-len-quorum.false))
    ]
    )

pub returns-else-is_ascending-clause-verdict : goal.returns-else-is_ascending-clause-verdict
returns-else-is_ascending-clause-verdict g c =
    let signers = c.args.certificate.now.signers.items in
    let subject = plain_subject c.args.subject.now in
    let f = certified_of g.D.Named.bytes (λ k. certificate_bytes (plain_signers k)) (proposal_of c.args.subject.now) c.args.certificate.now in
    let long : length signers ≡ c.len.result = search rules in
    let count : length signers < 2 ^ 64 = omega (arith, long, c.len.type_inv) in
    rw (← c.self.view_is) (
    c.if-is_ascending.false
    ∙ elim c.if-len-quorum.branch [
      | then-len-quorum w ↦ not_in_order c.self.inside.members subject f signers count refl (sym w.is_ascending.ensures ∙ sym w.value-is ∙ c.if-is_ascending.false)
      | else-len-quorum w ↦ too_few c.self.inside.members subject f signers count refl (omega (arith, long, c.quorum.ensures, w.if-len-quorum.false))
    ]
    )

pub returns-then-is_ascending-clause-exact : goal.returns-then-is_ascending-clause-exact
returns-then-is_ascending-clause-exact g c =
    let long : length c.args.certificate.now.signers.items ≡ c.len.result = search rules in
    exactly _ _ _ c.args.certificate.now.signers.items _ (omega (arith, c.self.view_is, c.self.invariant.1)) (omega (arith, long, c.len.type_inv)) refl (returns-then-is_ascending-clause-verdict g c)

pub returns-else-is_ascending-clause-exact : goal.returns-else-is_ascending-clause-exact
returns-else-is_ascending-clause-exact g c =
    let long : length c.args.certificate.now.signers.items ≡ c.len.result = search rules in
    exactly _ _ _ c.args.certificate.now.signers.items _ (omega (arith, c.self.view_is, c.self.invariant.1)) (omega (arith, long, c.len.type_inv)) refl (returns-else-is_ascending-clause-verdict g c)
