use Rattle.std.proofs.Common.{arith, inr}
use Rattle.std.proofs.lemmas.Result.{err_from_is_err_and}
use Rattle.mar_cert.specs.MockViews.{plain_signers}
use Rattle.mar_cert.specs.SignersLemmas.{no_certificate}
use Rattle.mar_cert.proofs.SignerSteps.{certificate_taken, few_asked, no_front, refused_count, signers_err, too_many}
use Rattle.mar_cert.proofs.mock.MockCertificateRead.read_cfg.Goals as goal

pub returns-in_err-count-clause-err : goal.returns-in_err-count-clause-err
returns-in_err-count-clause-err g c =
    let p = err_from_is_err_and c.from_residual.result c.from_residual.ensures.1 in
    rw (p.1, p.2) (no_front _ _ _ (omega arith) (refused_count _ _ _ c.in_err-count.ensures.cause))

pub returns-then-count-members-clause-err : goal.returns-then-count-members-clause-err
returns-then-count-members-clause-err g c = inr (no_certificate _ _ _ (omega arith) (too_many _ _ _ _ c.in_ok-count.ensures.ok c.if-count-members.true))

pub returns-clause-ok : goal.returns-clause-ok
returns-clause-ok g c = certificate_taken c.read_signers.result plain_signers _ _ _ _ _ c.in_ok-count.ensures.ok.taken c.read_signers.ensures.count c.read_signers.ensures.signers c.read_signers.ensures.taken

pub returns-clause-err : goal.returns-clause-err
returns-clause-err g c = signers_err c.read_signers.result _ _ _ _ (omega arith) c.in_ok-count.ensures.ok.taken c.if-count-members.false c.read_signers.ensures.cause

pub returns-clause-counted : goal.returns-clause-counted
returns-clause-counted g c = few_asked c.read_signers.result _ _ _ _ c.in_ok-count.ensures.ok.taken c.if-count-members.false
